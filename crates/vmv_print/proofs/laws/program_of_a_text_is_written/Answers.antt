use Rattle.vmv_print.proofs.Saying.{text_written}
use Rattle.vmv_print.proofs.laws.program_of_a_text_is_written.Goals as goal

pub returns : goal.returns
returns c = text_written
