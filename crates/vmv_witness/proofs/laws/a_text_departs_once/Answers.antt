use Rattle.vmv_witness.proofs.OneFault.{one_syntax, one_range, syntax_no_range}
use Rattle.vmv_witness.proofs.laws.a_text_departs_once.Goals as goal

pub returns : goal.returns
returns c = record { syntax = one_syntax; range = one_range; apart = syntax_no_range }
