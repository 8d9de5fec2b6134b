use Rattle.vmv_print.proofs.Derived.{canonical_read}
use Rattle.vmv_print.proofs.laws.canonical_text_is_read.Goals as goal

pub returns : goal.returns
returns c = canonical_read
