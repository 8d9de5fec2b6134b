use Rattle.vmv_source.proofs.NoFault.{no_fault}
use Rattle.vmv_print.specs.Canonical.{canonical}
use Rattle.vmv_print.proofs.Derived.{canonical_read}
use Rattle.vmv_print.proofs.Saying.{text_written}
use Rattle.vmv_print.proofs.laws.canonical_text_has_no_fault.Goals as goal

pub returns : goal.returns
returns c = λ bytes program why text valid short fault. no_fault (canonical program) program why short (canonical_read program (text_written bytes program text)) valid fault
