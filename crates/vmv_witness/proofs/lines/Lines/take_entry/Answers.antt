use Rattle.std.proofs.Common.{refl}
use Rattle.std.proofs.lemmas.Bool.{false≢true}
use Rattle.vmv_witness.proofs.Parts.{not_entry}
use Rattle.vmv_witness.proofs.lines.Lines.take_entry.Goals as goal

pub returns-in_default-read : goal.returns-in_default-read
returns-in_default-read c =
    (refl, not_entry c.in-Some.bytes.now c.args.self.now c.take_behind.new.self c.in-Some.ensures.some (λ h. false≢true (c.in_default-read.ensures.some.1 h)))
