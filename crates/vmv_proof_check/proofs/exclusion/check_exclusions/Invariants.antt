use Rattle.std.proofs.Common.{take}
use Rattle.vmv_proof_check.specs.Parts.{AllPass}
use Rattle.vmv_proof_check.specs.Work.{AreCuts, AreNamed}
use Rattle.vmv_proof_check.proofs.exclusion.check_exclusions.Given as goal

abbrev pub invariant-loop-i : goal.invariant-loop-i
invariant-loop-i l = record { cuts : AreCuts l.base (take l.i l.exclusions) l.cuts; pass : AllPass l.base (take l.i l.exclusions); named : AreNamed l.base (take l.i l.exclusions) }
