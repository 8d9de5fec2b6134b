use Rattle.std.proofs.Common.{take}
use Rattle.vmv_snapshot.specs.Resolution.{Resolution}
use Rattle.vmv_proof_check.specs.Work.{IsCutFor, AreNamed, AreCuts}
use Rattle.vmv_proof_check.proofs.cuts.Cuts.behind.Given as goal

abbrev pub invariant-loop-i : goal.invariant-loop-i
invariant-loop-i l = (base : Resolution) → AreCuts base l.before l.self → AreNamed base l.before → IsCutFor base (take l.i l.before) l.held
