use Rattle.vmv_proving.specs.Work.{IsFrozen}
use Rattle.vmv_proving.proofs.exclusions.Excluding.cut_on.Given as goal

abbrev pub invariant-loop-place : goal.invariant-loop-place
invariant-loop-place l = IsFrozen l.self.base.now l.self.cuts.now l.place l.frozen
