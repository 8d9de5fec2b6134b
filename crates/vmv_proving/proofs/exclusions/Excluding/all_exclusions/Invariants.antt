use Rattle.vmv_proving.specs.Work.{AreToldBefore}
use Rattle.vmv_proving.proofs.exclusions.Excluding.all_exclusions.Given as goal

abbrev pub invariant-loop-cut : goal.invariant-loop-cut
invariant-loop-cut l = AreToldBefore l.self.base.now l.self.ends.now l.self.cuts.now l.cut-index l.done l.frozen l.exclusions
