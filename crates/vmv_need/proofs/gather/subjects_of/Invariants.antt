use Rattle.vmv_need.proofs.Gathered.{AreGathered}
use Rattle.vmv_need.proofs.gather.subjects_of.Given as goal

abbrev pub invariant-loop-one : goal.invariant-loop-one
invariant-loop-one g l = AreGathered l.base l.one-iterator.rest.items l.subjects
