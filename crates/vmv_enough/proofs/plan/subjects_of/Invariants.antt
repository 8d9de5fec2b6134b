use Rattle.vmv_enough.proofs.Planned.{ArePlanned}
use Rattle.vmv_enough.proofs.plan.subjects_of.Given as goal

abbrev pub invariant-loop-one : goal.invariant-loop-one
invariant-loop-one g l = ArePlanned l.base l.ends l.one-iterator.rest.items l.subjects
