use Rattle.vmv_crew.specs.Answers.{AnswersInOrder}
use Rattle.vmv_crew.proofs.parts.in_turn.Given as goal

abbrev pub invariant-loop-k : goal.invariant-loop-k
invariant-loop-k g l = AnswersInOrder (g.J.Job.allows l.fn.job) l.fn.from l.k l.list.items
