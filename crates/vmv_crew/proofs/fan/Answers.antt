use Rattle.std.proofs.Common.{arith}
use Rattle.vmv_crew.proofs.AnswersLemmas.{length-AnswersInOrder, AnswersInOrder-map}
use Rattle.vmv_crew.proofs.fan.Goals as goal

pub returns-clause-count : goal.returns-clause-count
returns-clause-count g c =
    rw c.from_vec.ensures (length-AnswersInOrder (g.J.Job.allows c.args.job.now) 0 c.args.n c.in_ok-list.list.items c.in_ok-list.ensures)

pub returns-clause-determined : goal.returns-clause-determined
returns-clause-determined g c f only =
    rw c.from_vec.ensures (AnswersInOrder-map (g.J.Job.allows c.args.job.now) 0 c.args.n c.in_ok-list.list.items f
    (λ place answer low high allowed. only place answer (omega (arith, high)) allowed) c.in_ok-list.ensures)
