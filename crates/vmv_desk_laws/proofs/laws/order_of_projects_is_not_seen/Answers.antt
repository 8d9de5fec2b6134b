-- The order of projects isn't seen.
use Rattle.std.proofs.Common.{◌≡◌}
use Rattle.vmv_desk_rules.specs.Step.{Step}
use Rattle.vmv_desk_rules.proofs.HeardLemmas.{by_two, by_out}
use Rattle.vmv_desk_laws.specs.Seen.{caller_of}
use Rattle.vmv_desk_laws.specs.Orders.{SeesSame}
use Rattle.vmv_desk_laws.proofs.OrdersLemmas.{order_unseen}
use Rattle.vmv_desk_laws.proofs.laws.order_of_projects_is_not_seen.Goals as goal

pub returns : goal.returns
returns g c tables new others behind command reply again formed others_formed same step other =
    let judge = c.args._judge.now in
    let I = g.J.Judge.inspected judge in
    let C = g.J.Judge.compared judge in
    by_out I C (λ text a b h k. g.met.J.Judge.one_inspected judge text a b h k) (λ base revision a b h k. g.met.J.Judge.one_compared judge base revision a b h k) (λ text said is h. g.met.J.Judge.utf8 judge text said is h)
    (by_two I C (λ M. Step M tables command new reply) (λ M. Step M others command behind again)
    (λ M. (reply ≡ again) × SeesSame (caller_of command) new behind)
    (λ M utf8 one two. order_unseen M tables new others behind command reply again formed others_formed same one two) step other)
