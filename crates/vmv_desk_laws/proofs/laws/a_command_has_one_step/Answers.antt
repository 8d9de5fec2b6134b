-- A command has one step.
use Rattle.std.proofs.Common.{◌≡◌}
use Rattle.vmv_desk_rules.specs.Step.{Step}
use Rattle.vmv_desk_rules.proofs.HeardLemmas.{by_two, by_out}
use Rattle.vmv_desk_laws.proofs.DeterminedLemmas.{one_step}
use Rattle.vmv_desk_laws.proofs.laws.a_command_has_one_step.Goals as goal

pub returns : goal.returns
returns g c tables new other command reply again step second =
    let judge = c.args._judge.now in
    let I = g.J.Judge.inspected judge in
    let C = g.J.Judge.compared judge in
    by_out I C (λ text a b h k. g.met.J.Judge.one_inspected judge text a b h k) (λ base revision a b h k. g.met.J.Judge.one_compared judge base revision a b h k) (λ text said is h. g.met.J.Judge.utf8 judge text said is h)
    (by_two I C (λ M. Step M tables command new reply) (λ M. Step M tables command other again) (λ M. (new ≡ other) × (reply ≡ again))
    (λ M utf8 a b. one_step M tables new other command reply again a b) step second)
