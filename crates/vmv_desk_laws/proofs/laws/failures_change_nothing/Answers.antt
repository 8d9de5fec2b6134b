-- What fails changes nothing.
use Rattle.std.proofs.Common.{◌≡◌}
use Rattle.vmv_keeper.specs.declared.act.Command.TheVariants.{Change, Ask}
use Rattle.vmv_desk_rules.specs.Runs.{Turn}
use Rattle.vmv_desk_rules.proofs.HeardLemmas.{by_map, by_out}
use Rattle.vmv_desk_laws.proofs.FailureLemmas.{failed_turn, asked_turn}
use Rattle.vmv_desk_laws.proofs.laws.failures_change_nothing.Goals as goal

pub returns-clause-acts : goal.returns-clause-acts
returns-clause-acts g c tables new caller id act reply turn not =
    let judge = c.args._judge.now in
    let I = g.J.Judge.inspected judge in
    let C = g.J.Judge.compared judge in
    by_out I C (λ text a b h k. g.met.J.Judge.one_inspected judge text a b h k) (λ base revision a b h k. g.met.J.Judge.one_compared judge base revision a b h k) (λ text said is h. g.met.J.Judge.utf8 judge text said is h)
    (by_map I C (λ M. Turn M tables (Change caller id act) new reply) (λ M. new ≡ tables) (λ M one. failed_turn M tables new caller id act reply one not) turn)

pub returns-clause-questions : goal.returns-clause-questions
returns-clause-questions g c tables new caller query reply turn =
    let judge = c.args._judge.now in
    let I = g.J.Judge.inspected judge in
    let C = g.J.Judge.compared judge in
    by_out I C (λ text a b h k. g.met.J.Judge.one_inspected judge text a b h k) (λ base revision a b h k. g.met.J.Judge.one_compared judge base revision a b h k) (λ text said is h. g.met.J.Judge.utf8 judge text said is h)
    (by_map I C (λ M. Turn M tables (Ask caller query) new reply) (λ M. new ≡ tables) (λ M one. asked_turn M tables new caller query reply one) turn)
