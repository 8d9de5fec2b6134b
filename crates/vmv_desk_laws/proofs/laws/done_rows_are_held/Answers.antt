-- The rows show what was done.
use Rattle.vmv_keeper.specs.declared.act.Command.TheVariants.{Change}
use Rattle.vmv_desk_rules.specs.Step.{Step}
use Rattle.vmv_desk_rules.proofs.HeardLemmas.{by_map, by_out}
use Rattle.vmv_desk_laws.specs.Shown.{Shows}
use Rattle.vmv_desk_laws.proofs.ShownLemmas.{shown_step}
use Rattle.vmv_desk_laws.proofs.laws.done_rows_are_held.Goals as goal

pub returns : goal.returns
returns g c before behind caller id act reply formed absent step done =
    let judge = c.args._judge.now in
    let I = g.J.Judge.inspected judge in
    let C = g.J.Judge.compared judge in
    by_out I C (λ text a b h k. g.met.J.Judge.one_inspected judge text a b h k) (λ base revision a b h k. g.met.J.Judge.one_compared judge base revision a b h k) (λ text said is h. g.met.J.Judge.utf8 judge text said is h)
    (by_map I C (λ M. Step M before (Change caller id act) behind reply) (λ M. Shows before behind caller act reply)
    (λ M one. shown_step M before behind caller id act reply formed absent one done) step)
