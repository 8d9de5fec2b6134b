-- Other projects and other callers' replies stay.
use Rattle.std.proofs.Common.{◌≡◌}
use Rattle.vmv_keeper.specs.Tables.{project_named, kept_under}
use Rattle.vmv_desk_rules.specs.Step.{Step}
use Rattle.vmv_desk_rules.proofs.HeardLemmas.{by_map, by_out}
use Rattle.vmv_desk_laws.proofs.OthersLemmas.{step_others, step_keeps_others}
use Rattle.vmv_desk_laws.proofs.laws.others_stay.Goals as goal

pub returns-clause-projects : goal.returns-clause-projects
returns-clause-projects g c tables new command reply owner name step not =
    let judge = c.args._judge.now in
    let I = g.J.Judge.inspected judge in
    let C = g.J.Judge.compared judge in
    by_out I C (λ text a b h k. g.met.J.Judge.one_inspected judge text a b h k) (λ base revision a b h k. g.met.J.Judge.one_compared judge base revision a b h k) (λ text said is h. g.met.J.Judge.utf8 judge text said is h)
    (by_map I C (λ M. Step M tables command new reply) (λ M. project_named new owner name ≡ project_named tables owner name)
    (λ M one. step_others M tables new command reply owner name one not) step)

pub returns-clause-replies : goal.returns-clause-replies
returns-clause-replies g c tables new command reply other id step differ =
    let judge = c.args._judge.now in
    let I = g.J.Judge.inspected judge in
    let C = g.J.Judge.compared judge in
    by_out I C (λ text a b h k. g.met.J.Judge.one_inspected judge text a b h k) (λ base revision a b h k. g.met.J.Judge.one_compared judge base revision a b h k) (λ text said is h. g.met.J.Judge.utf8 judge text said is h)
    (by_map I C (λ M. Step M tables command new reply) (λ M. kept_under new other id ≡ kept_under tables other id)
    (λ M one. step_keeps_others M tables new command reply other id one differ) step)
