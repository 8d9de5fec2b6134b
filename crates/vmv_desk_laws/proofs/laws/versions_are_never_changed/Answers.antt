-- Versions stay.
use Rattle.std.proofs.Common.{IsSomeAnd}
use Rattle.vmv_keeper.specs.Tables.{project_named}
use Rattle.vmv_keeper.specs.declared.project.Project.{Project}
use Rattle.vmv_desk_rules.specs.Runs.{Runs}
use Rattle.vmv_desk_rules.specs.Step.{Step}
use Rattle.vmv_desk_rules.proofs.HeardLemmas.{by_map, by_out}
use Rattle.vmv_desk_laws.specs.Versions.{Extends}
use Rattle.vmv_desk_laws.proofs.VersionsLemmas.{step_keeps_versions, runs_keep_versions}
use Rattle.vmv_desk_laws.proofs.laws.versions_are_never_changed.Goals as goal

pub returns-clause-step : goal.returns-clause-step
returns-clause-step g c tables new command reply owner name p step named =
    let judge = c.args._judge.now in
    let I = g.J.Judge.inspected judge in
    let C = g.J.Judge.compared judge in
    by_out I C (λ text a b h k. g.met.J.Judge.one_inspected judge text a b h k) (λ base revision a b h k. g.met.J.Judge.one_compared judge base revision a b h k) (λ text said is h. g.met.J.Judge.utf8 judge text said is h)
    (by_map I C (λ M. Step M tables command new reply) (λ M. IsSomeAnd (project_named new owner name) (λ (q : Project). Extends p.versions q.versions))
    (λ M one. step_keeps_versions M tables new command reply owner name p one named) step)

pub returns-clause-ever : goal.returns-clause-ever
returns-clause-ever g c tables now commands replies owner name p runs named =
    let judge = c.args._judge.now in
    let I = g.J.Judge.inspected judge in
    let C = g.J.Judge.compared judge in
    by_out I C (λ text a b h k. g.met.J.Judge.one_inspected judge text a b h k) (λ base revision a b h k. g.met.J.Judge.one_compared judge base revision a b h k) (λ text said is h. g.met.J.Judge.utf8 judge text said is h)
    (by_map I C (λ M. Runs M tables commands now replies) (λ M. IsSomeAnd (project_named now owner name) (λ (q : Project). Extends p.versions q.versions))
    (λ M ran. runs_keep_versions M tables now commands replies owner name p ran named) runs)
