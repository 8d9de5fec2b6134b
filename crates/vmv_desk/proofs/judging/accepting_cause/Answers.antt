-- The root's text and the submission's are those of the project.
use Rattle.std.proofs.Common.{◌≡◌, Ok, rules}
use Rattle.vmv_keeper.specs.declared.fault.KeepFault.{KeepFault}
use Rattle.vmv_keeper.specs.Tables.{root_after}
use Rattle.vmv_desk_rules.proofs.HeardLemmas.{by_any, by_ok}
use Rattle.vmv_desk.proofs.TextsLemmas.{accepting_found, no_root}
use Rattle.vmv_desk.proofs.judging.accepting_cause.Goals as goal

pub returns-in_default-clause-told : goal.returns-in_default-clause-told
returns-in_default-clause-told g c =
    let judge = c.args.judge.now in
    let I = g.J.Judge.inspected judge in
    let C = g.J.Judge.compared judge in
    by_any I C _ (λ M. search rules)

pub returns-in_default-2-clause-told : goal.returns-in_default-2-clause-told
returns-in_default-2-clause-told g c =
    let judge = c.args.judge.now in
    let I = g.J.Judge.inspected judge in
    let C = g.J.Judge.compared judge in
    let at : c.root_of-against.result ≡ root_after 0 c.args.held.now.versions = search rules in
    by_any I C _ (λ M.
    no_root (g.K.Keeper.told c.args.keeper.now) (g.K.Keeper.told c.submission.new.self) c.args.owner.now c.args.project.now c.args.held.now c.root_of-against.result _
    c.requires at c.submission.ensures.kept (search rules))

pub returns-clause-told : goal.returns-clause-told
returns-clause-told g c =
    let judge = c.args.judge.now in
    let I = g.J.Judge.inspected judge in
    let C = g.J.Judge.compared judge in
    let at : c.root_of-against.result ≡ root_after 0 c.args.held.now.versions = search rules in
    by_ok I C c.compared_cause.result _ _ (λ M cause h.
    accepting_found {E = KeepFault} (g.K.Keeper.told c.args.keeper.now) (g.K.Keeper.told c.submission.new.self) c.args.owner.now c.args.project.now c.args.held.now c.args.submission c.root_of-against.result
    M.inspected M.compared c.in-Some.submitted c.in-Some-2.root (Ok cause)
    c.requires at (search rules) c.submission.ensures.kept (search rules) h) c.compared_cause.ensures.cause
