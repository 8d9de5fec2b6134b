-- The report is on the submission against the root.
use Rattle.std.proofs.Common.{◌≡◌, Ok, false, rules}
use Rattle.vmv_keeper.specs.declared.fault.KeepFault.{KeepFault}
use Rattle.vmv_keeper.specs.Tables.{root_after}
use Rattle.vmv_desk.specs.AtHand.{is_queued}
use Rattle.vmv_desk_rules.proofs.HeardLemmas.{by_any, by_ok}
use Rattle.vmv_desk.proofs.TextsLemmas.{no_root}
use Rattle.vmv_desk.proofs.AskedLemmas.{not_given, not_reported, report_found}
use Rattle.vmv_desk.proofs.asking.report_on.Goals as goal

pub returns-in_default-clause-told : goal.returns-in_default-clause-told
returns-in_default-clause-told g c =
    let judge = c.args.judge.now in
    let I = g.J.Judge.inspected judge in
    let C = g.J.Judge.compared judge in
    by_any I C _ (λ M. not_given (g.K.Keeper.told c.args.keeper.now) c.args.owner.now c.args.project.now c.args.held.now c.args.queue.now c.args.submission M.compared (search rules))

pub returns-then-not-holds-clause-told : goal.returns-then-not-holds-clause-told
returns-then-not-holds-clause-told g c =
    let judge = c.args.judge.now in
    let I = g.J.Judge.inspected judge in
    let C = g.J.Judge.compared judge in
    let absent : is_queued c.args.queue.now c.args.submission ≡ false = search rules in
    by_any I C _ (λ M. not_reported (g.K.Keeper.told c.args.keeper.now) c.args.owner.now c.args.project.now c.args.held.now c.args.queue.now c.args.submission M.compared absent)

pub returns-in_default-2-clause-told : goal.returns-in_default-2-clause-told
returns-in_default-2-clause-told g c =
    let judge = c.args.judge.now in
    let I = g.J.Judge.inspected judge in
    let C = g.J.Judge.compared judge in
    let at : c.root_of-against.result ≡ root_after 0 c.args.held.now.versions = search rules in
    by_any I C _ (λ M.
    no_root (g.K.Keeper.told c.args.keeper.now) (g.K.Keeper.told c.submission.new.self) c.args.owner.now c.args.project.now c.args.held.now c.root_of-against.result _
    c.requires at c.submission.ensures.kept (search rules))

pub returns-clause-told : goal.returns-clause-told
returns-clause-told g c =
    let judge = c.args.judge.now in
    let I = g.J.Judge.inspected judge in
    let C = g.J.Judge.compared judge in
    let at : c.root_of-against.result ≡ root_after 0 c.args.held.now.versions = search rules in
    by_ok I C c.judged_report.result _ _ (λ M reply h.
    report_found {E = KeepFault} (g.K.Keeper.told c.args.keeper.now) (g.K.Keeper.told c.submission.new.self) c.args.owner.now c.args.project.now c.args.held.now c.args.queue.now c.args.submission c.root_of-against.result
    M.compared c.in-Some.submitted c.in-Some-2.root (Ok reply)
    c.requires at (search rules) c.submission.ensures.kept (search rules) h) c.judged_report.ensures.reply
