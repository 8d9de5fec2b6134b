-- The project of a question is that of its arm.
use Rattle.std.proofs.Common.{◌≡◌, Result, Ok, Err, IfOk, sym, subst}
use Rattle.vmv_keeper.specs.declared.act.Query.{Query}
use Rattle.vmv_keeper.specs.declared.act.Query.TheVariants.{Base}
use Rattle.vmv_keeper.specs.Tables.{bench_of}
use Rattle.vmv_keeper.specs.Outside.{OfTold}
use Rattle.vmv_keeper.specs.Formed.{AreFormed}
use Rattle.vmv_desk_rules.specs.Step.{told_of, asked_owner, asked_name}
use Rattle.vmv_desk_rules.specs.Heard.{BySaid}
use Rattle.vmv_desk.specs.AtHand.{OfHeld}
use Rattle.vmv_desk_rules.proofs.HeardLemmas.{by_any, by_ok}
use Rattle.vmv_desk.proofs.AskedLemmas.{OfHeld_queued, history_told}
use Rattle.vmv_desk.proofs.asking.told_of.Goals as goal

each_ok : {A E : Type 0} (result : Result A E) (P Q : A → Type 0) → IfOk result P → ((reply : A) → P reply → Q reply) → IfOk result Q
each_ok (Ok reply) P Q h w = w reply h
each_ok (Err e) P Q h w = tt

pub returns-in-Base-clause-told : goal.returns-in-Base-clause-told
returns-in-Base-clause-told g c =
    let judge = c.args.judge.now in
    let I = g.J.Judge.inspected judge in
    let C = g.J.Judge.compared judge in
    let T = g.K.Keeper.told c.args.keeper.now in
    let P : Query → Type 0 = λ query. IfOk c.base_of.result (λ reply. BySaid I C (λ M. OfTold T AreFormed → OfHeld T (asked_owner query) (asked_name query) c.args.held (λ p. c.args.queue.now ≡ bench_of p → reply ≡ told_of M query p))) in
    subst P (sym c.in-Base.is)
    (each_ok c.base_of.result _ _ c.base_of.ensures.told (λ reply h. by_any I C _ (λ M formed. OfHeld_queued T c.in-Base.owner c.in-Base.project c.args.held c.args.queue.now (λ p. reply ≡ told_of M (Base c.in-Base.owner c.in-Base.project) p) (h M))))

pub returns-in-Pending-clause-told : goal.returns-in-Pending-clause-told
returns-in-Pending-clause-told g c =
    let judge = c.args.judge.now in
    let I = g.J.Judge.inspected judge in
    let C = g.J.Judge.compared judge in
    let T = g.K.Keeper.told c.args.keeper.now in
    let P : Query → Type 0 = λ query. IfOk c.pending_of.result (λ reply. BySaid I C (λ M. OfTold T AreFormed → OfHeld T (asked_owner query) (asked_name query) c.args.held (λ p. c.args.queue.now ≡ bench_of p → reply ≡ told_of M query p))) in
    subst P (sym c.in-Pending.is) (each_ok c.pending_of.result _ _ c.pending_of.ensures.told (λ reply h. by_any I C _ (λ M formed. h M c.args.held formed)))

pub returns-in-ReportOf-clause-told : goal.returns-in-ReportOf-clause-told
returns-in-ReportOf-clause-told g c =
    let judge = c.args.judge.now in
    let I = g.J.Judge.inspected judge in
    let C = g.J.Judge.compared judge in
    let T = g.K.Keeper.told c.args.keeper.now in
    let P : Query → Type 0 = λ query. IfOk c.report_on.result (λ reply. BySaid I C (λ M. OfTold T AreFormed → OfHeld T (asked_owner query) (asked_name query) c.args.held (λ p. c.args.queue.now ≡ bench_of p → reply ≡ told_of M query p))) in
    subst P (sym c.in-ReportOf.is) (by_ok I C c.report_on.result _ _ (λ M reply h formed. h) c.report_on.ensures.told)

pub returns-in-History-clause-told : goal.returns-in-History-clause-told
returns-in-History-clause-told g c =
    let judge = c.args.judge.now in
    let I = g.J.Judge.inspected judge in
    let C = g.J.Judge.compared judge in
    let T = g.K.Keeper.told c.args.keeper.now in
    by_any I C _ (λ M formed. history_told T c.args.held c.args.queue.now M c.args.query.now _ _ c.in-History.is)
