-- The project of an act is that of its arm.
use Rattle.std.proofs.Common.{◌≡◌, ℕ, List, [], IfOk, sym, subst}
use Rattle.vmv_keeper.specs.declared.act.Act.{Act}
use Rattle.vmv_keeper.specs.Formed.{IsHeld}
use Rattle.vmv_keeper.specs.Changes.{owner_of, name_of}
use Rattle.vmv_desk_rules.specs.Causes.{judge_causes}
use Rattle.vmv_desk_rules.specs.Heard.{BySaid}
use Rattle.vmv_desk.specs.AtHand.{OfHeld, Waits, first_cause}
use Rattle.vmv_desk_rules.proofs.HeardLemmas.{by_any, by_ok, by_inspecting}
use Rattle.vmv_desk.proofs.HeldLemmas.{submit_found, nothing_found}
use Rattle.vmv_desk.proofs.judging.judge_cause.Goals as goal

pub accepting_cause-requires : goal.accepting_cause-requires
accepting_cause-requires g c =
    let P : Act → Type 0 = λ act. IsHeld (owner_of [] act) c.args.held.now in
    subst P c.in-Accept.is (c.requires [])

pub returns-in-Waive-clause-told : goal.returns-in-Waive-clause-told
returns-in-Waive-clause-told g c =
    let judge = c.args.judge.now in
    let I = g.J.Judge.inspected judge in
    let C = g.J.Judge.compared judge in
    let T = g.K.Keeper.told c.args.keeper.now in
    let P : Act → Type 0 = λ act. IfOk c.waiving_cause.result (λ cause. BySaid I C (λ M. (caller : List ℕ) → OfHeld T (owner_of caller act) (name_of act) c.args.held.now (λ p. Waits act p → cause ≡ first_cause (judge_causes M act p)))) in
    subst P (sym c.in-Waive.is)
    (by_ok I C c.waiving_cause.result _ _ (λ M cause h caller. h c.args.held.now) c.waiving_cause.ensures.told)

pub returns-in-Accept-clause-told : goal.returns-in-Accept-clause-told
returns-in-Accept-clause-told g c =
    let judge = c.args.judge.now in
    let I = g.J.Judge.inspected judge in
    let C = g.J.Judge.compared judge in
    let T = g.K.Keeper.told c.args.keeper.now in
    let P : Act → Type 0 = λ act. IfOk c.accepting_cause.result (λ cause. BySaid I C (λ M. (caller : List ℕ) → OfHeld T (owner_of caller act) (name_of act) c.args.held.now (λ p. Waits act p → cause ≡ first_cause (judge_causes M act p)))) in
    subst P (sym c.in-Accept.is)
    (by_ok I C c.accepting_cause.result _ _ (λ M cause h caller. h) c.accepting_cause.ensures.told)

pub returns-in_ok-inspect-in-Submit-clause-told : goal.returns-in_ok-inspect-in-Submit-clause-told
returns-in_ok-inspect-in-Submit-clause-told g c =
    let judge = c.args.judge.now in
    let I = g.J.Judge.inspected judge in
    let C = g.J.Judge.compared judge in
    let T = g.K.Keeper.told c.args.keeper.now in
    by_inspecting I C _ c.in-Submit.text c.in_ok-inspect-in-Submit.field-0 c.in_ok-inspect-in-Submit.ensures
    (λ M e caller. submit_found T (owner_of caller c.args.act.now) (name_of c.args.act.now) c.args.held.now M c.args.act.now _ _ c.in-Submit.text c.in_ok-inspect-in-Submit.field-0 c.refused.result
    c.in-Submit.is e c.refused.ensures.cause)

pub returns-in-OpenProject-clause-told : goal.returns-in-OpenProject-clause-told
returns-in-OpenProject-clause-told g c =
    let judge = c.args.judge.now in
    let I = g.J.Judge.inspected judge in
    let C = g.J.Judge.compared judge in
    by_any I C _ (λ M caller. nothing_found (g.K.Keeper.told c.args.keeper.now) (owner_of caller c.args.act.now) (name_of c.args.act.now) c.args.held.now M c.args.act.now c.in-OpenProject.is)
