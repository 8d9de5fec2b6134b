-- Reports, and what their parts tell.
use Rattle.std.proofs.Common.{◌≡◌, ◌⊎◌, ⊎_elim, ℕ, Option, Some, None, List, [], ◌∷◌, ◌++◌, sym, ap, subst, ◌∙◌, append_assoc, append-nil, Result, Ok, Err, IfOk, ℤ, zip}
use Rattle.std.specs.List.{flat_map}
use Rattle.vmv_tree.specs.declared.name.Name.{Name}
use Rattle.vmv_tree.specs.declared.ends.NameEnds.{NameEnds}
use Rattle.vmv_tree.specs.declared.tree.Param.{Param}
use Rattle.vmv_cond.specs.declared.cond.Cond.{Cond}
use Rattle.vmv_snapshot.specs.Resolution.{Resolution}
use Rattle.vmv_assumption.specs.Assumed.{Assumed, cond_of}
use Rattle.vmv_demands.specs.Ends.{AreEnds}
use Rattle.vmv_need.specs.declared.cut.Cut.{Cut}
use Rattle.vmv_need.specs.declared.subject.Scope.{Scope}
use Rattle.vmv_need.specs.declared.shown.ShownBy.{ShownBy}
use Rattle.vmv_need.specs.declared.shown.ShownBy.TheVariants.{EmptyName, Doomed}
use Rattle.vmv_need.specs.declared.needed.Needed.{Needed}
use Rattle.vmv_need.specs.declared.needed.Needed.TheVariants.{Conditions, Vacuous}
use Rattle.vmv_need.specs.Vacuous.{IsShownBy}
use Rattle.vmv_need.specs.Needed.{IsFound}
use Rattle.vmv_check.proofs.Lists.{all_of}
use Rattle.vmv_report.specs.declared.row.ReportRow.{ReportRow}
use Rattle.vmv_report.specs.declared.report.Report.{Report}
use Rattle.vmv_report.specs.Rows.{place_of, Review, AreRows}
use Rattle.vmv_report.specs.Baselines.{Based, Suffices, IsEnoughFor, IsBaseline}
use Rattle.vmv_report.specs.Reports.{vacuous_report, IsReviewed, Tells, IsReport}
use Rattle.vmv_report.specs.Texts.{param_range}
use Rattle.vmv_report.specs.Work.{IsInside, AreInside, IsShownOf}
use Rattle.vmv_report.proofs.Placing.{entry_within, proc_within}

-- the rows of a report name procedures of the revision
pub rows_inside : (review : Review) (rows : List ReportRow) → AreRows review rows → AreInside review.revision rows
rows_inside review rows are =
    all_of (IsInside review.revision) rows
    (λ row there.
    let is = are.each row there in
    record { entry = entry_within review.revision row.entry.0 is.params is.entry; proc = proc_within review.revision (place_of row) is })

-- the entry that shows a base to be vacuous is one of its procedures
shown_inside : (base : Resolution) (scope : Scope) (assumed : Assumed) (shown : ShownBy) → IsShownBy base scope assumed shown → IsShownOf base shown
shown_inside base scope assumed (EmptyName name) is = tt
shown_inside base scope assumed (Doomed entry box table) is = let dead = (is.1).holds in entry_within base entry.0 dead.0 dead.1

module _ (base revision : Resolution) (report : Report) where
  told_rows : (scope : Scope) (needed : Needed) (enough : Option (List (Name × Cond))) → Tells revision scope.ends needed enough report → report.shown_by ≡ None → AreInside revision report.rows
  told_rows scope (Conditions held cuts) enough tells none = rows_inside (record { revision = revision; ends = scope.ends; needed = cond_of held; enough = enough }) report.rows tells.rows
  told_rows scope (Vacuous shown) enough tells none = let e : report.shown_by ≡ Some shown = ap (λ (r : Report). r.shown_by) tells in absurd (cc)

  told_shown : (scope : Scope) (needed : Needed) (enough : Option (List (Name × Cond))) (shown : ShownBy) → IsFound base scope needed → Tells revision scope.ends needed enough report → report.shown_by ≡ Some shown → IsShownOf base shown
  told_shown scope (Conditions held cuts) enough shown found tells some = let e = tells.shown_by in absurd (cc)
  told_shown scope (Vacuous other) enough shown found tells some =
      let e : report.shown_by ≡ Some other = ap (λ (r : Report). r.shown_by) tells in
      let same : other ≡ shown = cc in
      subst (IsShownOf base) same (shown_inside base scope found.assumed other found.shown_by)

  pub report_rows_inside : IsReport base revision report → report.shown_by ≡ None → AreInside revision report.rows
  report_rows_inside is none = told_rows is.scope is.needed is.enough is.tells none

  pub report_shown_inside : (shown : ShownBy) → IsReport base revision report → report.shown_by ≡ Some shown → IsShownOf base shown
  report_shown_inside shown is some = told_shown is.scope is.needed is.enough shown is.found.needed_is is.tells some

-- the report of a base that isn't vacuous
pub reviewed_report : (based : Based) (revision : Resolution) (report : Report) (held : List (Name × Cond)) (cuts : List Cut) → IsBaseline based → based.needed ≡ Conditions held cuts →
    (ends : List NameEnds) → AreEnds based.base ends → IsReviewed revision ends held based.enough report → IsReport based.base revision report
reviewed_report based revision report held cuts (is, (scope, found)) e ends are reviewed = record {
  scope = scope;
  needed = based.needed;
  enough = based.enough;
  found = found;
  tells =
      let P : Needed → Type 0 = λ needed. Tells revision scope.ends needed based.enough report in
      let Q : List NameEnds → Type 0 = λ it. IsReviewed revision it held based.enough report in
      subst P (sym e) (subst Q (are ∙ sym found.scope_is.ends) reviewed);
}

-- what was found to suffice for a base that isn't vacuous
pub sufficing : (based : Based) (held : List (Name × Cond)) (cuts : List Cut) → IsBaseline based → based.needed ≡ Conditions held cuts → Suffices based.base held based.enough
sufficing based held cuts (is, (scope, found)) e = let P : Needed → Type 0 = λ needed. IsEnoughFor based.base needed based.enough in subst P e found.enough_is

pub vacuous_reported : (based : Based) (revision : Resolution) (report : Report) (shown : ShownBy) → IsBaseline based → based.needed ≡ Vacuous shown → report ≡ vacuous_report shown → IsReport based.base revision report
vacuous_reported based revision report shown (is, (scope, found)) e same = record {
  scope = scope;
  needed = based.needed;
  enough = based.enough;
  found = found;
  tells = let P : Needed → Type 0 = λ needed. Tells revision scope.ends needed based.enough report in subst P (sym e) same;
}

-- five texts, one behind the other
pub put_five : (v n s r w : List ℕ) {o0 o1 o2 o3 o4 : List ℕ} → o0 ≡ v → o1 ≡ o0 ++ n → o2 ≡ o1 ++ s → o3 ≡ o2 ++ r → o4 ≡ o3 ++ w → o4 ≡ v ++ (n ++ (s ++ (r ++ w)))
put_five v n s r w {o0} {o1} {o2} {o3} {o4} e0 e1 e2 e3 e4 =
    e4 ∙ ap (λ t. t ++ w) (e3 ∙ ap (λ t. t ++ r) (e2 ∙ ap (λ t. t ++ s) (e1 ∙ ap (λ t. t ++ n) e0)))
    ∙ append_assoc ((v ++ n) ++ s) r w ∙ append_assoc (v ++ n) s (r ++ w) ∙ append_assoc v n (s ++ (r ++ w))

-- a fact of the value, where there is one, follows from another
pub if_ok : {A E : Type 0} {P Q : A → Type 0} (r : Result A E) → IfOk r P → ((a : A) → P a → Q a) → IfOk r Q
if_ok (Ok a) h on = on a h
if_ok (Err e) h on = h

-- where the one list or the other has ended, no pair is left to be written
pub ranges_written : (params : List Param) (ranges : List (ℤ × ℤ)) (out all : List ℕ) → (params ≡ []) ⊎ (ranges ≡ []) → out ++ flat_map param_range (zip params ranges) ≡ all → out ≡ all
ranges_written params ranges out all ended written = ⊎_elim
    (λ (e : params ≡ []).
    let P : List Param → Type 0 = λ ps. out ++ flat_map param_range (zip ps ranges) ≡ all in
    sym (append-nil out) ∙ subst P e written)
    (λ (e : ranges ≡ []).
    let P : List (ℤ × ℤ) → Type 0 = λ rs. out ++ flat_map param_range (zip params rs) ≡ all in
    none params (subst P e written))
    ended
  where
    none : (ps : List Param) → out ++ flat_map param_range (zip ps []) ≡ all → out ≡ all
    none [] w = sym (append-nil out) ∙ w
    none (p ∷ ps) w = sym (append-nil out) ∙ w
