-- Which reports say that a revision is relatively correct.
use Rattle.std.proofs.Common.{◌≡◌, ◌⊎◌, ⊎_elim, ℕ, Option, Some, List, [], ◌∷◌, ◌++◌, codes, nat_eq, IsTrue, ap, subst, append_assoc, ◌∙◌}
use Rattle.std.specs.List.{starts_with}
use Rattle.vmv_tree.specs.declared.name.Name.{Name}
use Rattle.vmv_cond.specs.declared.cond.Cond.{Cond}
use Rattle.vmv_snapshot.specs.Resolution.{Resolution}
use Rattle.vmv_need.specs.declared.subject.Scope.{Scope}
use Rattle.vmv_need.specs.declared.shown.ShownBy.{ShownBy}
use Rattle.vmv_need.specs.declared.needed.Needed.{Needed}
use Rattle.vmv_need.specs.declared.needed.Needed.TheVariants.{Conditions, Vacuous}
use Rattle.vmv_report.specs.declared.class.Class.TheVariants.{Regression, Alarm}
use Rattle.vmv_report.specs.declared.report.Report.{Report}
use Rattle.vmv_report.specs.Rows.{class_count, verdict_of}
use Rattle.vmv_report.specs.Reports.{Tells, IsReport}
use Rattle.vmv_report.specs.Texts.{line, shown_text, verdict_line, text_by, report_text, necessary_lines, sufficient_lines, rows_lines, witnesses_lines}
use Rattle.vmv_report.proofs.Relating.{verdict_cases}

abbrev Says : List ℕ → Type 0
Says text = IsTrue (starts_with nat_eq text (codes "verdict relatively correct\n"))

vacuous_silent : (rest : List ℕ) → Says ((codes "verdict vacuous" ++ 10 ∷ []) ++ rest) → ⊥
vacuous_silent rest h = absurd (cc)

alarms_silent : (v : ℕ) (rest : List ℕ) → v ≡ 2 → Says (verdict_line v ++ rest) → ⊥
alarms_silent v rest e h = let g = subst (λ (n : ℕ). Says (verdict_line n ++ rest)) e h in absurd (cc)

regressions_silent : (v : ℕ) (rest : List ℕ) → v ≡ 3 → Says (verdict_line v ++ rest) → ⊥
regressions_silent v rest e h = let g = subst (λ (n : ℕ). Says (verdict_line n ++ rest)) e h in absurd (cc)

module _ (base revision : Resolution) (report : Report) (more : List ℕ) where
  told_says : (scope : Scope) (needed : Needed) (enough : Option (List (Name × Cond))) → Tells revision scope.ends needed enough report → Says (report_text report base revision ++ more) → report.verdict ≡ 1
  told_says scope (Vacuous shown) enough tells says =
      let e : report.shown_by ≡ Some shown = ap (λ (r : Report). r.shown_by) tells in
      let g = subst (λ (o : Option ShownBy). Says (text_by report base revision o ++ more)) e says in
      absurd (vacuous_silent (line (shown_text base shown) ++ more) (subst Says (append_assoc (line (codes "verdict vacuous")) (line (shown_text base shown)) more) g))
  told_says scope (Conditions held cuts) enough tells says =
      let told = necessary_lines report.conditions ++ (sufficient_lines report.enough ++ (rows_lines revision report.rows ++ witnesses_lines report.witnesses)) in
      let rest = told ++ more in
      let g = subst Says (append_assoc (verdict_line report.verdict) told more) (subst (λ (o : Option ShownBy). Says (text_by report base revision o ++ more)) tells.shown_by says) in
      let v = tells.verdict in
      ⊎_elim
      (λ (h : (verdict_of report.rows ≡ 1) × (class_count Regression report.rows ≡ 0) × (class_count Alarm report.rows ≡ 0)). v ∙ h.0)
      (λ (h : (verdict_of report.rows ≡ 2) ⊎ (verdict_of report.rows ≡ 3)). absurd (⊎_elim
      (λ (two : verdict_of report.rows ≡ 2). alarms_silent report.verdict rest (v ∙ two) g)
      (λ (three : verdict_of report.rows ≡ 3). regressions_silent report.verdict rest (v ∙ three) g) h))
      (verdict_cases report.rows)

  pub says_for : IsReport base revision report → Says (report_text report base revision ++ more) → report.verdict ≡ 1
  says_for is says = told_says is.scope is.needed is.enough is.tells says

pub says_correct : (base revision : Resolution) (report : Report) (more : List ℕ) → IsReport base revision report → IsTrue (starts_with nat_eq (report_text report base revision ++ more) (codes "verdict relatively correct\n")) → report.verdict ≡ 1
says_correct base revision report more is says = says_for base revision report more is says
