-- The review of two valid programs, and the baseline of one, have one output.
use Rattle.std.proofs.Common.{◌≡◌, inl, inr, ℕ, ◌==◌, Bool, true, false, List, sym, ap, subst, arith, ◌∙◌, if◌then◌else◌}
use Rattle.vmv_tree.specs.Tree.{Item}
use Rattle.vmv_snapshot.specs.Resolution.{Resolution, IsResolution}
use Rattle.vmv_need.specs.declared.subject.Scope.{Scope}
use Rattle.vmv_need.specs.declared.needed.Needed.{Needed}
use Rattle.vmv_need.specs.declared.needed.Needed.TheVariants.{Conditions}
use Rattle.vmv_need.specs.Needed.{IsFound}
use Rattle.vmv_need.proofs.Scopes.{one_scope}
use Rattle.vmv_report.specs.declared.class.Class.TheVariants.{Regression, Alarm}
use Rattle.vmv_report.specs.declared.report.Report.{Report}
use Rattle.vmv_report.specs.declared.row.ReportRow.{ReportRow}
use Rattle.vmv_report.specs.Rows.{class_count, verdict_of}
use Rattle.vmv_report.specs.Baselines.{Based}
use Rattle.vmv_report.specs.Reports.{IsReport, Tells}
use Rattle.vmv_report.specs.Texts.{baseline_text}
use Rattle.vmv_proof.specs.declared.proof.Proof.{Proof}
use Rattle.vmv_review_proof.specs.Proofs.{IsProofOf}
use Rattle.vmv_command.specs.Reviews.{too_large_line, PrintsReport, PrintsProof, PrintsReview, ReviewsPrograms}
use Rattle.vmv_command.specs.Baselines.{baseline_status, BaselinesProgram}
use Rattle.vmv_command_laws.proofs.Determined.{OfReviews}
use Rattle.vmv_command_laws.proofs.Files.{IsOne}

report_printed_once : (base revision : Resolution) (report : Report) → IsOne (PrintsReport base revision report)
report_printed_once base revision report p q s t h g = (h.0 ∙ sym g.0, h.1 ∙ sym g.1)

proof_printed_once : (base revision : Resolution) (report : Report) (proof : Proof) → IsOne (PrintsProof base revision report proof)
proof_printed_once base revision report proof p q s t (inl (within, text, meant)) (inl (within', text', meant')) = (text ∙ sym text', meant ∙ sym meant')
proof_printed_once base revision report proof p q s t (inl (within, text, meant)) (inr (found, over, text', meant')) = absurd (let long = over.0 in omega (arith, within, long))
proof_printed_once base revision report proof p q s t (inr (found, over, text, meant)) (inl (within, text', meant')) = absurd (let long = over.0 in omega (arith, within, long))
proof_printed_once base revision report proof p q s t (inr (found, over, text, meant)) (inr (found', over', text', meant')) =
    let same : found ≡ found' = over.1 ∙ sym over'.1 in
    (text ∙ (ap too_large_line same ∙ sym text'), meant ∙ sym meant')

-- the verdict of rows isn't that of a vacuous base
below_four : (a b : Bool) → ◌≡◌ {A = ℕ} (if a then (if b then 1 else 2) else 3) 4 → ⊥
below_four true true e = omega (arith, e)
below_four true false e = omega (arith, e)
below_four false b e = omega (arith, e)

not_four : (rows : List ReportRow) → verdict_of rows ≡ 4 → ⊥
not_four rows e = below_four (class_count Regression rows == 0) (class_count Alarm rows == 0) e

module _ (laws : OfReviews) where
  -- a review whose verdict is that of a vacuous base has no proof
  no_proof : (base revision : Resolution) (report : Report) (proof : Proof) → IsResolution base → IsReport base revision report → report.verdict ≡ 4 → IsProofOf base revision proof → ⊥
  no_proof base revision report proof is_base is four of =
      let scopes : is.scope ≡ of.scope = one_scope base is.scope of.scope is.found.scope_is of.scope_is in
      let found : IsFound base of.scope is.needed = subst (λ (s : Scope). IsFound base s is.needed) scopes is.found.needed_is in
      let same : is.needed ≡ Conditions of.held of.cuts = laws.needed base of.scope is.needed (Conditions of.held of.cuts) is_base found of.conditions in
      let tells = subst (λ (n : Needed). Tells revision is.scope.ends n is.enough report) same is.tells in
      not_four report.rows (sym tells.verdict ∙ four)

  printed_once : (proved : Bool) (base revision : Resolution) (report : Report) → IsResolution base → IsResolution revision → IsReport base revision report → IsOne (PrintsReview proved base revision report)
  printed_once false base revision report is_base is_revision is = report_printed_once base revision report
  printed_once true base revision report is_base is_revision is = with_proof
    where
      with_proof : IsOne (PrintsReview true base revision report)
      with_proof p q s t (inl (four, prints)) (inl (four', prints')) = report_printed_once base revision report p q s t prints prints'
      with_proof p q s t (inl (four, prints)) (inr (proof, of, prints')) = absurd (no_proof base revision report proof is_base is four of)
      with_proof p q s t (inr (proof, of, prints)) (inl (four, prints')) = absurd (no_proof base revision report proof is_base is four of)
      with_proof p q s t (inr (proof, of, prints)) (inr (proof', of', prints')) =
          let same = laws.proofs base revision proof proof' is_base is_revision of of' in
          proof_printed_once base revision report proof' p q s t (subst (λ (x : Proof). PrintsProof base revision report x p s) same prints) prints'

  -- what is printed of a review, by how its programs are held
  record IsPrinted (proved : Bool) (base revision : Resolution) (printed : List ℕ) (status : ℕ) : Type 0 where
    report : Report
    report_is : IsReport base revision report
    prints : PrintsReview proved base revision report printed status

  held_once : (proved : Bool) (base revision : Resolution) → IsResolution base → IsResolution revision → IsOne (IsPrinted proved base revision)
  held_once proved base revision is_base is_revision p q s t h g =
      let same = laws.reports base revision h.report g.report is_base h.report_is g.report_is in
      printed_once proved base revision g.report is_base is_revision g.report_is p q s t
      (subst (λ (r : Report). PrintsReview proved base revision r p s) same h.prints) g.prints

  pub programs_reviewed_once : (proved : Bool) (base revision : List Item) → IsOne (ReviewsPrograms proved base revision)
  programs_reviewed_once proved base revision p q s t h g =
      let bases : h.base_code ≡ g.base_code = laws.resolutions h.base_code g.base_code h.base_is.resolution g.base_is.resolution (h.base_is.tree ∙ sym g.base_is.tree) in
      let revisions : h.revision_code ≡ g.revision_code =
      laws.resolutions h.revision_code g.revision_code h.revision_is.resolution g.revision_is.resolution (h.revision_is.tree ∙ sym g.revision_is.tree) in
      let own : IsPrinted proved h.base_code h.revision_code p s = record { report = h.report; report_is = h.report_is; prints = h.prints } in
      let there = subst (λ (b : Resolution). IsPrinted proved b h.revision_code p s) bases own in
      held_once proved g.base_code g.revision_code g.base_is.resolution g.revision_is.resolution p q s t
      (subst (λ (r : Resolution). IsPrinted proved g.base_code r p s) revisions there)
      (record { report = g.report; report_is = g.report_is; prints = g.prints })

  pub base_found_once : (base : List Item) → IsOne (BaselinesProgram base)
  base_found_once base p q s t (found, tree, is, text, meant) (found', tree', is', text', meant') =
      let bases : found.base ≡ found'.base = laws.resolutions found.base found'.base is.0 is'.0 (tree ∙ sym tree') in
      let same : found ≡ found' = laws.baselines found found' bases is is' in (
        text ∙ (ap baseline_text same ∙ sym text'),
        meant ∙ (ap (λ (it : Based). baseline_status it.needed) same ∙ sym meant'),
      )
