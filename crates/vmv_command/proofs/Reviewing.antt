-- What is printed of a review with its proof.
use Rattle.std.proofs.Common.{◌≡◌, Bool, refl, sym, ap, subst}
use Rattle.std.specs.Prelude.{Result, Ok, Err}
use Rattle.std.specs.Result.{IfOk}
use Rattle.std.specs.declared.alloc.AllocError.{AllocError}
use Rattle.vmv_snapshot.specs.Resolution.{Resolution, IsResolution, tree_of}
use Rattle.vmv_need.specs.declared.needed.Needed.{Needed}
use Rattle.vmv_need.specs.declared.needed.Needed.TheVariants.{Conditions, Vacuous}
use Rattle.vmv_report.specs.declared.report.Report.{Report}
use Rattle.vmv_report.specs.Baselines.{Based, IsBaseline}
use Rattle.vmv_report.specs.Reports.{IsReport, Tells}
use Rattle.vmv_review_proof.specs.Proofs.{HasConditions}
use Rattle.vmv_command.specs.declared.output.Output.{Output}
use Rattle.vmv_command.specs.Reviews.{PrintsReview, ReviewsPrograms}
use Rattle.vmv_command.specs.Work.{ReviewsBase}

-- a base has one baseline
abbrev pub BaselinesOnce : Type 0
BaselinesOnce = (one other : Based) → one.base ≡ other.base → IsBaseline one → IsBaseline other → one ≡ other

module _ (once : BaselinesOnce) (found : Based) (revision : Resolution) (report : Report) (is_baseline : IsBaseline found) (is : IsReport found.base revision report) where
  same : found.needed ≡ is.needed
  same = ap (λ (it : Based). it.needed) (once found (record { base = found.base; needed = is.needed; enough = is.enough }) refl is_baseline (is_baseline.0, (is.scope, is.found)))

  four : (needed : Needed) → needed ≡ is.needed → (HasConditions needed → ⊥) → report.verdict ≡ 4
  four (Conditions held cuts) e none = absurd (none tt)
  four (Vacuous shown) e none =
      let tells = subst (λ (n : Needed). Tells revision is.scope.ends n is.enough report) (sym e) is.tells in
      ap (λ (r : Report). r.verdict) tells

  -- the report of a vacuous base has verdict 4
  pub vacuous_four : (HasConditions found.needed → ⊥) → report.verdict ≡ 4
  vacuous_four none = four found.needed same none

-- what is printed by what was found of the base is the review of the two programs
pub reviewed_so : (proved flag : Bool) → proved ≡ flag → (found : Based) (base revision : Resolution) → found.base ≡ base → IsBaseline found → IsResolution revision → (r : Result Output AllocError)
    → IfOk r (λ o. ReviewsBase flag found revision o.text o.status) → IfOk r (λ o. ReviewsPrograms proved (tree_of base) (tree_of revision) o.text o.status)
reviewed_so proved flag same found base revision e is_baseline is_revision (Err error) h = tt
reviewed_so proved flag same found base revision e is_baseline is_revision (Ok o) h = record {
  base_code = found.base;
  base_is = record { tree = ap tree_of e; resolution = is_baseline.0 };
  revision_code = revision;
  revision_is = record { tree = refl; resolution = is_revision };
  report = h.0;
  report_is = h.1;
  prints = subst (λ (b : Bool). PrintsReview b found.base revision h.0 o.text o.status) (sym same) h.2;
}
