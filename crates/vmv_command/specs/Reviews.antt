-- The review of two valid programs: the text of its report, with its proof where that is asked for, and its status.
use Rattle.std.specs.Prelude.{◌≡◌, ◌⊎◌, ◌==◌, ℕ, Bool, true, false, List, ◌++◌, codes, if◌then◌else◌}
use Rattle.std.specs.Fmt.{decimal}
use Rattle.vmv_tree.specs.Tree.{Item}
use Rattle.vmv_snapshot.specs.Resolution.{Resolution, IsResolution, tree_of}
use Rattle.vmv_report.specs.declared.report.Report.{Report}
use Rattle.vmv_report.specs.Reports.{IsReport}
use Rattle.vmv_report.specs.Texts.{report_text}
use Rattle.vmv_proof.specs.declared.proof.Proof.{Proof}
use Rattle.vmv_proof_text.specs.Text.{proof_text}
use Rattle.vmv_review_proof.specs.declared.stop.ProofStop.TheVariants.{TooLarge}
use Rattle.vmv_review_proof.specs.Proofs.{IsProofOf}
use Rattle.vmv_review_proof.specs.Limit.{IsWithin, IsOver}

-- 0: the revision is relatively correct. 1: some row is an alarm. 2: some row is a regression. 3: the base is vacuous.
abbrev pub review_status : ℕ → ℕ
review_status verdict = if verdict == 1 then 0 else (if verdict == 2 then 1 else (if verdict == 3 then 2 else 3))

-- the program with its procedures resolved
pub record IsResolved (program : List Item) (resolved : Resolution) : Type 0 where
  pub tree : tree_of resolved ≡ program
  pub resolution : IsResolution resolved

-- what is printed of a report alone: its text, with the status of its verdict
abbrev pub PrintsReport : (base revision : Resolution) → Report → List ℕ → ℕ → Type 0
PrintsReport base revision report printed status = (printed ≡ report_text report base revision) × (status ≡ review_status report.verdict)

-- the line of a proof that is too long to be printed
abbrev pub too_large_line : ℕ → List ℕ
too_large_line found = codes "proof: limit bytes found " ++ (decimal found ++ codes " most 67108864\n")

-- What is printed of a report with its proof: the text of the report and then the canonical text of the proof. Where the proof is too
-- long, only the line of that.
abbrev pub PrintsProof : (base revision : Resolution) → Report → Proof → List ℕ → ℕ → Type 0
PrintsProof base revision report proof printed status =
    (IsWithin proof × (printed ≡ report_text report base revision ++ proof_text proof) × (status ≡ review_status report.verdict))
    ⊎ ((found : ℕ) × IsOver proof (TooLarge found)
    × (printed ≡ too_large_line found) × (status ≡ 5))

-- the proof of the review is printed where it is asked for and there is one: there is none for a vacuous base, whose verdict is 4
abbrev pub PrintsReview : Bool → (base revision : Resolution) → Report → List ℕ → ℕ → Type 0
PrintsReview false base revision report printed status = PrintsReport base revision report printed status
PrintsReview true base revision report printed status =
    ((report.verdict ≡ 4) × PrintsReport base revision report printed status)
    ⊎ ((proof : Proof) × IsProofOf base revision proof × PrintsProof base revision report proof printed status)

-- the review of a revision against a base, with its proof where that is asked for
pub record ReviewsPrograms (proved : Bool) (base revision : List Item) (printed : List ℕ) (status : ℕ) : Type 0 where
  pub base_code : Resolution
  pub base_is : IsResolved base base_code
  pub revision_code : Resolution
  pub revision_is : IsResolved revision revision_code
  pub report : Report
  pub report_is : IsReport base_code revision_code report
  pub prints : PrintsReview proved base_code revision_code report printed status
