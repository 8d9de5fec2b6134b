-- What a regression that the program prints means.
use Rattle.std.specs.Prelude.{◌≡◌, Option, Some, ℕ, List, ◌++◌}
use Rattle.vmv_tree.specs.Tree.{Item}
use Rattle.vmv_text.specs.Grammar.{IsText}
use Rattle.vmv_report.specs.Regressions.{ShowsRegression}
use Rattle.vmv_command.specs.Command.{IsReview}

-- what is printed begins with a text that shows a regression
abbrev pub BeginsWithRegression : (base revision : List Item) → List ℕ → Type 0
BeginsWithRegression base revision printed = (report : List ℕ) × (more : List ℕ) × (printed ≡ report ++ more) × ShowsRegression base revision report

-- Where the words are a review, the shelf tells both texts, they are texts of the programs B and R, and the status is 2: what is
-- printed begins with a report that shows a regression. Behind it stands nothing but the proof, where that is asked for.
abbrev pub RegressionHolds : List (List ℕ) → (List ℕ → Option (List ℕ)) → (before after : Option (List ℕ)) → ℕ → Type 0
RegressionHolds words told before after status =
    (base_name revision_name base revision old printed : List ℕ) (B R : List Item) →
    IsReview words base_name revision_name → told base_name ≡ Some base → told revision_name ≡ Some revision → IsText base B → IsText revision R →
    before ≡ Some old → after ≡ Some (old ++ printed) → status ≡ 2 → BeginsWithRegression B R printed
