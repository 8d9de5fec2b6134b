-- The baseline of a valid program: the text of what is found of it, and its status.
use Rattle.std.specs.Prelude.{◌≡◌, ℕ, List}
use Rattle.vmv_tree.specs.Tree.{Item}
use Rattle.vmv_need.specs.declared.needed.Needed.{Needed}
use Rattle.vmv_need.specs.declared.needed.Needed.TheVariants.{Conditions, Vacuous}
use Rattle.vmv_snapshot.specs.Resolution.{tree_of}
use Rattle.vmv_report.specs.Baselines.{Based, IsBaseline}
use Rattle.vmv_report.specs.Texts.{baseline_text}

-- 3: the base is vacuous
abbrev pub baseline_status : Needed → ℕ
baseline_status (Conditions held cuts) = 0
baseline_status (Vacuous shown) = 3

-- what is printed is the text of what is found of the base
abbrev pub BaselinesProgram : List Item → List ℕ → ℕ → Type 0
BaselinesProgram base printed status =
    (found : Based) × (tree_of found.base ≡ base) × IsBaseline found × (printed ≡ baseline_text found) × (status ≡ baseline_status found.needed)
