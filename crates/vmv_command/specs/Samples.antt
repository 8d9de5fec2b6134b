-- The sample of a number: the review of its two programs, in a few lines.
use Rattle.std.specs.Prelude.{◌≡◌, ◌%◌, ℕ, Some, List, ◌++◌, length, codes}
use Rattle.std.specs.Fmt.{decimal}
use Rattle.vmv_tree.specs.Tree.{Item}
use Rattle.vmv_snapshot.specs.Resolution.{Resolution}
use Rattle.vmv_need.specs.declared.needed.Needed.{Needed}
use Rattle.vmv_need.specs.declared.needed.Needed.TheVariants.{Conditions, Vacuous}
use Rattle.vmv_report.specs.declared.report.Report.{Report}
use Rattle.vmv_report.specs.Baselines.{Based, IsBaseline}
use Rattle.vmv_report.specs.Reports.{IsReport}
use Rattle.vmv_report.specs.Texts.{line, verdict_line, necessary_lines, counts_line, vacuous_text}
use Rattle.vmv_print.specs.Canonical.{canonical}
use Rattle.vmv_sample.specs.Sample.{sample_program}
use Rattle.vmv_command.specs.Faults.{OnProgram}
use Rattle.vmv_command.specs.Reviews.{IsResolved}

-- the lines of what was found of the base and told of the revision: the verdict, the necessary conditions, how many exclusions led to
-- them, and how many rows there are of each class
abbrev pub summary_text : (base : Resolution) → Needed → Report → List ℕ
summary_text base (Conditions held cuts) report =
    verdict_line report.verdict ++ (necessary_lines (Some held) ++ (line (codes "exclusions " ++ decimal (length cuts)) ++ counts_line report.rows))
summary_text base (Vacuous shown) report = vacuous_text base shown

-- the number of the sample stands above them
abbrev pub sample_lines : (number : ℕ) → Based → Report → List ℕ
sample_lines number found report = line (codes "sample " ++ decimal number) ++ summary_text found.base found.needed report

-- what is printed of the review of a sample's revision against its base; the status is 0 whatever the verdict is
pub record SamplesPrograms (number : ℕ) (base revision : List Item) (printed : List ℕ) (status : ℕ) : Type 0 where
  pub found : Based
  pub base_is : IsResolved base found.base
  pub is_baseline : IsBaseline found
  pub revision_code : Resolution
  pub revision_is : IsResolved revision revision_code
  pub report : Report
  pub report_is : IsReport found.base revision_code report
  pub text : printed ≡ sample_lines number found report
  pub fine : status ≡ 0

-- the text of the sample's program whose entries ask for so much more
abbrev pub sample_source : (more : ℕ) → List ℕ
sample_source more = canonical (sample_program more)

-- The sample of a number: its revision asks for as much more than its base as the number leaves when it is divided by 3. Both are read
-- from their canonical texts, like any other.
abbrev pub Samples : (number : ℕ) → List ℕ → ℕ → Type 0
Samples number printed status =
    OnProgram (codes "base") (sample_source 0) (λ B. OnProgram (codes "revision") (sample_source (number % 3)) (SamplesPrograms number B)) printed status
