-- What the command's own calls answer. Private contracts alone cite these definitions.
use Rattle.std.specs.Prelude.{ℕ, Bool, List}
use Rattle.vmv_snapshot.specs.Resolution.{Resolution}
use Rattle.vmv_report.specs.declared.report.Report.{Report}
use Rattle.vmv_report.specs.Baselines.{Based}
use Rattle.vmv_report.specs.Reports.{IsReport}
use Rattle.vmv_command.specs.Reviews.{PrintsReview}

-- what is printed of the report of a revision against a base, by what was found of the base
abbrev pub ReviewsBase : Bool → Based → Resolution → List ℕ → ℕ → Type 0
ReviewsBase proved found revision printed status = (report : Report) × IsReport found.base revision report × PrintsReview proved found.base revision report printed status
