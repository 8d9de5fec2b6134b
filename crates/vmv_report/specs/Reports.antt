-- The report of a review: what is told of a revision by what was found of its base.
use Rattle.std.specs.Prelude.{◌≡◌, Option, Some, None, List, []}
use Rattle.vmv_tree.specs.declared.name.Name.{Name}
use Rattle.vmv_tree.specs.declared.ends.NameEnds.{NameEnds}
use Rattle.vmv_cond.specs.declared.cond.Cond.{Cond}
use Rattle.vmv_snapshot.specs.Resolution.{Resolution}
use Rattle.vmv_assumption.specs.Assumed.{cond_of}
use Rattle.vmv_need.specs.declared.subject.Scope.{Scope}
use Rattle.vmv_need.specs.declared.shown.ShownBy.{ShownBy}
use Rattle.vmv_need.specs.declared.needed.Needed.{Needed}
use Rattle.vmv_need.specs.declared.needed.Needed.TheVariants.{Conditions, Vacuous}
use Rattle.vmv_report.specs.declared.report.Report.{Report}
use Rattle.vmv_report.specs.Rows.{AreRows, AreWitnesses, verdict_of}
use Rattle.vmv_report.specs.Baselines.{IsFoundOf}

-- the report of a vacuous base has verdict 4 and what shows it, and no rows
abbrev pub vacuous_report : ShownBy → Report
vacuous_report shown = record { verdict = 4; conditions = None; enough = None; rows = []; witnesses = []; shown_by = Some shown }

-- the report of a base that isn't: the conditions of its names, the rows of the revision with a run for each regression, and
-- the verdict
pub record IsReviewed (revision : Resolution) (ends : List NameEnds) (held : List (Name × Cond)) (enough : Option (List (Name × Cond))) (report : Report) : Type 0 where
  pub conditions : report.conditions ≡ Some held
  pub enough_is : report.enough ≡ enough
  pub rows : AreRows (record { revision = revision; ends = ends; needed = cond_of held; enough = enough }) report.rows
  pub verdict : report.verdict ≡ verdict_of report.rows
  pub witnesses : AreWitnesses (record { revision = revision; ends = ends; needed = cond_of held; enough = enough }) report.rows report.witnesses
  pub shown_by : report.shown_by ≡ None

-- what is told of the revision by what is necessary, and what suffices, for the base
abbrev pub Tells : Resolution → List NameEnds → Needed → Option (List (Name × Cond)) → Report → Type 0
Tells revision ends (Conditions held cuts) enough report = IsReviewed revision ends held enough report
Tells revision ends (Vacuous shown) enough report = report ≡ vacuous_report shown

-- the report of a review of a revision against a base
pub record IsReport (base revision : Resolution) (report : Report) : Type 0 where
  pub scope : Scope
  pub needed : Needed
  pub enough : Option (List (Name × Cond))
  pub found : IsFoundOf base scope needed enough
  pub tells : Tells revision scope.ends needed enough report
