-- The rows of each report name procedures of the revision.
use Rattle.std.proofs.Common.{◌≡◌, Option, List, [], sym, ap, subst, arith}
use Rattle.std.specs.List.{Contains}
use Rattle.vmv_tree.specs.declared.name.Name.{Name}
use Rattle.vmv_tree.specs.declared.ends.NameEnds.{NameEnds}
use Rattle.vmv_cond.specs.declared.cond.Cond.{Cond}
use Rattle.vmv_snapshot.specs.Resolution.{Resolution}
use Rattle.vmv_assumption.specs.Assumed.{cond_of}
use Rattle.vmv_need.specs.declared.needed.Needed.{Needed}
use Rattle.vmv_need.specs.declared.needed.Needed.TheVariants.{Conditions, Vacuous}
use Rattle.vmv_check.proofs.Lists.{all_of}
use Rattle.vmv_report.specs.declared.row.ReportRow.{ReportRow}
use Rattle.vmv_report.specs.declared.report.Report.{Report}
use Rattle.vmv_report.specs.Reports.{Tells, IsReport}
use Rattle.vmv_report.specs.Work.{IsInside, AreInside}
use Rattle.vmv_report.proofs.Reporting.{rows_inside}

none_inside : (program : Resolution) → AreInside program []
none_inside program = all_of (IsInside program) [] nothing
  where
    nothing : (row : ReportRow) → Contains [] row → IsInside program row
    nothing row (k, h, is) = absurd (omega (arith, h))

told_inside : (revision : Resolution) (report : Report) (ends : List NameEnds) (needed : Needed) (enough : Option (List (Name × Cond))) → Tells revision ends needed enough report → AreInside revision report.rows
told_inside revision report ends (Conditions held cuts) enough tells =
    rows_inside (record { revision = revision; ends = ends; needed = cond_of held; enough = enough }) report.rows tells.rows
told_inside revision report ends (Vacuous shown) enough tells =
    let none : report.rows ≡ [] = ap (λ (r : Report). r.rows) tells in
    subst (AreInside revision) (sym none) (none_inside revision)

pub report_inside : (base revision : Resolution) (report : Report) → IsReport base revision report → AreInside revision report.rows
report_inside base revision report is = told_inside revision report is.scope.ends is.needed is.enough is.tells
