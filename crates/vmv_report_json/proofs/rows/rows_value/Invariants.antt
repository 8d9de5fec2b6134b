use Rattle.std.proofs.Common.{◌≡◌, ◌++◌, drop, map}
use Rattle.std.specs.List.{flat_map}
use Rattle.serde_json.specs.View.{view}
use Rattle.vmv_report_json.specs.Json.{told_row}
use Rattle.vmv_report_json.proofs.rows.rows_value.Given as goal

abbrev pub invariant-loop-row : goal.invariant-loop-row
invariant-loop-row l = map view l.list.items ++ flat_map (told_row l.revision) (drop l.row-index l.rows) ≡ flat_map (told_row l.revision) l.rows
