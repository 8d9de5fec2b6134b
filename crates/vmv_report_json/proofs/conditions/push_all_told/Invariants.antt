use Rattle.std.proofs.Common.{◌≡◌, ◌++◌, drop, map}
use Rattle.std.specs.List.{flat_map}
use Rattle.serde_json.specs.View.{view}
use Rattle.vmv_report_json.specs.Json.{told_condition}
use Rattle.vmv_report_json.proofs.conditions.push_all_told.Given as goal

abbrev pub invariant-loop-h : goal.invariant-loop-h
invariant-loop-h l = map view l.list.items ++ flat_map told_condition (drop l.h-index l.held) ≡ map view l.fn.list.items ++ flat_map told_condition l.held
