use Rattle.std.proofs.Common.{◌≡◌, ◌++◌, drop, map}
use Rattle.serde_json.specs.View.{view}
use Rattle.vmv_report_json.specs.Json.{witness_data}
use Rattle.vmv_report_json.proofs.rows.witnesses_value.Given as goal

abbrev pub invariant-loop-witness : goal.invariant-loop-witness
invariant-loop-witness l = map view l.list.items ++ map witness_data (drop l.witness-index l.witnesses) ≡ map witness_data l.witnesses
