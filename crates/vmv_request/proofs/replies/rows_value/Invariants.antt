use Rattle.std.proofs.Common.{◌≡◌, ◌++◌, drop, map}
use Rattle.serde_json.specs.View.{view}
use Rattle.vmv_request.specs.Replies.{row_data}
use Rattle.vmv_request.proofs.replies.rows_value.Given as goal

abbrev pub invariant-loop-row : goal.invariant-loop-row
invariant-loop-row l = map view l.list.items ++ map row_data (drop l.row-index l.rows) ≡ map row_data l.rows
