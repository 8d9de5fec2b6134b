use Rattle.std.proofs.Common.{◌≡◌, ◌++◌, drop, map}
use Rattle.serde_json.specs.View.{view}
use Rattle.vmv_request.specs.Replies.{waiting_data}
use Rattle.vmv_request.proofs.replies.waiting_values.Given as goal

abbrev pub invariant-loop-row : goal.invariant-loop-row
invariant-loop-row l = map view l.list.items ++ map waiting_data (drop l.row-index l.rows) ≡ map waiting_data l.rows
