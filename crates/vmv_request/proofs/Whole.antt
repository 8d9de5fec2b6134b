-- No number of a reply is a float.
use Rattle.std.proofs.Common.{◌≡◌, ◌||◌, Bool, true, false, List, [], ◌∷◌, map, refl}
use Rattle.serde_json.specs.View.{items_of}
use Rattle.serde_json.specs.Written.{has_float, items_have_float}
use Rattle.vmv_keeper.specs.declared.reply.VersionRow.{VersionRow}
use Rattle.vmv_keeper.specs.declared.reply.PendingRow.{PendingRow}
use Rattle.vmv_request.specs.Replies.{row_data, waiting_data, history_data, pending_data}

pub rows_whole : (rows : List VersionRow) → items_have_float (items_of (map row_data rows)) ≡ false
rows_whole [] = refl
rows_whole (row ∷ rows) = rows_whole rows

pub waiting_whole : (rows : List PendingRow) → items_have_float (items_of (map waiting_data rows)) ≡ false
waiting_whole [] = refl
waiting_whole (row ∷ rows) = waiting_whole rows

neither : (a b : Bool) → a ≡ false → b ≡ false → (a || b) ≡ false
neither true b p q = p
neither false b p q = q

pub history_whole : (rows : List VersionRow) → has_float (history_data rows) ≡ false
history_whole rows = neither (items_have_float (items_of (map row_data rows))) false (rows_whole rows) refl

pub pending_whole : (rows : List PendingRow) → has_float (pending_data rows) ≡ false
pending_whole rows = neither (items_have_float (items_of (map waiting_data rows))) false (waiting_whole rows) refl
