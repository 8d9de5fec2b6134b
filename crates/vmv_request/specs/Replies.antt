-- The status of a desk's reply, and its body: JSON with no space, the keys in the order of their bytes.
use Rattle.std.specs.Prelude.{ℕ, List, [], ◌∷◌, ◌++◌, map, codes, true, false}
use Rattle.std.specs.Fmt.{decimal}
use Rattle.std.specs.Str.Lossy.{utf8_lossy}
use Rattle.serde_json.specs.Data.{Data, boolean, number, string, array, object, unsigned, member, no_members}
use Rattle.serde_json.specs.View.{items_of}
use Rattle.serde_json.specs.Written.{compact_text}
use Rattle.vmv_keeper.specs.declared.reply.VersionRow.{VersionRow}
use Rattle.vmv_keeper.specs.declared.reply.PendingRow.{PendingRow}
use Rattle.vmv_keeper.specs.declared.reply.Reply.{Reply}
use Rattle.vmv_keeper.specs.declared.reply.Reply.TheVariants.{Opened, Members, Submitted, Withdrawn, Accepted, Waived, Report, Base, History, Pending, NotFound, NotAllowed, Full, TextRefused, NotCorrect, IdReused, AlreadyOpen, StoreFault, Memory, VacuousText}

abbrev pub reply_status : Reply → ℕ
reply_status (Opened version) = 200
reply_status (Members count) = 200
reply_status (Submitted submission) = 200
reply_status (Withdrawn submission) = 200
reply_status (Accepted version) = 200
reply_status (Waived version) = 200
reply_status (Report verdict json against) = 200
reply_status (Base version text) = 200
reply_status (History versions) = 200
reply_status (Pending rows) = 200
reply_status NotFound = 404
reply_status NotAllowed = 403
reply_status (Full which) = 409
reply_status (TextRefused kind line column) = 422
reply_status (NotCorrect verdict) = 409
reply_status IdReused = 409
reply_status AlreadyOpen = 409
reply_status StoreFault = 503
reply_status Memory = 507
reply_status VacuousText = 422

abbrev pub count_of : ℕ → Data
count_of n = number (unsigned n)

-- bytes as a string; in place of what isn't UTF-8 stands U+FFFD
abbrev pub string_of : List ℕ → Data
string_of bytes = string (utf8_lossy bytes)

-- what was done, with the number of a version, of members or of a submission
abbrev pub version_data : ℕ → Data
version_data n = object (member (codes "ok") (boolean true) (member (codes "version") (count_of n) no_members))

abbrev pub members_data : ℕ → Data
members_data n = object (member (codes "members") (count_of n) (member (codes "ok") (boolean true) no_members))

abbrev pub submission_data : ℕ → Data
submission_data n = object (member (codes "ok") (boolean true) (member (codes "submission") (count_of n) no_members))

abbrev pub base_data : ℕ → List ℕ → Data
base_data version text =
    object (member (codes "ok") (boolean true) (member (codes "text") (string_of text) (member (codes "version") (count_of version) no_members)))

abbrev pub row_data : VersionRow → Data
row_data row =
    object (member (codes "against") (count_of row.against) (member (codes "by") (string_of row.by) (member (codes "kind") (count_of row.kind)
    (member (codes "number") (count_of row.number) (member (codes "submission") (count_of row.submission) no_members)))))

abbrev pub history_data : List VersionRow → Data
history_data rows = object (member (codes "ok") (boolean true) (member (codes "versions") (array (items_of (map row_data rows))) no_members))

abbrev pub waiting_data : PendingRow → Data
waiting_data row = object (member (codes "by") (string_of row.by) (member (codes "submission") (count_of row.submission) no_members))

abbrev pub pending_data : List PendingRow → Data
pending_data rows = object (member (codes "ok") (boolean true) (member (codes "pending") (array (items_of (map waiting_data rows))) no_members))

-- what was refused, with the number of the cause
abbrev pub cause_data : ℕ → Data
cause_data cause = object (member (codes "cause") (count_of cause) (member (codes "ok") (boolean false) no_members))

abbrev pub full_data : ℕ → Data
full_data which =
    object (member (codes "cause") (count_of 3) (member (codes "ok") (boolean false) (member (codes "which") (count_of which) no_members)))

abbrev pub text_data : (kind line column : ℕ) → Data
text_data kind line column =
    object (member (codes "cause") (count_of 4) (member (codes "column") (count_of column) (member (codes "line") (count_of line)
    (member (codes "number") (count_of kind) (member (codes "ok") (boolean false) no_members)))))

abbrev pub verdict_data : ℕ → Data
verdict_data verdict =
    object (member (codes "cause") (count_of 5) (member (codes "ok") (boolean false) (member (codes "verdict") (count_of verdict) no_members)))

-- the report stands in it as it is, and not as a string
abbrev pub report_body : ℕ → List ℕ → List ℕ
report_body against json = codes "{\"against\":" ++ (decimal against ++ (codes ",\"ok\":true,\"report\":" ++ (json ++ codes "}")))

abbrev pub reply_body : Reply → List ℕ
reply_body (Opened version) = compact_text (version_data version)
reply_body (Members count) = compact_text (members_data count)
reply_body (Submitted submission) = compact_text (submission_data submission)
reply_body (Withdrawn submission) = compact_text (submission_data submission)
reply_body (Accepted version) = compact_text (version_data version)
reply_body (Waived version) = compact_text (version_data version)
reply_body (Report verdict json against) = report_body against json
reply_body (Base version text) = compact_text (base_data version text)
reply_body (History versions) = compact_text (history_data versions)
reply_body (Pending rows) = compact_text (pending_data rows)
reply_body NotFound = compact_text (cause_data 1)
reply_body NotAllowed = compact_text (cause_data 2)
reply_body (Full which) = compact_text (full_data which)
reply_body (TextRefused kind line column) = compact_text (text_data kind line column)
reply_body (NotCorrect verdict) = compact_text (verdict_data verdict)
reply_body IdReused = compact_text (cause_data 6)
reply_body AlreadyOpen = compact_text (cause_data 7)
reply_body StoreFault = compact_text (cause_data 8)
reply_body Memory = compact_text (cause_data 9)
reply_body VacuousText = compact_text (cause_data 10)
