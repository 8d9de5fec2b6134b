-- The text of an answer: a status line, header lines, an empty line and a body.
use Rattle.std.specs.Prelude.{ℕ, List, [], ◌++◌, length, codes, unwrap_or}
use Rattle.std.specs.Fmt.{decimal}
use Rattle.http.specs.StatusCode.{reason_phrase}
use Rattle.serde_json.specs.Written.{compact_text}
use Rattle.vmv_keeper.specs.declared.reply.Reply.{Reply}
use Rattle.vmv_head.specs.declared.refusal.Refusal.{Refusal}
use Rattle.vmv_head.specs.declared.refusal.Refusal.TheVariants.{HeadTooLong, HeadUnread, TransferCoded, LengthUnread, LengthMissing, BodyTooLong, NoRoute, OtherMethod, MemberUnread, PartUnread, BodyUnread}
use Rattle.vmv_head.specs.Refusals.{refusal_status, refusal_cause, method_name}
use Rattle.vmv_request.specs.Replies.{cause_data, reply_status, reply_body}

-- the phrase that stands behind a status
abbrev pub phrase : ℕ → List ℕ
phrase status = unwrap_or (reason_phrase status) []

-- the head of an answer whose body has this length, where one more line may stand behind the length
abbrev pub answer_head : (status : ℕ) (more : List ℕ) (len : ℕ) → List ℕ
answer_head status more len =
    codes "HTTP/1.1 " ++ (decimal status ++ (codes " " ++ (phrase status ++ (codes "\r\nContent-Type: application/json\r\nContent-Length: "
    ++ (decimal len ++ (codes "\r\n" ++ (more ++ codes "Connection: close\r\n\r\n")))))))

abbrev pub answer_text : (status : ℕ) (more body : List ℕ) → List ℕ
answer_text status more body = answer_head status more (length body) ++ body

-- the line that tells the method of a route, where a request had another
abbrev pub allow_line : Refusal → List ℕ
allow_line (OtherMethod allowed) = codes "Allow: " ++ (method_name allowed ++ codes "\r\n")
allow_line refusal = []

-- the whole answer to a request that is refused
abbrev pub refusal_text : Refusal → List ℕ
refusal_text refusal = answer_text (refusal_status refusal) (allow_line refusal) (compact_text (cause_data (refusal_cause refusal)))

-- the whole answer that tells a desk's reply
abbrev pub reply_text : Reply → List ℕ
reply_text reply = answer_text (reply_status reply) [] (reply_body reply)
