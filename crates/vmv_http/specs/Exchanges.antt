-- The exchange of one request: its answer, and the rows behind it.
use Rattle.std.specs.Prelude.{◌≡◌, ◌⊎◌, ◌==◌, ℕ, List, Option, Some, Result, Ok, Err, MatchBool}
use Rattle.vmv_edge.specs.Outside.{Rose}
use Rattle.vmv_keeper.specs.declared.act.Command.{Command}
use Rattle.vmv_keeper.specs.declared.reply.Reply.{Reply}
use Rattle.vmv_keeper.specs.Tables.{Tables}
use Rattle.vmv_desk_rules.specs.Causes.{Meaning}
use Rattle.vmv_desk_rules.specs.Step.{Step, IsFault}
use Rattle.vmv_desk_rules.specs.Replies.{IsReplyTo}
use Rattle.vmv_head.specs.declared.refusal.Refusal.{Refusal}
use Rattle.vmv_head.specs.Refusals.{refusal_status}
use Rattle.vmv_request.specs.Replies.{reply_status}
use Rattle.vmv_request.specs.Answers.{refusal_text, reply_text}
use Rattle.vmv_http.specs.Requests.{Asks}

-- a request is answered by the desk's reply, or by why it is refused
abbrev pub Answer : Type 0
Answer = Result Reply Refusal

abbrev pub status_of : Answer → ℕ
status_of (Ok reply) = reply_status reply
status_of (Err refusal) = refusal_status refusal

abbrev pub text_of : Answer → List ℕ
text_of (Ok reply) = reply_text reply
text_of (Err refusal) = refusal_text refusal

-- the exchange of the request at the front of an input, by a judge: a command has its step and is answered by its reply, and what
-- is refused leaves the rows as they were
abbrev pub Exchange : Meaning → List ℕ → Tables → Tables → Answer → Type 0
Exchange J input tables new (Ok reply) = (command : Command) × Asks input (Ok command) × Step J tables command new reply
Exchange J input tables new (Err refusal) = Asks input (Err refusal) × (new ≡ tables)

-- the store failed, or there was no memory: the statuses 503 and 507
abbrev pub TellsFault : Answer → Type 0
TellsFault (Ok reply) = IsFault reply
TellsFault (Err refusal) = ⊥

-- the rows that are told then are the exchange's, or a fault is told in its place and leaves them as they were
abbrev pub Exchanged : Meaning → List ℕ → Tables → Option Tables → Answer → Type 0
Exchanged J input tables told answer =
    ((new : Tables) × (told ≡ Some new) × Exchange J input tables new answer) ⊎ ((told ≡ Some tables) × TellsFault answer)

-- nothing is answered: the rows that are told then are those before, or an exchange's
abbrev pub Unanswered : Meaning → List ℕ → Tables → Option Tables → Type 0
Unanswered J input tables told =
    (told ≡ Some tables) ⊎ ((new : Tables) × (answer : Answer) × (told ≡ Some new) × Exchange J input tables new answer)

-- an answer that the request may have, whatever the rows
abbrev pub MayAnswer : List ℕ → Answer → Type 0
MayAnswer input (Ok reply) = (command : Command) × Asks input (Ok command) × (IsFault reply ⊎ IsReplyTo command reply)
MayAnswer input (Err refusal) = Asks input (Err refusal)

-- the store's count of faults has risen for a 503, and stands for any other status
abbrev pub IsCounted : ℕ → ℕ → ℕ → Type 0
IsCounted status before now = MatchBool (status == 503) (Rose before now) (now ≡ before)
