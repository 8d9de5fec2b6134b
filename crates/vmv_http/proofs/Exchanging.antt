-- What was handled of a request is its exchange.
use Rattle.std.proofs.Common.{◌≡◌, ℕ, List, Option, Some, None, Result, Ok, Err, refl, inl, inr}
use Rattle.vmv_edge.specs.Outside.{Rose}
use Rattle.vmv_keeper.specs.declared.judge.Inspected.{Inspected}
use Rattle.vmv_keeper.specs.declared.judge.Compared.{Compared}
use Rattle.vmv_keeper.specs.declared.act.Command.{Command}
use Rattle.vmv_keeper.specs.declared.reply.Reply.{Reply}
use Rattle.vmv_keeper.specs.declared.reply.Reply.TheVariants.{Opened, Members, Submitted, Withdrawn, Accepted, Waived, Report, Base, History, Pending, NotFound, NotAllowed, Full, TextRefused, NotCorrect, IdReused, AlreadyOpen, StoreFault, Memory, VacuousText}
use Rattle.vmv_keeper.specs.Tables.{Tables}
use Rattle.vmv_keeper.specs.Outside.{OfTold}
use Rattle.vmv_keeper.specs.Formed.{AreFormed}
use Rattle.vmv_desk_rules.specs.Causes.{Meaning}
use Rattle.vmv_desk_rules.specs.Step.{Handled}
use Rattle.vmv_desk_rules.specs.Heard.{HandledBy}
use Rattle.vmv_desk_rules.proofs.HeardLemmas.{by_any, by_map}
use Rattle.vmv_head.specs.declared.refusal.Refusal.{Refusal}
use Rattle.vmv_head.specs.declared.refusal.Refusal.TheVariants.{HeadTooLong, HeadUnread, TransferCoded, LengthUnread, LengthMissing, BodyTooLong, NoRoute, OtherMethod, MemberUnread, PartUnread, BodyUnread}
use Rattle.vmv_head.specs.Refusals.{refusal_status}
use Rattle.vmv_request.specs.Replies.{reply_status}
use Rattle.vmv_request_reading.specs.Inputs.{OfInput}
use Rattle.vmv_request_reading.proofs.Adding.{of_map}
use Rattle.vmv_http.specs.declared.served.Served.{Served}
use Rattle.vmv_http.specs.declared.served.Served.TheVariants.{Answered, CutOff, Memory as NoMemory}
use Rattle.vmv_http.specs.Requests.{Asks}
use Rattle.vmv_http.specs.Exchanges.{Answer, Exchanged, Unanswered, MayAnswer, IsCounted}
use Rattle.vmv_http.specs.Serving.{IfAnswered, OnRows, IsAnswerBy, IsUnansweredBy}

-- a status is 503 exactly for a store's fault

pub reply_counted : (reply : Reply) (before now : ℕ) → (reply ≡ StoreFault → Rose before now) → ((reply ≡ StoreFault → ⊥) → now ≡ before)
    → IsCounted (reply_status reply) before now
reply_counted StoreFault before now h k = h refl
reply_counted (Opened version) before now h k = k (λ e. cc e)
reply_counted (Members count) before now h k = k (λ e. cc e)
reply_counted (Submitted submission) before now h k = k (λ e. cc e)
reply_counted (Withdrawn submission) before now h k = k (λ e. cc e)
reply_counted (Accepted version) before now h k = k (λ e. cc e)
reply_counted (Waived version) before now h k = k (λ e. cc e)
reply_counted (Report verdict json against) before now h k = k (λ e. cc e)
reply_counted (Base version text) before now h k = k (λ e. cc e)
reply_counted (History versions) before now h k = k (λ e. cc e)
reply_counted (Pending rows) before now h k = k (λ e. cc e)
reply_counted NotFound before now h k = k (λ e. cc e)
reply_counted NotAllowed before now h k = k (λ e. cc e)
reply_counted (Full which) before now h k = k (λ e. cc e)
reply_counted (TextRefused kind line column) before now h k = k (λ e. cc e)
reply_counted (NotCorrect verdict) before now h k = k (λ e. cc e)
reply_counted IdReused before now h k = k (λ e. cc e)
reply_counted AlreadyOpen before now h k = k (λ e. cc e)
reply_counted Memory before now h k = k (λ e. cc e)
reply_counted VacuousText before now h k = k (λ e. cc e)

pub refusal_counted : (refusal : Refusal) (n : ℕ) → IsCounted (refusal_status refusal) n n
refusal_counted HeadTooLong n = refl
refusal_counted HeadUnread n = refl
refusal_counted TransferCoded n = refl
refusal_counted LengthUnread n = refl
refusal_counted LengthMissing n = refl
refusal_counted BodyTooLong n = refl
refusal_counted NoRoute n = refl
refusal_counted (OtherMethod allowed) n = refl
refusal_counted MemberUnread n = refl
refusal_counted PartUnread n = refl
refusal_counted BodyUnread n = refl

pub served_as : (served : Served) (P Q : ℕ → Type 0) → IfAnswered served P → ((status : ℕ) → P status → Q status) → IfAnswered served Q
served_as (Answered status) P Q h f = f status h
served_as (CutOff why) P Q h f = tt
served_as NoMemory P Q h f = tt

-- what is handled is exchanged

exchanged : (J : Meaning) (input : List ℕ) (tables : Tables) (now : Option Tables) (command : Command) (reply : Reply) → Asks input (Ok command)
    → Handled J tables command now reply → Exchanged J input tables now (Ok reply)
exchanged J input tables now command reply asks (inl done) = inl (done.0, done.1, (command, asks, done.2))
exchanged J input tables now command reply asks (inr fault) = inr (fault.0, fault.1)

unanswered : (J : Meaning) (input : List ℕ) (tables : Tables) (now : Option Tables) (answer : Answer) → Exchanged J input tables now answer → Unanswered J input tables now
unanswered J input tables now answer (inl done) = inr (done.0, answer, done.1, done.2)
unanswered J input tables now answer (inr fault) = inl fault.0

module _ (I : List ℕ → Inspected → Type 0) (C : List ℕ → List ℕ → Compared → Type 0) where
  pub handled : (input : List ℕ) (told now : Option Tables) (command : Command) (reply : Reply) → Asks input (Ok command)
      → OfTold told (λ tables. AreFormed tables → HandledBy I C tables command now reply) → OnRows I C told (λ J tables. Exchanged J input tables now (Ok reply))
  handled input None now command reply asks h = tt
  handled input (Some tables) now command reply asks h =
      λ formed. by_map I C (λ J. Handled J tables command now reply) (λ J. Exchanged J input tables now (Ok reply))
      (λ J k. exchanged J input tables now command reply asks k) (h formed)

  pub refused : (input : List ℕ) (told : Option Tables) (refusal : Refusal) → Asks input (Err refusal)
      → OnRows I C told (λ J tables. Exchanged J input tables told (Err refusal))
  refused input None refusal asks = tt
  refused input (Some tables) refusal asks =
      λ formed. by_any I C (λ J. Exchanged J input tables (Some tables) (Err refusal)) (λ J. inl (tables, refl, (asks, refl)))

  pub answer_by : (start : Option (List ℕ)) (told now : Option Tables) (asked : Result Command Refusal) (answer : Answer) → OfInput start (λ input. Asks input asked)
      → ((input : List ℕ) → Asks input asked → MayAnswer input answer)
      → ((input : List ℕ) → Asks input asked → OnRows I C told (λ J tables. Exchanged J input tables now answer)) → IsAnswerBy I C start told now answer
  answer_by start told now asked answer asks may done =
      of_map start (λ input. Asks input asked) (λ input. MayAnswer input answer × OnRows I C told (λ J tables. Exchanged J input tables now answer)) asks
      (λ input k. (may input k, done input k))

  none_on : (input : List ℕ) (told now : Option Tables) (answer : Answer) → OnRows I C told (λ J tables. Exchanged J input tables now answer)
      → OnRows I C told (λ J tables. Unanswered J input tables now)
  none_on input None now answer h = tt
  none_on input (Some tables) now answer h =
      λ formed. by_map I C (λ J. Exchanged J input tables now answer) (λ J. Unanswered J input tables now) (λ J k. unanswered J input tables now answer k) (h formed)

  pub unanswered_by : (start : Option (List ℕ)) (told now : Option Tables) (answer : Answer) → IsAnswerBy I C start told now answer → IsUnansweredBy I C start told now
  unanswered_by start told now answer h =
      of_map start (λ input. MayAnswer input answer × OnRows I C told (λ J tables. Exchanged J input tables now answer))
      (λ input. OnRows I C told (λ J tables. Unanswered J input tables now)) h (λ input k. none_on input told now answer k.1)

  unread_on : (input : List ℕ) (told : Option Tables) → OnRows I C told (λ J tables. Unanswered J input tables told)
  unread_on input None = tt
  unread_on input (Some tables) = λ formed. by_any I C (λ J. Unanswered J input tables (Some tables)) (λ J. inl refl)

  pub unread_by : (start : Option (List ℕ)) (told : Option Tables) → IsUnansweredBy I C start told told
  unread_by None told = tt
  unread_by (Some input) told = unread_on input told

-- rows that are as before have the property that they had
pub as_before : (told : Option Tables) (P : Tables → Type 0) → OfTold told (λ tables. P tables → OfTold told P)
as_before None P = tt
as_before (Some tables) P = λ h. h
