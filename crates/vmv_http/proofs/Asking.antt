-- What was read of a request is what the input asks for.
use Rattle.std.proofs.Common.{◌≡◌, ℕ, ◌+◌, ◌≤◌, ◌<◌, List, ◌++◌, length, take, drop, codes, Option, Some, None, Result, Ok, Err, refl, sym, ap, subst, ◌∙◌, arith, inl, inr, length-append}
use Rattle.std.specs.Prelude.{IfOk}
use Rattle.httparse.specs.Grammar.{RequestHead}
use Rattle.vmv_keeper.specs.declared.act.Command.{Command}
use Rattle.vmv_head.specs.declared.head.Head.{Head}
use Rattle.vmv_head.specs.declared.refusal.Refusal.{Refusal}
use Rattle.vmv_head.specs.declared.refusal.Refusal.TheVariants.{HeadTooLong}
use Rattle.vmv_head.specs.Heads.{head_in}
use Rattle.vmv_head.specs.Lines.{how_many}
use Rattle.vmv_head.specs.Reads.{IsHeadRead, IsHeadRefused, IsShown, lines_of}
use Rattle.vmv_head.proofs.Heading.{body_fits}
use Rattle.vmv_request_reading.specs.declared.front.Front.{Front}
use Rattle.vmv_request_reading.specs.declared.stop.Stop.{Stop}
use Rattle.vmv_request_reading.specs.Inputs.{OfInput, OfInputs, WereRead}
use Rattle.vmv_request_reading.specs.Fronts.{front_in, IsFront, IsOverlong, IsHeadless}
use Rattle.vmv_request_reading.proofs.Adding.{of_map, read_on}
use Rattle.vmv_routes.specs.Asked.{asked_of}
use Rattle.vmv_http.specs.Requests.{length_told, asked_with, AsksBehind, Asks, LacksBody, EndsEarly}

-- what holds of the bytes before and after holds of those before
pub of_both : (start now : Option (List ℕ)) (P : List ℕ → Type 0) → OfInputs start now (λ rest _. P rest) → OfInput start P
of_both None now P h = tt
of_both (Some s) None P h = absurd h
of_both (Some s) (Some n) P h = h

pub more_read : (few many : ℕ) (start now : Option (List ℕ)) → few ≤ many → WereRead few start now → WereRead many start now
more_read few many start now le h = (h.0, omega arith, h.2)

pub both_read : (a b : ℕ) (start mid now : Option (List ℕ)) → WereRead a start mid → WereRead b mid now → WereRead (a + b) start now
both_read a b start mid now h k = (h.0 ++ k.0, omega (arith, length-append h.0 k.0), read_on start mid now h.0 k.0 h.2 k.2)

-- a body that was read

abbrev pub IsBody : List ℕ → ℕ → List ℕ → List ℕ → Type 0
IsBody begun len body rest = (len ≤ length (begun ++ rest)) × (body ≡ take len (begun ++ rest))

pub body_whole : (start now : Option (List ℕ)) (begun : List ℕ) (len : ℕ) (body : List ℕ) → OfInputs start now (λ rest _. IsBody begun len body rest)
    → OfInput start (λ rest. len ≤ length (begun ++ rest))
body_whole start now begun len body h =
    of_map start (IsBody begun len body) (λ rest. len ≤ length (begun ++ rest)) (of_both start now (IsBody begun len body) h) (λ rest k. k.0)

pub body_asked : (start now : Option (List ℕ)) (begun : List ℕ) (len : ℕ) (body : List ℕ) (asked : Result Command Refusal) (f : List ℕ → Result Command Refusal)
    → asked ≡ f body → OfInputs start now (λ rest _. IsBody begun len body rest) → OfInput start (λ rest. asked ≡ f (take len (begun ++ rest)))
body_asked start now begun len body asked f e h =
    of_map start (IsBody begun len body) (λ rest. asked ≡ f (take len (begun ++ rest))) (of_both start now (IsBody begun len body) h) (λ rest k. e ∙ ap f k.1)

-- what a head asks for that was read

abbrev pub IsReadAs : List ℕ → Head → Type 0
IsReadAs head read = (h : RequestHead) × IsHeadRead head h × IsShown h.method h.target (lines_of h) read

abbrev pub asked_by : Head → List ℕ → Result Command Refusal
asked_by read body = asked_of read.method.now read.target.now read.members read.member.now body

shown_asked : (h : RequestHead) (read : Head) (behind : List ℕ) → IsShown h.method h.target (lines_of h) read
    → asked_by read (take read.body_len behind) ≡ asked_with h (take (length_told h) behind)
shown_asked h read behind s =
    let members = how_many (codes "x-member") (lines_of h) in
    ap (λ l. asked_by read (take l behind)) s.body
    ∙ ap (λ m. asked_of m read.target.now read.members read.member.now (take (length_told h) behind)) s.method
    ∙ ap (λ t. asked_of h.method t read.members read.member.now (take (length_told h) behind)) s.target
    ∙ ap (λ k. asked_of h.method h.target k read.member.now (take (length_told h) behind)) s.members
    ∙ ap (λ v. asked_of h.method h.target members v (take (length_told h) behind)) s.member

routed : (head behind : List ℕ) (read : Head) (asked : Result Command Refusal) → IsReadAs head read → read.body_len ≤ length behind
    → asked ≡ asked_by read (take read.body_len behind) → AsksBehind head behind asked
routed head behind read asked is fits e =
    let P : ℕ → Type 0 = λ k. k ≤ length behind in
    inr (is.0, is.1, subst P is.2.body fits, e ∙ shown_asked is.0 read behind is.2)

of_two : (start : Option (List ℕ)) (P Q R : List ℕ → Type 0) → OfInput start P → OfInput start Q → ((rest : List ℕ) → P rest → Q rest → R rest) → OfInput start R
of_two None P Q R h k f = tt
of_two (Some s) P Q R h k f = f s h k

pub asks_behind : (start : Option (List ℕ)) (head begun : List ℕ) (read : Head) (r : Result (Result Command Refusal) Stop) → IsReadAs head read
    → IfOk r (λ _. OfInput start (λ rest. read.body_len ≤ length (begun ++ rest)))
    → IfOk r (λ asked. OfInput start (λ rest. asked ≡ asked_by read (take read.body_len (begun ++ rest))))
    → IfOk r (λ asked. OfInput start (λ rest. AsksBehind head (begun ++ rest) asked))
asks_behind start head begun read (Err stop) is h k = tt
asks_behind start head begun read (Ok asked) is h k =
    of_two start (λ rest. read.body_len ≤ length (begun ++ rest)) (λ rest. asked ≡ asked_by read (take read.body_len (begun ++ rest)))
    (λ rest. AsksBehind head (begun ++ rest) asked) h k (λ rest fits e. routed head (begun ++ rest) read asked is fits e)

pub refused_behind : (start : Option (List ℕ)) (head begun : List ℕ) (refusal : Refusal) → IsHeadRefused head refusal
    → OfInput start (λ rest. AsksBehind head (begun ++ rest) (Err refusal))
refused_behind None head begun refusal h = tt
refused_behind (Some s) head begun refusal h = inl (refusal, h, refl)

pub lacks_body : (start : Option (List ℕ)) (head begun : List ℕ) (read : Head) → IsReadAs head read
    → OfInput start (λ rest. length (begun ++ rest) < read.body_len) → OfInput start (λ rest. LacksBody head (begun ++ rest))
lacks_body start head begun read is h =
    of_map start (λ rest. length (begun ++ rest) < read.body_len) (λ rest. LacksBody head (begun ++ rest)) h
    (λ rest k. let P : ℕ → Type 0 = λ n. length (begun ++ rest) < n in (is.0, is.1, subst P is.2.body k))

pub body_read : (start now : Option (List ℕ)) (head : List ℕ) (read : Head) → IsReadAs head read → WereRead read.body_len start now → WereRead 131072 start now
body_read start now head read is h =
    more_read read.body_len 131072 start now (omega (arith, is.2.body, body_fits is.0.minor is.0.method (lines_of is.0) is.1.2)) h

-- what an input asks for whose head was read

of_front : (start mid : Option (List ℕ)) (front : Front) (P : List ℕ → List ℕ → Type 0) (Q : List ℕ → Type 0) → OfInputs start mid (IsFront front)
    → OfInput mid (λ rest. P front.head (front.behind ++ rest))
    → ((input : List ℕ) (n : ℕ) → front_in input ≡ Some n → P (head_in input n) (drop n input) → Q input) → OfInput start Q
of_front None mid front P Q is h f = tt
of_front (Some s) None front P Q is h f = absurd is
of_front (Some s) (Some m) front P Q is h f =
    let H : List ℕ → Type 0 = λ l. P l (front.behind ++ m) in
    let B : List ℕ → Type 0 = λ l. P (head_in s is.0) l in
    f s is.0 is.1 (subst B (sym is.3) (subst H is.2 h))

pub asks_front : (start mid : Option (List ℕ)) (front : Front) (r : Result (Result Command Refusal) Stop) → OfInputs start mid (IsFront front)
    → IfOk r (λ asked. OfInput mid (λ rest. AsksBehind front.head (front.behind ++ rest) asked)) → IfOk r (λ asked. OfInput start (λ input. Asks input asked))
asks_front start mid front (Err stop) is h = tt
asks_front start mid front (Ok asked) is h =
    of_front start mid front (λ head behind. AsksBehind head behind asked) (λ input. Asks input asked) is h (λ input n e k. inr (n, e, k))

pub ends_behind : (start mid : Option (List ℕ)) (front : Front) → OfInputs start mid (IsFront front)
    → OfInput mid (λ rest. LacksBody front.head (front.behind ++ rest)) → OfInput start EndsEarly
ends_behind start mid front is h = of_front start mid front LacksBody EndsEarly is h (λ input n e k. inr (n, e, k))

pub ends_in_head : (start : Option (List ℕ)) → OfInput start IsHeadless → OfInput start EndsEarly
ends_in_head start h = of_map start IsHeadless EndsEarly h (λ input k. inl k)

pub asks_overlong : (start : Option (List ℕ)) → OfInput start IsOverlong → OfInput start (λ input. Asks input (Err HeadTooLong))
asks_overlong start h = of_map start IsOverlong (λ input. Asks input (Err HeadTooLong)) h (λ input k. inl (k, refl))
