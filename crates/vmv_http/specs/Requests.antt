-- What the request at the front of an input asks for, or why it is refused; and which inputs end before it does.
use Rattle.std.specs.Prelude.{◌≡◌, ◌⊎◌, ◌≤◌, ◌<◌, ℕ, List, length, take, drop, codes, Some, Result, Err}
use Rattle.httparse.specs.Grammar.{RequestHead}
use Rattle.vmv_keeper.specs.declared.act.Command.{Command}
use Rattle.vmv_head.specs.declared.refusal.Refusal.{Refusal}
use Rattle.vmv_head.specs.declared.refusal.Refusal.TheVariants.{HeadTooLong}
use Rattle.vmv_head.specs.Heads.{head_in}
use Rattle.vmv_head.specs.Lines.{how_many, first_value, body_length}
use Rattle.vmv_head.specs.Reads.{IsHeadRead, IsHeadRefused, lines_of}
use Rattle.vmv_request_reading.specs.Fronts.{front_in, IsOverlong, IsHeadless}
use Rattle.vmv_routes.specs.Asked.{asked_of}

-- how long the body is
abbrev pub length_told : RequestHead → ℕ
length_told h = body_length (lines_of h)

-- what a head asks for with a body, or why the two are refused
abbrev pub asked_with : RequestHead → List ℕ → Result Command Refusal
asked_with h body =
    asked_of h.method h.target (how_many (codes "x-member") (lines_of h)) (first_value (codes "x-member") (lines_of h)) body

-- behind these bytes as the head, which isn't refused, the body is whole: its route decides
abbrev pub IsRouted : (head behind : List ℕ) → Result Command Refusal → Type 0
IsRouted head behind asked =
    (h : RequestHead) × IsHeadRead head h × (length_told h ≤ length behind) × (asked ≡ asked_with h (take (length_told h) behind))

-- what these bytes as the head ask for with those behind, or the first cause for which they are refused
abbrev pub AsksBehind : (head behind : List ℕ) → Result Command Refusal → Type 0
AsksBehind head behind asked = ((refusal : Refusal) × IsHeadRefused head refusal × (asked ≡ Err refusal)) ⊎ IsRouted head behind asked

-- what the request at the front of an input asks for, or the first cause for which it is refused
abbrev pub Asks : List ℕ → Result Command Refusal → Type 0
Asks input asked =
    (IsOverlong input × (asked ≡ Err HeadTooLong))
    ⊎ ((n : ℕ) × (front_in input ≡ Some n) × AsksBehind (head_in input n) (drop n input) asked)

-- behind these bytes as the head, which isn't refused, the body isn't whole
abbrev pub LacksBody : (head behind : List ℕ) → Type 0
LacksBody head behind = (h : RequestHead) × IsHeadRead head h × (length behind < length_told h)

-- an input ends before its request does: in the head, or in the body behind a head that isn't refused
abbrev pub EndsEarly : List ℕ → Type 0
EndsEarly input = IsHeadless input ⊎ ((n : ℕ) × (front_in input ≡ Some n) × LacksBody (head_in input n) (drop n input))
