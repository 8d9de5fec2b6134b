-- An input has one exchange.
use Rattle.std.proofs.Common.{◌≡◌, ◌≤◌, ℕ, List, [], length, take, drop, Option, Some, None, Result, Ok, Err, refl, sym, ap, subst, ◌∙◌, arith, inl, inr}
use Rattle.httparse.specs.Grammar.{RequestHead}
use Rattle.httparse.proofs.GrammarLemmas.{request_unique}
use Rattle.vmv_keeper.specs.declared.act.Command.{Command}
use Rattle.vmv_keeper.specs.Tables.{Tables}
use Rattle.vmv_desk_rules.specs.Causes.{Meaning}
use Rattle.vmv_desk_rules.specs.Step.{Step}
use Rattle.vmv_desk_laws.proofs.DeterminedLemmas.{one_step}
use Rattle.vmv_head.specs.declared.refusal.Refusal.{Refusal}
use Rattle.vmv_head.specs.Heads.{head_in}
use Rattle.vmv_head.specs.Lines.{line_refusal}
use Rattle.vmv_head.specs.Reads.{IsHead, IsHeadRead, IsHeadRefused, lines_of}
use Rattle.vmv_request_reading.specs.Fronts.{front_in}
use Rattle.vmv_http.specs.Requests.{length_told, asked_with, AsksBehind, Asks, LacksBody, EndsEarly}
use Rattle.vmv_http.specs.Exchanges.{Answer, Exchange}

none_some : {A : Type 0} (x : Option A) (a : A) → x ≡ None → x ≡ Some a → ⊥
none_some x a h k = cc (h, k)

one_some : {A : Type 0} (x : Option A) (a b : A) → x ≡ Some a → x ≡ Some b → a ≡ b
one_some x a b h k = cc (h, k)

abbrev asking : Command → Result Command Refusal
asking command = Ok command

abbrev refusing : Refusal → Result Command Refusal
refusing refusal = Err refusal

one_command : (a b : Command) → asking a ≡ asking b → a ≡ b
one_command a b h = cc h

one_refusal : (r s : Refusal) → refusing r ≡ refusing s → r ≡ s
one_refusal r s h = cc h

not_both_asked : (a : Command) (r : Refusal) → asking a ≡ refusing r → ⊥
not_both_asked a r h = cc h

-- the same bytes are one head, and refused for one cause

one_head : (head : List ℕ) (h k : RequestHead) → IsHead head h → IsHead head k → h ≡ k
one_head head h k a b = (request_unique head h k [] [] a.0 b.0).0

one_line : (h k : RequestHead) (x y : Option Refusal) → h ≡ k → line_refusal h.minor h.method (lines_of h) ≡ x
    → line_refusal k.minor k.method (lines_of k) ≡ y → x ≡ y
one_line h k x y e a b =
    let P : RequestHead → Type 0 = λ z. line_refusal z.minor z.method (lines_of z) ≡ y in
    sym a ∙ subst P (sym e) b

one_cause : (head : List ℕ) (r s : Refusal) → IsHeadRefused head r → IsHeadRefused head s → r ≡ s
one_cause head r s (inl a) (inl b) = a.1 ∙ sym b.1
one_cause head r s (inl a) (inr (inl b)) = absurd (omega (arith, a.0, b.0))
one_cause head r s (inl a) (inr (inr b)) = absurd (omega (arith, a.0, b.0))
one_cause head r s (inr (inl a)) (inl b) = absurd (omega (arith, a.0, b.0))
one_cause head r s (inr (inl a)) (inr (inl b)) = a.2 ∙ sym b.2
one_cause head r s (inr (inl a)) (inr (inr b)) = absurd (a.1 b.1.0 b.1.1)
one_cause head r s (inr (inr a)) (inl b) = absurd (omega (arith, a.0, b.0))
one_cause head r s (inr (inr a)) (inr (inl b)) = absurd (b.1 a.1.0 a.1.1)
one_cause head r s (inr (inr a)) (inr (inr b)) =
    let e = one_line a.1.0 b.1.0 (Some r) (Some s) (one_head head a.1.0 b.1.0 a.1.1 b.1.1) a.1.2 b.1.2 in one_some (Some r) r s refl e

not_both : (head : List ℕ) (r : Refusal) (h : RequestHead) → IsHeadRefused head r → IsHeadRead head h → ⊥
not_both head r h (inl a) b = omega (arith, a.0, b.0)
not_both head r h (inr (inl a)) b = a.1 h b.1
not_both head r h (inr (inr a)) b =
    none_some (Some r) r (one_line a.1.0 h (Some r) None (one_head head a.1.0 h a.1.1 b.1) a.1.2 b.2) refl

one_behind : (head behind : List ℕ) (asked other : Result Command Refusal) → AsksBehind head behind asked → AsksBehind head behind other → asked ≡ other
one_behind head behind asked other (inl a) (inl b) = a.2 ∙ ap Err (one_cause head a.0 b.0 a.1 b.1) ∙ sym b.2
one_behind head behind asked other (inl a) (inr b) = absurd (not_both head a.0 b.0 a.1 b.1)
one_behind head behind asked other (inr a) (inl b) = absurd (not_both head b.0 a.0 b.1 a.1)
one_behind head behind asked other (inr a) (inr b) =
    a.3 ∙ ap (λ h. asked_with h (take (length_told h) behind)) (one_head head a.0 b.0 a.1.1 b.1.1) ∙ sym b.3

not_whole : (head behind : List ℕ) (asked : Result Command Refusal) → AsksBehind head behind asked → LacksBody head behind → ⊥
not_whole head behind asked (inl a) b = not_both head a.0 b.0 a.1 b.1
not_whole head behind asked (inr a) b =
    let P : RequestHead → Type 0 = λ h. length_told h ≤ length behind in
    let fits : length_told b.0 ≤ length behind = subst P (one_head head a.0 b.0 a.1.1 b.1.1) a.2 in
    omega (arith, fits, b.2)

pub one_request : (input : List ℕ) (asked other : Result Command Refusal) → Asks input asked → Asks input other → asked ≡ other
one_request input asked other (inl a) (inl b) = a.1 ∙ sym b.1
one_request input asked other (inl a) (inr b) = absurd (none_some (front_in input) b.0 a.0.1 b.1)
one_request input asked other (inr a) (inl b) = absurd (none_some (front_in input) a.0 b.0.1 a.1)
one_request input asked other (inr a) (inr b) =
    let P : ℕ → Type 0 = λ n. AsksBehind (head_in input n) (drop n input) asked in
    one_behind (head_in input b.0) (drop b.0 input) asked other (subst P (one_some (front_in input) a.0 b.0 a.1 b.1) a.2) b.2

pub none_early : (input : List ℕ) (asked : Result Command Refusal) → Asks input asked → EndsEarly input → ⊥
none_early input asked (inl a) (inl b) = omega (arith, a.0.0, b.0)
none_early input asked (inl a) (inr b) = none_some (front_in input) b.0 a.0.1 b.1
none_early input asked (inr a) (inl b) = none_some (front_in input) a.0 b.1 a.1
none_early input asked (inr a) (inr b) =
    let P : ℕ → Type 0 = λ n. AsksBehind (head_in input n) (drop n input) asked in
    not_whole (head_in input b.0) (drop b.0 input) asked (subst P (one_some (front_in input) a.0 b.0 a.1 b.1) a.2) b.2

pub one_exchange : (J : Meaning) (input : List ℕ) (tables new other : Tables) (answer again : Answer) → Exchange J input tables new answer
    → Exchange J input tables other again → (new ≡ other) × (answer ≡ again)
one_exchange J input tables new other (Ok r) (Ok s) a b =
    let P : Command → Type 0 = λ c. Step J tables c new r in
    let e = one_command a.0 b.0 (one_request input (Ok a.0) (Ok b.0) a.1 b.1) in
    let both = one_step J tables new other b.0 r s (subst P e a.2) b.2 in
    (both.0, ap Ok both.1)
one_exchange J input tables new other (Ok r) (Err s) a b = absurd (not_both_asked a.0 s (one_request input (Ok a.0) (Err s) a.1 b.0))
one_exchange J input tables new other (Err r) (Ok s) a b = absurd (not_both_asked b.0 r (one_request input (Ok b.0) (Err r) b.1 a.0))
one_exchange J input tables new other (Err r) (Err s) a b =
    (a.1 ∙ sym b.1, ap Err (one_refusal r s (one_request input (Err r) (Err s) a.0 b.0)))
