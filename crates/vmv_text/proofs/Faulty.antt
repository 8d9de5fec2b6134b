-- The place at which the reading of a program stopped is that of the text's fault.
use Rattle.std.proofs.Common.{◌≡◌, ℕ, zero, suc, ◌+◌, ◌-◌, ◌<◌, ◌≤◌, true, false, List, [], ◌∷◌, ◌++◌, Option, Some, None, length, take, drop, refl, sym, ◌∙◌, ap, subst, add-one, append_assoc, arith, length-drop}
use Rattle.std.specs.Option.{is_some}
use Rattle.std.specs.Str.{IsUtf8}
use Rattle.vmv_tree.specs.Tree.{Item}
use Rattle.vmv_text.specs.declared.token.Token.{Token}
use Rattle.vmv_text.specs.declared.fault.ReadFault.{ReadFault}
use Rattle.vmv_text.specs.declared.fault.ReadFault.TheVariants.{TooLong, NotUtf8, Syntax, Memory}
use Rattle.vmv_text.specs.Tokens.{Placed, after_gap, token_at, token_and, tokens_in, placed_tokens, tokens_of, tokens}
use Rattle.vmv_text.specs.Grammar.{IsProgram, IsText}
use Rattle.vmv_text.specs.Faults.{Begins, FaultAt, line_after, column_after, left_from, HasFault, IsPlace, IsReadFault}
use Rattle.vmv_text.specs.Reading.{Meets, ProgramStops}
use Rattle.vmv_text.proofs.Steps.{meets_same}
use Rattle.vmv_text.proofs.Unrolled.{length-after_gap}

pub tokens_of-append : (a b : List Placed) → tokens_of (a ++ b) ≡ tokens_of a ++ tokens_of b
tokens_of-append [] b = refl
tokens_of-append (p ∷ a) b = ap (λ ts. p.token ∷ ts) (tokens_of-append a b)

pub take_used : (used new : List Placed) → take (length used) (tokens_of (used ++ new)) ≡ tokens_of used
take_used [] new = refl
take_used (p ∷ used) new = ap (λ ts. p.token ∷ ts) (take_used used new)

take_one_more : (used : List Placed) (p : Placed) (back : List Placed) → take (suc (length used)) (tokens_of (used ++ (p ∷ back))) ≡ tokens_of used ++ (p.token ∷ [])
take_one_more [] p back = refl
take_one_more (q ∷ used) p back = ap (λ ts. q.token ∷ ts) (take_one_more used p back)

drop_used : (used new : List Placed) → drop (length used) (used ++ new) ≡ new
drop_used [] new = refl
drop_used (p ∷ used) new = drop_used used new

length_used : (used new : List Placed) → length (tokens_of (used ++ new)) ≡ length used + length new
length_used [] [] = refl
length_used [] (p ∷ new) = omega (arith, length_used [] new)
length_used (p ∷ used) new = omega (arith, length_used used new)

-- the place of the fault among the tokens
fault_in : (used new : List Placed) (program : List Item) (more : List Token) → IsProgram program (tokens_of used ++ more)
    → ((items : List Item) (us : List Token) → Meets new us → IsProgram items (tokens_of used ++ us) → ⊥) → FaultAt (tokens_of (used ++ new)) (length used)
fault_in used new program more goes_on shut = record {
  within = omega (arith, length_used used new);
  before = (program, more, subst (λ ts. IsProgram program (ts ++ more)) (sym (take_used used new)) goes_on);
  here = here used new shut;
  no_program = λ items h. shut items (tokens_of new) (meets_same new) (subst (λ ts. IsProgram items ts) (tokens_of-append used new) h);
}
  where
    here : (used new : List Placed) → ((items : List Item) (us : List Token) → Meets new us → IsProgram items (tokens_of used ++ us) → ⊥)
        → length used < length (tokens_of (used ++ new)) → Begins (take (length used + 1) (tokens_of (used ++ new))) → ⊥
    here used [] shut less b = absurd (omega (arith, length_used used []))
    here used (p ∷ back) shut less b =
        let front = ap (λ n. take n (tokens_of (used ++ (p ∷ back)))) (add-one (length used)) ∙ take_one_more used p back in
        let joined = ap (λ ts. ts ++ b.1) front ∙ append_assoc (tokens_of used) (p.token ∷ []) b.1 in
        shut b.0 (p.token ∷ b.1) (b.1, refl) (subst (λ ts. IsProgram b.0 ts) joined b.2)

-- nothing that is left is longer than the text
first_within : (n : ℕ) → ((text : List ℕ) (k : ℕ) → length (left_from (drop k (tokens_in n text))) ≤ length text)
    → (at : List ℕ) (k : ℕ) → length (left_from (drop k (token_and (tokens_in n) at))) ≤ length at
first_within n behind [] zero = omega arith
first_within n behind [] (suc k) = omega arith
first_within n behind (b ∷ rest) zero = omega arith
first_within n behind (b ∷ rest) (suc k) =
    omega (arith, behind (drop (token_at (b ∷ rest)).1 (b ∷ rest)) k, length-drop (token_at (b ∷ rest)).1 (b ∷ rest))

left_within : (n : ℕ) (text : List ℕ) (k : ℕ) → length (left_from (drop k (tokens_in n text))) ≤ length text
left_within zero text zero = omega arith
left_within zero text (suc k) = omega arith
left_within (suc n) text k =
    omega (arith, first_within n (left_within n) (after_gap false text) k, length-after_gap false text)

pub stopped_at : (text : List ℕ) (used new : List Placed) → placed_tokens text ≡ used ++ new → drop (length used) (placed_tokens text) ≡ new
stopped_at text used new e = ap (drop (length used)) e ∙ drop_used used new

pub behind_short : (text : List ℕ) (used new : List Placed) → placed_tokens text ≡ used ++ new → length (left_from new) ≤ length text
unfolding placed_tokens
behind_short text used new e =
    subst (λ t. length (left_from t) ≤ length text) (stopped_at text used new e) (left_within (length text) text (length used))

pub left_short : (text : List ℕ) (old new : List Placed) → old ≡ placed_tokens text → ProgramStops old new → length (left_from new) ≤ length text
left_short text old new e s = behind_short text s.used new (sym e ∙ s.place)

pub has_fault : (text : List ℕ) (old new : List Placed) (line column : ℕ) → old ≡ placed_tokens text → ProgramStops old new
    → line ≡ line_after (take (length text - length (left_from new)) text) → column ≡ column_after (take (length text - length (left_from new)) text) → HasFault text line column
unfolding tokens
has_fault text old new line column e s l c =
    let whole = sym e ∙ s.place in
    let here = stopped_at text s.used new whole in
    record {
      token = length s.used;
      fault = subst (λ t. FaultAt (tokens_of t) (length s.used)) (sym whole) (fault_in s.used new s.program s.more s.goes_on s.shut);
      line_is = subst (λ t. line ≡ line_after (take (length text - length (left_from t)) text)) (sym here) l;
      column_is = subst (λ t. column ≡ column_after (take (length text - length (left_from t)) text)) (sym here) c;
    }

-- the same of a place that is told as a fault
pub read_fault : (fault : ReadFault) (text : List ℕ) (old new : List Placed) (left : ℕ) → old ≡ placed_tokens text → ProgramStops old new → left ≡ length (left_from new) → length text ≤ 1048576 → IsUtf8 text
    → IsPlace (take (length text - left) text) fault → IsReadFault text fault
read_fault (TooLong found) text old new left e s l short utf8 p = absurd p
read_fault (NotUtf8 at) text old new left e s l short utf8 p = absurd p
read_fault (Syntax line column) text old new left e s l short utf8 p =
    let q = subst (λ n. IsPlace (take (length text - n) text) (Syntax line column)) l p in
    (short, utf8, has_fault text old new line column e s q.0 q.1)
read_fault Memory text old new left e s l short utf8 p = absurd p

pub text_made : (text : List ℕ) (old : List Placed) (items : List Item) → old ≡ placed_tokens text → IsUtf8 text → IsProgram items (tokens_of old) → IsText text items
unfolding tokens
text_made text old items e utf8 h = record { utf8 = utf8; grammar = subst (λ t. IsProgram items (tokens_of t)) e h }

pub none_first : (o : Option Token) → is_some o ≡ false → o ≡ None
none_first None h = refl
none_first (Some t) h = absurd (cc h)

pub some_first : (o : Option Token) → is_some o ≡ true → o ≡ None → ⊥
some_first None h e = cc h
some_first (Some t) h e = cc e
