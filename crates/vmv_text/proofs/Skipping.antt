-- Tokens that are left out on the way to a name.
use Rattle.std.proofs.Common.{Bool, ◌≡◌, ℕ, ◌+◌, ◌-◌, ◌<◌, ◌≤◌, true, false, List, [], ◌∷◌, ◌++◌, Option, Some, None, length, take, drop, refl, sym, ◌∙◌, ap, subst, append_assoc, arith}
use Rattle.std.specs.Option.{is_some, MatchOption}
use Rattle.vmv_tree.specs.declared.name.Name.{Name}
use Rattle.vmv_text.specs.declared.token.Token.{Token}
use Rattle.vmv_text.specs.declared.token.Token.TheVariants.{Named}
use Rattle.vmv_text.specs.Tokens.{Placed, placed_tokens, tokens_of, tokens}
use Rattle.vmv_text.specs.Faults.{line_after, column_after, left_from}
use Rattle.vmv_text.specs.Reading.{first_of}
use Rattle.vmv_text.specs.Mentioned.{name_count, HasMention, Skipped, AtName}
use Rattle.vmv_text.proofs.Faulty.{tokens_of-append, take_used, stopped_at}

-- a token that is no name counts nothing
no_name : (t : Token) (ts : List Token) → ((x : Name) → t ≡ Named x → ⊥) → name_count (t ∷ ts) ≡ name_count ts
no_name (Named x) ts h = absurd (h x refl)
no_name t ts h = refl

count-append : (ts us : List Token) → name_count (ts ++ us) ≡ name_count ts + name_count us
count-append [] us = omega arith
count-append (Named x ∷ ts) us = omega (arith, count-append ts us)
count-append (t ∷ ts) us = count-append ts us

pub skipped_none : (start : List Placed) → Skipped 0 start start
skipped_none start = record { used = []; place = refl; number = refl }

one_more : (n : ℕ) (p : Placed) (start now new : List Placed) → Skipped n start now → now ≡ p ∷ new → (m : ℕ) → name_count (p.token ∷ []) ≡ m → Skipped (n + m) start new
one_more n p start now new s e m h = record {
  used = s.used ++ (p ∷ []);
  place = s.place ∙ (ap (λ t. s.used ++ t) e ∙ sym (append_assoc s.used (p ∷ []) new));
  number = ap name_count (tokens_of-append s.used (p ∷ [])) ∙ (count-append (tokens_of s.used) (p.token ∷ []) ∙ counted);
}
  where
    counted : name_count (tokens_of s.used) + name_count (p.token ∷ []) ≡ n + m
    counted = omega (arith, s.number, h)

-- past a token that is no name
pub skipped_other : (n : ℕ) (t : Token) (start now new : List Placed) → Skipped n start now → first_of now ≡ Some t → ((x : Name) → t ≡ Named x → ⊥) → new ≡ drop 1 now → Skipped n start new
skipped_other n t start [] new s h other e = absurd (cc h)
skipped_other n t start (p ∷ now) new s h other e =
    let here : p.token ≡ t = cc h in
    let none = no_name p.token [] (λ x k. other x (sym here ∙ k)) in
    let sum : n + 0 ≡ n = omega arith in
    subst (λ m. Skipped m start new) sum (one_more n p start (p ∷ now) new s (ap (λ t. p ∷ t) (sym e)) 0 none)

-- past a name
pub skipped_name : (n : ℕ) (x : Name) (start now new : List Placed) → Skipped n start now → first_of now ≡ Some (Named x) → new ≡ drop 1 now → Skipped (n + 1) start new
skipped_name n x start [] new s h e = absurd (cc h)
skipped_name n x start (p ∷ now) new s h e =
    let here : p.token ≡ Named x = cc h in
    one_more n p start (p ∷ now) new s (ap (λ t. p ∷ t) (sym e)) 1 (ap (λ t. name_count (t ∷ [])) here)

-- one way and then another
pub skipped_on : (n m : ℕ) (start now new : List Placed) → Skipped n start now → Skipped m now new → Skipped (n + m) start new
skipped_on n m start now new s t = record {
  used = s.used ++ t.used;
  place = s.place ∙ (ap (λ z. s.used ++ z) t.place ∙ sym (append_assoc s.used t.used new));
  number = ap name_count (tokens_of-append s.used t.used) ∙ (count-append (tokens_of s.used) (tokens_of t.used) ∙ counted);
}
  where
    counted : name_count (tokens_of s.used) + name_count (tokens_of t.used) ≡ n + m
    counted = omega (arith, s.number, t.number)

-- how many names stand before, and from here on
pub names_in : (n : ℕ) (start now : List Placed) → Skipped n start now → name_count (tokens_of start) ≡ n + name_count (tokens_of now)
names_in n start now s =
    let whole = ap (λ z. name_count (tokens_of z)) s.place in
    let parts = ap name_count (tokens_of-append s.used now) ∙ count-append (tokens_of s.used) (tokens_of now) in
    omega (arith, whole, parts, s.number)

pub none_left : (now : List Placed) → first_of now ≡ None → name_count (tokens_of now) ≡ 0
none_left [] h = refl
none_left (p ∷ now) h = absurd (cc h)

pub fewer : (now new : List Placed) (t : Token) → first_of now ≡ Some t → new ≡ drop 1 now → length new < length now
fewer [] new t h e = absurd (cc h)
fewer (p ∷ now) new t h e = omega (arith, ap length e)

pub has_mention : (text : List ℕ) (old new : List Placed) (mention left line column : ℕ) → old ≡ placed_tokens text → AtName mention true old new → left ≡ length (left_from new)
    → line ≡ line_after (take (length text - left) text) → column ≡ column_after (take (length text - left) text) → HasMention text mention line column
unfolding tokens
has_mention text old new mention left line column e at l i j =
    let s = at.2 in
    let whole = sym e ∙ s.place in
    let here = stopped_at text s.used new whole in
    let left_is = l ∙ ap (λ z. length (left_from z)) (sym here) in
    record {
      token = length s.used;
      name = at.0;
      is_name = ap first_of here ∙ at.1;
      number = ap (λ z. name_count (take (length s.used) (tokens_of z))) whole ∙ (ap name_count (take_used s.used new) ∙ s.number);
      line_is = i ∙ ap (λ n. line_after (take (length text - n) text)) left_is;
      column_is = j ∙ ap (λ n. column_after (take (length text - n) text)) left_is;
    }

pub no_mention : (text : List ℕ) (old new : List Placed) (mention : ℕ) → old ≡ placed_tokens text → AtName mention false old new → name_count (tokens text) ≤ mention
unfolding tokens
no_mention text old new mention e h = subst (λ z. name_count (tokens_of z) ≤ mention) e h

pub unnamed : (o : Option Name) (t : Token) → MatchOption o ((x : Name) → Some t ≡ Some (Named x) → ⊥) (λ x. Some t ≡ Some (Named x)) → is_some o ≡ false → (x : Name) → t ≡ Named x → ⊥
unnamed None t h e x k = h x (ap Some k)
unnamed (Some y) t h e x k = cc e

pub named_here : (o : Option Name) (t : Token) (start now : List Placed) → MatchOption o ((x : Name) → Some t ≡ Some (Named x) → ⊥) (λ x. Some t ≡ Some (Named x)) → is_some o ≡ true → first_of now ≡ Some t → Skipped 0 start now → AtName 0 true start now
named_here None t start now h e f s = absurd (cc e)
named_here (Some y) t start now h e f s = (y, f ∙ h, s)

-- to the next name and past it
pub past_next : (n : ℕ) (start now mid new : List Placed) → Skipped n start now → AtName 0 true now mid → new ≡ drop 1 mid → Skipped (n + 1) start new
past_next n start now mid new s at e =
    let sum : n + 0 ≡ n = omega arith in
    skipped_name n at.0 start mid new (subst (λ m. Skipped m start mid) sum (skipped_on n 0 start now mid s at.2)) at.1 e

pub too_few : (n number : ℕ) (start now mid : List Placed) → Skipped n start now → AtName 0 false now mid → n ≤ number → name_count (tokens_of start) ≤ number
too_few n number start now mid s at le = omega (arith, names_in n start now s)

pub at_last : (found : Bool) (n number : ℕ) (start now mid : List Placed) → Skipped n start now → AtName 0 found now mid → n ≡ number → AtName number found start mid
at_last true n number start now mid s at e =
    let sum : n + 0 ≡ number = omega (arith, e) in
    (at.0, at.1, subst (λ m. Skipped m start mid) sum (skipped_on n 0 start now mid s at.2))
at_last false n number start now mid s at e = omega (arith, names_in n start now s, e)
