-- The tokens of a text are its first, and those of what is behind it.
use Rattle.std.proofs.Common.{◌≡◌, ℕ, zero, suc, ◌+◌, ◌<◌, ◌≤◌, Bool, true, false, not, ◌&&◌, ◌||◌, cond, Option, Some, None, List, [], ◌∷◌, length, drop, take, map, refl, sym, ap, ◌∙◌, arith, length-drop}
use Rattle.std.specs.Prelude.{◌==◌, if◌then◌else◌, unwrap_or}
use Rattle.std.specs.Option.{option_map}
use Rattle.vmv_tree.specs.Names.{is_letter, is_digit}
use Rattle.vmv_text.specs.declared.language.Language.{Language}
use Rattle.vmv_text.specs.declared.language.Language.TheVariants.{Core, Surface}
use Rattle.vmv_text.specs.declared.token.Token.{Token}
use Rattle.vmv_text.specs.Faults.{left_from}
use Rattle.vmv_text.specs.Reading.{first_of, front_tokens, IsEnd, IsFront}
use Rattle.vmv_text.specs.Tokens.{Placed, is_white, begins_with, after_gap, token_at, mark_token, token_and, tokens_in, placed_tokens, spelled, pairs, token_in, placed_in, language_tokens}

mark_some : (o : Option Token) (t : Token) → 0 < (unwrap_or {T = Token × ℕ} (option_map (λ (t : Token). (t, 2)) o) (t, 1)).1
mark_some None t = omega arith
mark_some (Some u) t = omega arith

first_some : (t u : Bool) (w n : Token) (i j : ℕ) (m : Token × ℕ) → 0 < m.1 → 0 < (if t then (w, cond (t || u) (1 + i) 0) else (if u then (n, cond u (1 + j) 0) else m)).1
first_some true u w n i j m h = omega arith
first_some false true w n i j m h = omega arith
first_some false false w n i j m h = h

pub some_bytes : (b : ℕ) (rest : List ℕ) → 0 < (token_at (b ∷ rest)).1
some_bytes b rest = first_some (is_letter b) (is_digit b) _ _ _ _ (mark_token (b ∷ rest)) (mark_some (spelled pairs (take 2 (b ∷ rest))) _)

gap_case : (s t : Bool) (b : ℕ) (rest x y : List ℕ) → length x ≤ length rest → length y ≤ length rest → length (if s then x else (if t then y else b ∷ rest)) ≤ suc (length rest)
gap_case true t b rest x y h k = omega arith
gap_case false true b rest x y h k = omega arith
gap_case false false b rest x y h k = omega arith

pub length-after_gap : (comment : Bool) (text : List ℕ) → length (after_gap comment text) ≤ length text
length-after_gap comment [] = omega arith
length-after_gap true (b ∷ rest) = omega (arith, length-after_gap (not (b == 10)) rest)
length-after_gap false (b ∷ rest) =
    gap_case (is_white b) (b == 47 && begins_with 47 rest) b rest (after_gap false rest) (after_gap true rest) (length-after_gap false rest) (length-after_gap true rest)

-- enough fuel is enough
and_same : (f g : List ℕ → List Placed) (text : List ℕ) → ((rest : List ℕ) → length rest < length text → f rest ≡ g rest) → token_and f text ≡ token_and g text
and_same f g [] h = refl
and_same f g (b ∷ rest) h =
    let some = some_bytes b rest in
    ap (λ ts. record { token = (token_at (b ∷ rest)).0; from = b ∷ rest } ∷ ts) (h (drop (token_at (b ∷ rest)).1 (b ∷ rest)) (omega (arith, length-drop (token_at (b ∷ rest)).1 (b ∷ rest))))

pub tokens_in-enough : (n m : ℕ) (text : List ℕ) → length text ≤ n → length text ≤ m → tokens_in n text ≡ tokens_in m text
tokens_in-enough zero zero text h k = refl
tokens_in-enough zero (suc m) [] h k = refl
tokens_in-enough zero (suc m) (b ∷ text) h k = absurd (omega arith)
tokens_in-enough (suc n) zero [] h k = refl
tokens_in-enough (suc n) zero (b ∷ text) h k = absurd (omega arith)
tokens_in-enough (suc n) (suc m) text h k =
    let gap = length-after_gap false text in
    and_same (tokens_in n) (tokens_in m) (after_gap false text) (λ rest less. tokens_in-enough n m rest (omega arith) (omega arith))

-- the first token, and the tokens behind it
pub placed_tokens-step : (text : List ℕ) → placed_tokens text ≡ token_and placed_tokens (after_gap false text)
unfolding placed_tokens
placed_tokens-step [] = refl
placed_tokens-step (b ∷ rest) =
    let gap = length-after_gap false (b ∷ rest) in
    and_same (tokens_in (length rest)) placed_tokens (after_gap false (b ∷ rest)) (λ back less. tokens_in-enough (length rest) (length back) back (omega arith) (omega arith))

-- the tokens of a text with nothing in front, and of one with a token there
pub placed-none : (text : List ℕ) → after_gap false text ≡ [] → placed_tokens text ≡ []
placed-none text h = placed_tokens-step text ∙ ap (λ t. token_and placed_tokens t) h

placed-some : (text : List ℕ) (b : ℕ) (rest : List ℕ) → after_gap false text ≡ b ∷ rest → placed_tokens text ≡ record { token = (token_at (b ∷ rest)).0; from = b ∷ rest } ∷ placed_tokens (drop (token_at (b ∷ rest)).1 (b ∷ rest))
placed-some text b rest h = placed_tokens-step text ∙ ap (λ t. token_and placed_tokens t) h

-- the same for what is left behind the gap, as a list that isn't taken apart
pub placed-first : (text at : List ℕ) → after_gap false text ≡ at → 0 < length at → placed_tokens text ≡ record { token = (token_at at).0; from = at } ∷ placed_tokens (drop (token_at at).1 at)
placed-first text [] h k = absurd (omega arith)
placed-first text (b ∷ rest) h k = placed-some text b rest h

pub first_longer : (at : List ℕ) → 0 < length at → 0 < (token_at at).1
first_longer [] h = absurd (omega arith)
first_longer (b ∷ rest) h = some_bytes b rest

-- in either language: no token is left, or one and those behind it

abbrev of_place : Language → List Placed → List Placed
of_place Core ps = ps
of_place Surface ps = map (placed_in Surface) ps

of_language : (language : Language) (text : List ℕ) → language_tokens language text ≡ of_place language (placed_tokens text)
of_language Core text = refl
of_language Surface text = refl

first_of_place : (language : Language) (p : Placed) (rest : List Placed) → of_place language (p ∷ rest) ≡ placed_in language p ∷ of_place language rest
first_of_place Core p rest = refl
first_of_place Surface p rest = refl

none_of_place : (language : Language) → of_place language [] ≡ []
none_of_place Core = refl
none_of_place Surface = refl

pub language-none : (language : Language) (text : List ℕ) → after_gap false text ≡ [] → language_tokens language text ≡ []
language-none language text h =
    of_language language text ∙ (ap (of_place language) (placed-none text h) ∙ none_of_place language)

pub language-first : (language : Language) (text at : List ℕ) → after_gap false text ≡ at → 0 < length at
    → language_tokens language text ≡ record { token = token_in language (token_at at).0 at; from = at } ∷ language_tokens language (drop (token_at at).1 at)
language-first language text at h k =
    let behind = drop (token_at at).1 at in
    let here : Placed = record { token = (token_at at).0; from = at } in
    of_language language text
    ∙ (ap (of_place language) (placed-first text at h k)
    ∙ (first_of_place language here (placed_tokens behind) ∙ ap (λ more. placed_in language here ∷ more) (sym (of_language language behind))))

-- no token is next, and one is
pub front_none : (language : Language) (text at : List ℕ) → after_gap false text ≡ at → at ≡ [] → IsFront language text None at at
front_none language text at h e = record { same = sym (language-none language text (h ∙ e)); end = λ none. (e, e) }

pub front_some : (language : Language) (text at behind : List ℕ) (token : Token) → after_gap false text ≡ at → 0 < length at → token ≡ token_in language (token_at at).0 at → behind ≡ drop (token_at at).1 at
    → IsFront language text (Some token) at behind
front_some language text at behind token h k e f = record {
  same =
      ap (λ t. front_tokens language (Some t) at behind) e
      ∙ (ap (λ more. front_tokens language (Some (token_in language (token_at at).0 at)) at more) f ∙ sym (language-first language text at h k));
  end = λ none. absurd (cc none);
}

-- what the next token, the text from it on and the text behind it are of the tokens that are left
pub front_first : (language : Language) (token : Option Token) (from behind : List ℕ) → token ≡ first_of (front_tokens language token from behind)
front_first language None from behind = refl
front_first language (Some t) from behind = refl

pub front_left : (language : Language) (token : Option Token) (from behind : List ℕ) → IsEnd token from behind → from ≡ left_from (front_tokens language token from behind)
front_left language None from behind end = (end refl).0
front_left language (Some t) from behind end = refl

pub front_rest : (language : Language) (token : Option Token) (from behind : List ℕ) → IsEnd token from behind → language_tokens language behind ≡ drop 1 (front_tokens language token from behind)
front_rest language None from behind end = ap (language_tokens language) (end refl).1 ∙ language-none language [] refl
front_rest language (Some t) from behind end = refl
