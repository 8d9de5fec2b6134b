-- A mention stands at one place of a text.
use Rattle.std.proofs.Common.{◌≡◌, ℕ, zero, suc, ◌+◌, Some, List, [], ◌∷◌, take, drop, refl, sym, ap, arith, ◌∙◌}
use Rattle.vmv_tree.specs.declared.name.Name.{Name}
use Rattle.vmv_text.specs.Tokens.{Placed, placed_tokens, tokens_of, tokens}
use Rattle.vmv_text.specs.Faults.{line_after, column_after, front_at}
use Rattle.vmv_text.specs.Reading.{first_of}
use Rattle.vmv_text.specs.Mentioned.{name_count, HasMention}
use Rattle.vmv_text.proofs.Skipping.{names_in}
use Rattle.vmv_text.proofs.Spoken.{Token, Named}

-- a token and those behind it have the names of both
counted : (p : Placed) (a : List Placed) → name_count (p.token ∷ tokens_of a) ≡ name_count (p.token ∷ []) + name_count (tokens_of a)
counted p a = names_in (name_count (p.token ∷ [])) (p ∷ a) a (record { used = p ∷ []; place = refl; number = refl })

behind_one : (p : Placed) (a b : List Placed) → name_count (p.token ∷ tokens_of a) ≡ name_count (p.token ∷ tokens_of b) → name_count (tokens_of a) ≡ name_count (tokens_of b)
behind_one p a b h = omega (arith, h, counted p a, counted p b)

name_counts : (t : Token) (x : Name) (a : List Token) → t ≡ Named x → name_count (t ∷ a) ≡ 1 + name_count a
name_counts t x a e = ap (λ (u : Token). name_count (u ∷ a)) e

front_tokens : (k : ℕ) (ps : List Placed) → take k (tokens_of ps) ≡ tokens_of (take k ps)
front_tokens zero ps = refl
front_tokens (suc k) [] = refl
front_tokens (suc k) (p ∷ ps) = ap (λ (ts : List Token). p.token ∷ ts) (front_tokens k ps)

-- the name behind so many names is one
token_once : (ps : List Placed) (t u : ℕ) (x y : Name) → first_of (drop t ps) ≡ Some (Named x) → first_of (drop u ps) ≡ Some (Named y)
    → name_count (tokens_of (take t ps)) ≡ name_count (tokens_of (take u ps)) → t ≡ u
token_once [] zero u x y e f h = absurd (cc e)
token_once [] (suc t) u x y e f h = absurd (cc e)
token_once (p ∷ ps) zero zero x y e f h = refl
token_once (p ∷ ps) zero (suc u) x y e f h =
    let is : p.token ≡ Named x = cc e in
    let more = name_counts p.token x (tokens_of (take u ps)) is in
    absurd (omega (arith, h, more))
token_once (p ∷ ps) (suc t) zero x y e f h =
    let is : p.token ≡ Named y = cc f in
    let more = name_counts p.token y (tokens_of (take t ps)) is in
    absurd (omega (arith, h, more))
token_once (p ∷ ps) (suc t) (suc u) x y e f h = ap suc (token_once ps t u x y e f (behind_one p (take t ps) (take u ps) h))

numbered : (text : List ℕ) (mention line column : ℕ) (h : HasMention text mention line column) → name_count (tokens_of (take h.token (placed_tokens text))) ≡ mention
unfolding tokens
numbered text mention line column h = ap name_count (sym (front_tokens h.token (placed_tokens text))) ∙ h.number

pub mention_once : (text : List ℕ) (mention line column line' column' : ℕ) → HasMention text mention line column → HasMention text mention line' column' → (line ≡ line') × (column ≡ column')
mention_once text mention line column line' column' h g =
    let token = token_once (placed_tokens text) h.token g.token h.name g.name h.is_name g.is_name (numbered text mention line column h ∙ sym (numbered text mention line' column' g)) in (
      h.line_is ∙ (ap (λ k. line_after (front_at text k)) token ∙ sym g.line_is),
      h.column_is ∙ (ap (λ k. column_after (front_at text k)) token ∙ sym g.column_is),
    )
