-- A mention of a text stands at one place.
use Rattle.std.proofs.Common.{◌≡◌, ℕ, zero, suc, ◌+◌, Some, List, [], ◌∷◌, ◌++◌, take, drop, refl, sym, ap, subst, ◌∙◌, arith}
use Rattle.vmv_text.specs.Tokens.{Placed, placed_tokens, tokens_of, tokens}
use Rattle.vmv_text.specs.Reading.{first_of}
use Rattle.vmv_text.specs.Faults.{line_after, column_after, front_at}
use Rattle.vmv_text.specs.Mentioned.{name_count, HasMention, Skipped}
use Rattle.vmv_text.proofs.Skipping.{names_in}

front_count : (used now : List Placed) → name_count (tokens_of (used ++ now)) ≡ name_count (tokens_of used) + name_count (tokens_of now)
front_count used now = names_in (name_count (tokens_of used)) (used ++ now) now (record { used = used; place = refl; number = refl })

taken : (ps : List Placed) (k : ℕ) → take k (tokens_of ps) ≡ tokens_of (take k ps)
taken [] zero = refl
taken [] (suc k) = refl
taken (p ∷ ps) zero = refl
taken (p ∷ ps) (suc k) = ap (λ ts. p.token ∷ ts) (taken ps k)

counts : (p : Placed) (ps : List Placed) (k : ℕ) → name_count (p.token ∷ take k (tokens_of ps)) ≡ name_count (p.token ∷ []) + name_count (take k (tokens_of ps))
counts p ps k = subst (λ ts. name_count (p.token ∷ ts) ≡ name_count (p.token ∷ []) + name_count ts) (sym (taken ps k)) (front_count (p ∷ []) (take k ps))

-- a name of a list of tokens is known by how many names stand before it
name_place : (ps : List Placed) (j k : ℕ) (x y : _) → first_of (drop j ps) ≡ Some x → first_of (drop k ps) ≡ Some y → name_count (x ∷ []) ≡ 1 → name_count (y ∷ []) ≡ 1
    → name_count (take j (tokens_of ps)) ≡ name_count (take k (tokens_of ps)) → j ≡ k
name_place [] zero k x y h i one other e = absurd (cc h)
name_place [] (suc j) k x y h i one other e = absurd (cc h)
name_place (p ∷ ps) zero zero x y h i one other e = refl
name_place (p ∷ ps) zero (suc k) x y h i one other e =
    let same : p.token ≡ x = cc h in
    let first = ap (λ t. name_count (t ∷ [])) same in
    let more = counts p ps k in
    absurd (omega (arith, more, first, one, e))
name_place (p ∷ ps) (suc j) zero x y h i one other e =
    let same : p.token ≡ y = cc i in
    let first = ap (λ t. name_count (t ∷ [])) same in
    let more = counts p ps j in
    absurd (omega (arith, more, first, other, e))
name_place (p ∷ ps) (suc j) (suc k) x y h i one other e =
    let here = counts p ps j in
    let there = counts p ps k in
    ap suc (name_place ps j k x y h i one other (omega (arith, here, there, e)))

pub mention_place : (text : List ℕ) (mention line column line' column' : ℕ) → HasMention text mention line column → HasMention text mention line' column'
    → (line ≡ line') × (column ≡ column')
unfolding tokens
mention_place text mention line column line' column' h k =
    let token : h.token ≡ k.token = name_place (placed_tokens text) h.token k.token _ _ h.is_name k.is_name refl refl (h.number ∙ sym k.number) in (
      h.line_is ∙ (ap (λ n. line_after (front_at text n)) token ∙ sym k.line_is),
      h.column_is ∙ (ap (λ n. column_after (front_at text n)) token ∙ sym k.column_is),
    )
