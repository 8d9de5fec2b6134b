-- Lists of bytes that lack a byte, and how a byte splits a list.
use Rattle.std.proofs.Common.{◌≡◌, ℕ, Bool, true, false, not, ◌==◌, List, [], ◌∷◌, ◌++◌, refl, sym, ap, ◌∙◌}
use Rattle.std.proofs.lemmas.Bool.{and_parts, and_from, eq-eqb, ne_eqb, false≢true}
use Rattle.std.proofs.lemmas.List.Folds.{list_all-append}
use Rattle.vmv_witness.specs.Reading.{lacks}

pub lacks-append : (b : ℕ) (xs ys : List ℕ) → lacks b xs ≡ true → lacks b ys ≡ true → lacks b (xs ++ ys) ≡ true
lacks-append b xs ys h k = list_all-append (λ x. not (x == b)) xs ys ∙ and_from (lacks b xs) (lacks b ys) h k

pub lacks_parts : (b : ℕ) (xs ys : List ℕ) → lacks b (xs ++ ys) ≡ true → (lacks b xs ≡ true) × (lacks b ys ≡ true)
lacks_parts b xs ys h = and_parts (lacks b xs) (lacks b ys) (sym (list_all-append (λ x. not (x == b)) xs ys) ∙ h)

not_both : (t : Bool) → not t ≡ true → t ≡ true → ⊥
not_both true h e = false≢true h
not_both false h e = false≢true e

-- a list that lacks a byte doesn't begin with it
pub lacks_head : (b x : ℕ) (xs : List ℕ) → lacks b (x ∷ xs) ≡ true → x ≡ b → ⊥
lacks_head b x xs h e = not_both (x == b) (and_parts (not (x == b)) (lacks b xs) h).0 (eq-eqb x b e)

pub lacks_tail : (b x : ℕ) (xs : List ℕ) → lacks b (x ∷ xs) ≡ true → lacks b xs ≡ true
lacks_tail b x xs h = (and_parts (not (x == b)) (lacks b xs) h).1

pub lacks-cons : (b x : ℕ) (xs : List ℕ) → (x ≡ b → ⊥) → lacks b xs ≡ true → lacks b (x ∷ xs) ≡ true
lacks-cons b x xs h k = and_from (not (x == b)) (lacks b xs) (ap not (ne_eqb x b h)) k

-- the byte stands in what it splits
pub lacks_none : (b : ℕ) (front back : List ℕ) → lacks b (front ++ b ∷ back) ≡ true → ⊥
lacks_none b front back h = lacks_head b b back (lacks_parts b front (b ∷ back) h).1 refl

-- a byte splits a list in one way, where the front lacks it
pub same_split : (b : ℕ) (x y z w : List ℕ) → lacks b x ≡ true → lacks b z ≡ true → x ++ b ∷ y ≡ z ++ b ∷ w → (x ≡ z) × (y ≡ w)
same_split b [] y [] w h k e = (refl, cc)
same_split b [] y (c ∷ z) w h k e = let s : c ≡ b = cc in absurd (lacks_head b c z k s)
same_split b (c ∷ x) y [] w h k e = let s : c ≡ b = cc in absurd (lacks_head b c x h s)
same_split b (c ∷ x) y (d ∷ z) w h k e =
    let heads : c ≡ d = cc in
    let tails : x ++ b ∷ y ≡ z ++ b ∷ w = cc in
    let r = same_split b x y z w (lacks_tail b c x h) (lacks_tail b d z k) tails in
    (λ i. heads i ∷ r.0 i, r.1)
