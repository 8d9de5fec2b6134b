-- The first line of a text, and how many lines stand before what is left of it.
use Rattle.std.proofs.Common.{◌≡◌, ℕ, suc, ◌+◌, ◌-◌, ◌<◌, ◌==◌, true, List, [], ◌∷◌, ◌++◌, length, take, drop, get_or, refl, sym, ap, subst, ◌∙◌, arith, length-drop}
use Rattle.std.proofs.lemmas.List.{take_all, drop_more, take-append-drop, get_or-take, length-take-le}
use Rattle.std.proofs.lemmas.Bool.{eq-eqb, eqb-true}
use Rattle.memchr.specs.Find.{Nowhere, NoneBefore, Passes, is_byte}
use Rattle.vmv_witness.specs.Reading.{lacks, SplitsAt}
use Rattle.vmv_witness.proofs.Bytes.{lacks-cons}

lacks_each : (b : ℕ) (xs : List ℕ) → ((k : ℕ) → k < length xs → (get_or xs k 0 == b) ≡ true → ⊥) → lacks b xs ≡ true
lacks_each b [] h = refl
lacks_each b (x ∷ xs) h = lacks-cons b x xs (λ e. h 0 (omega arith) (eq-eqb x b e)) (lacks_each b xs (λ k few e. h (suc k) (omega arith) e))

-- a byte that stands at no place is lacking
pub nowhere_lacks : (b : ℕ) (hay : List ℕ) → Nowhere (Passes (is_byte b) hay) 0 (length hay) → lacks b hay ≡ true
nowhere_lacks b hay none = lacks_each b hay (λ k few e. none k (omega arith) few e)

-- the first of these bytes splits the text
pub found_splits : (b : ℕ) (hay : List ℕ) (at : ℕ) → NoneBefore (Passes (is_byte b) hay) 0 (length hay) at × Passes (is_byte b) hay at
    → SplitsAt b hay (take at hay) (take (length hay - (at + 1)) (drop (at + 1) hay))
found_splits b hay at (none, is) = (front, whole)
  where
    small : at < length hay
    small = none.high

    front : lacks b (take at hay) ≡ true
    front =
        lacks_each b (take at hay)
        (λ k few e.
        let below : k < at = omega (arith, few, length-take-le at hay (omega (arith, small))) in
        none.before k (omega arith) below (subst (λ x. (x == b) ≡ true) (get_or-take at hay k 0 below) e))

    back : take (length hay - (at + 1)) (drop (at + 1) hay) ≡ drop (at + 1) hay
    back = take_all (length hay - (at + 1)) (drop (at + 1) hay) (omega (arith, length-drop (at + 1) hay))

    whole : hay ≡ take at hay ++ b ∷ take (length hay - (at + 1)) (drop (at + 1) hay)
    whole =
        sym (take-append-drop at hay)
        ∙ (ap (λ t. take at hay ++ t) (drop_more hay at 0 small)
        ∙ (ap (λ x. take at hay ++ x ∷ drop (at + 1) hay) (eqb-true (get_or hay at 0) b is)
        ∙ ap (λ t. take at hay ++ b ∷ t) (sym back)))
