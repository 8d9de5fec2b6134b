-- Runs of bytes in a text: digits, and the bytes of a word.
use Rattle.std.proofs.Common.{◌≡◌, ℕ, ◌+◌, ◌^◌, ◌<◌, ◌≤◌, suc, Bool, true, false, cond, List, [], ◌∷◌, length, take, drop, get_or, fold, refl, arith}
use Rattle.std.specs.List.{prefix_len, list_all}
use Rattle.std.proofs.lemmas.Bool.{and_from, le-ltb, ne_eqb}
use Rattle.std.proofs.lemmas.List.{at_drop_more}
use Rattle.vmv_text.specs.declared.token.Token.TheVariants.{Bad}
use Rattle.vmv_text.specs.Tokens.{with_digit, number_of, number_token}

-- more digits make no number smaller
pub fold_le : (n : ℕ) (digits : List ℕ) → n ≤ fold with_digit n digits
fold_le n [] = omega arith
fold_le n (d ∷ digits) = omega (arith, fold_le (with_digit n d) digits)

above_edge : (n : ℕ) → 2 ^ 63 < n → Bad ≡ number_token n
above_edge n h =
    let no_small = le-ltb n (2 ^ 63) (omega arith) in
    let no_edge = ne_eqb n (2 ^ 63) (λ e. omega arith) in
    rw (no_small, no_edge)

-- a number above a tenth of the largest gets too large by one more digit
pub too_large : (v i : ℕ) (digits : List ℕ) → i < length digits → 922337203685477580 < v → fold with_digit v (drop i digits) ≡ number_of digits → Bad ≡ number_token (number_of digits)
too_large v i digits within large rest =
    let step = at_drop_more (fold with_digit v) digits i 48 within in
    let more = fold_le (with_digit v (get_or digits i 48)) (drop (i + 1) digits) in
    above_edge (number_of digits) (omega arith)

-- the front that passes a test passes it whole
pub front_all : {X : Type 0} (p : X → Bool) → (xs : List X) → list_all p (take (prefix_len p xs) xs) ≡ true
front_all p [] = refl
front_all p (x ∷ xs) = by_head (p x) refl (front_all p xs)
  where
    by_head : (b : Bool) → p x ≡ b → list_all p (take (prefix_len p xs) xs) ≡ true → list_all p (take (cond b (1 + prefix_len p xs) 0) (x ∷ xs)) ≡ true
    by_head false e rest = refl
    by_head true e rest =
        let one : 1 + prefix_len p xs ≡ suc (prefix_len p xs) = omega arith in
        rw one (and_from (p x) _ e rest)
