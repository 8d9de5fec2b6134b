-- The bytes that were copied to the front of a slice.
use Rattle.std.proofs.Common.{◌≡◌, ℕ, ◌+◌, ◌-◌, ◌≤◌, List, ◌++◌, length, take, drop, ap, sym, subst, ◌∙◌, arith}
use Rattle.std.proofs.lemmas.List.{drop-drop, length-take-le, length-drop, take-append-drop}

-- a piece of some bytes that is a front now
pub front_given : (bytes into : List ℕ) (from n : ℕ) → from + n ≤ length bytes
    → take (length (take (from + n - from) (drop from bytes))) into ≡ take (from + n - from) (drop from bytes)
    → drop from bytes ≡ take n into ++ drop (from + n) bytes
front_given bytes into from n h e =
    let size : from + n - from ≡ n = omega arith in
    let whole : n ≤ length (drop from bytes) = omega (arith, length-drop from bytes) in
    let len = length-take-le n (drop from bytes) whole in
    let P : ℕ → Type 0 = λ k. take (length (take k (drop from bytes))) into ≡ take k (drop from bytes) in
    let front = subst P size e in
    let piece = ap (λ k. take k into) (sym len) ∙ front in
    sym (take-append-drop n (drop from bytes)) ∙ ap (λ l. l ++ drop n (drop from bytes)) (sym piece)
    ∙ ap (λ l. take n into ++ l) (drop-drop n from bytes)
