-- A range more in an array of 16.
use Rattle.std.proofs.Common.{◌≡◌, ℕ, suc, ◌+◌, ◌-◌, ◌<◌, ◌≤◌, pos, List, [], ◌∷◌, ◌++◌, length, take, replicate, refl, sym, ap, subst, ◌∙◌, arith, append_assoc, length-append}
use Rattle.std.specs.List.{slice_set}
use Rattle.std.proofs.lemmas.List.{length-replicate, set_at, take_more_set}
use Rattle.vmv_snapshot.specs.Boxes.{Range, padded, length-padded_take}

abbrev none : Range
none = (pos 0, pos 0)

zeros : (n m : ℕ) → n ≡ m + 1 → replicate {A = Range} n none ≡ none ∷ replicate {A = Range} m none
zeros n m e = let s : n ≡ suc m = omega (arith, e) in ap (λ k. replicate {A = Range} k none) s

pub padded_push : (ranges : List Range) (n : ℕ) (range : Range) → n < 16 → ranges ≡ padded (take n ranges) → slice_set ranges n range ≡ padded (take (n + 1) (slice_set ranges n range))
padded_push ranges n range small is =
    let front : List Range = take n ranges in
    let long : length front ≡ n = length-padded_take ranges n (omega arith) is in
    let all : length ranges ≡ 16 =
    (let a = ap length is in let b = length-append front (replicate {A = Range} (16 - length front) none) in let c = length-replicate {A = Range} (16 - length front) none in omega arith) in
    let rest : List Range = replicate {A = Range} (16 - (n + 1)) none in
    let split : ranges ≡ front ++ none ∷ rest = is ∙ ap (λ t. front ++ t) (zeros (16 - length front) (16 - (n + 1)) (omega arith)) in
    let set_there : slice_set ranges n range ≡ front ++ range ∷ rest = ap (λ (xs : List Range). slice_set xs n range) split ∙ set_at front none rest range n long in
    let more : take (n + 1) (slice_set ranges n range) ≡ front ++ range ∷ [] = take_more_set ranges n range (omega arith) in
    let longer : length (front ++ range ∷ []) ≡ n + 1 = length-append front (range ∷ []) ∙ ap (λ k. k + 1) long in
    let same : rest ≡ replicate {A = Range} (16 - length (take (n + 1) (slice_set ranges n range))) none = ap (λ k. replicate {A = Range} (16 - k) none) (sym (ap length more ∙ longer)) in
    set_there ∙ (sym (append_assoc front (range ∷ []) rest) ∙ (λ i. sym more i ++ same i))

-- there is room where fewer than 16 are seen
pub room_left : (ranges seen : List Range) (n : ℕ) → n ≤ 16 → ranges ≡ padded (take n ranges) → take n ranges ≡ seen → length seen < 16 → n < 16
room_left ranges seen n most is view small = let e = length-padded_take ranges n most is in let f = ap length view in omega arith
