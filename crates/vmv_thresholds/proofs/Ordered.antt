-- Numbers in order, each once.
use Rattle.std.proofs.Common.{◌≡◌, ◌↔◌, ℤ, ◌<ℤ◌, int_lt, Bool, true, false, cond, List, refl, arith, int_cmp, Less, Greater, Equal, IsPermutation}
use Rattle.std.specs.List.{AllPairs, Contains, dedup}
use Rattle.std.specs.List.Sorted.{IsSorted}
use Rattle.std.specs.Ordering.{int_eq, eq_by_cmp}
use Rattle.std.proofs.lemmas.Int.{ints}
use Rattle.std.proofs.lemmas.Cmp.{int_cmp_total, int_eq_equiv}
use Rattle.std.proofs.lemmas.Bool.Decides.{Decides-int_eq}
use Rattle.std.proofs.lemmas.Map.Keys.{Less-from_sorted}
use Rattle.std.proofs.lemmas.List.Kept.{IsStrictlySortedBy-dedup, Contains-dedup, Contains-from_dedup}
use Rattle.std.proofs.lemmas.List.Sorted.{Contains-permutation, IsPermutation-sym}

less_of : (a b : Bool) → cond a Less (cond b Greater Equal) ≡ Less → a ≡ true
less_of true b e = refl
less_of false true e = absurd (cc)
less_of false false e = absurd (cc)

lt_true : (x y : ℤ) → int_lt x y ≡ true → x <ℤ y
lt_true x y h = grind (arith, ints)

less : (x y : ℤ) → int_cmp x y ≡ Less → x <ℤ y
less x y e = lt_true x y (less_of (int_lt x y) (int_lt y x) e)

ties_by : (a b e : Bool) → (x y : ℤ) → int_lt x y ≡ a → int_lt y x ≡ b → int_eq x y ≡ e → int_eq x y ≡ eq_by_cmp int_cmp x y
ties_by a b e x y p q r = grind (arith, ints)

-- numbers that were put in order, each left once
pub rising : (sorted : List ℤ) → IsSorted int_cmp sorted → AllPairs (λ a b. a <ℤ b) (dedup int_eq sorted)
rising sorted up i j d before within =
    less _ _ (Less-from_sorted int_cmp (dedup int_eq sorted) i j d (IsStrictlySortedBy-dedup int_cmp_total (λ x y. ties_by _ _ _ x y refl refl refl) sorted up) before within)

pub kept : (first sorted : List ℤ) → IsPermutation first sorted → (t : ℤ) → Contains (dedup int_eq sorted) t ↔ Contains first t
kept first sorted moved t = (
  λ h. Contains-permutation sorted first t (IsPermutation-sym first sorted moved) (Contains-from_dedup int_eq sorted t h),
  λ h. Contains-dedup int_eq_equiv (λ x y. (Decides-int_eq x y).0) sorted t (Contains-permutation first sorted t moved h),
)
