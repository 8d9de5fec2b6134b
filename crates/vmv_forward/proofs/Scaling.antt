-- The thresholds of an entry are in order, with 0 and the bounds that words keep.
use Rattle.std.proofs.Common.{◌≡◌, inl, inr, ⊎_elim, ℕ, ◌-◌, ◌^◌, ◌<◌, ◌≤◌, ℤ, pos, negsuc, ◌<ℤ◌, List, [], ◌∷◌, length, get_or, refl, ap, arith}
use Rattle.std.specs.List.{Contains}
use Rattle.std.proofs.lemmas.Int.{ints}
use Rattle.std.proofs.lemmas.Bool.{cases_lt}
use Rattle.vmv_tree.specs.Tree.{Item}
use Rattle.vmv_tree.specs.declared.ends.NameEnds.{NameEnds}
use Rattle.vmv_zone.specs.Round.{AreSorted}
use Rattle.vmv_cert.specs.Thresholds.{IsThreshold, around}
use Rattle.vmv_thresholds.specs.Thresholds.{AreThresholds}
use Rattle.vmv_pass.specs.Upper.{AreScale}

seed_threshold : (program : List Item) (n : ℕ) (ends : List NameEnds) (c t : ℤ) → Contains (negsuc (2 ^ 63 - 1) ∷ pos (2 ^ 63 - 1) ∷ pos 0 ∷ pos 1 ∷ []) c → Contains (around c) t → IsThreshold program n ends t
seed_threshold program n ends c t seed at = inr (c, inr (inr seed), at)

rising_sorted : (ts : List ℤ) → ((i j : ℕ) (d : ℤ) → i < j → j < length ts → get_or ts i d <ℤ get_or ts j d) → AreSorted ts
rising_sorted ts rising i j d order inside =
    ⊎_elim (λ (h : i < j). (let r = rising i j d h inside in omega (arith, ints)))
    (λ (h : j ≤ i). (let e : i ≡ j = omega arith in let s : get_or ts i d ≡ get_or ts j d = ap (λ k. get_or ts k d) e in omega (arith, ints))) (cases_lt i j)

pub scale_of : (program : List Item) (n : ℕ) (ends : List NameEnds) (ts : List ℤ) → AreThresholds program n ends ts → AreScale ts
scale_of program n ends ts are = record {
  sorted = rising_sorted ts are.rising;
  zero = (are.each (pos 0)).1 (seed_threshold program n ends (pos 0) (pos 0) (2, omega arith, refl) (0, omega arith, refl));
  greatest_word = (are.each (pos (2 ^ 63 - 1))).1 (seed_threshold program n ends (pos (2 ^ 63 - 1)) (pos (2 ^ 63 - 1)) (1, omega arith, refl) (0, omega arith, refl));
  least_word = (are.each (pos (2 ^ 63))).1 (seed_threshold program n ends (negsuc (2 ^ 63 - 1)) (pos (2 ^ 63)) (0, omega arith, refl) (3, omega arith, refl));
  most = (are.each (pos (2 ^ 64 - 1))).1 (inl refl);
}
