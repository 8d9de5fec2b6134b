-- What can't fail to be so is so.
use Rattle.std.proofs.Common.{◌≡◌, ℤ, ◌≤ℤ◌, int_le, Bool, true, false, refl, arith}
use Rattle.std.proofs.lemmas.Int.{ints}
use Rattle.vmv_cond.specs.declared.cond.Cond.{Cond}
use Rattle.vmv_cond.specs.Cond.{Holds}
use Rattle.vmv_cert.specs.declared.row.Reach.{Reach}
use Rattle.vmv_cert.specs.declared.row.Reach.TheVariants.{Bottom, Value}
use Rattle.vmv_cert.specs.Walk.{Returns}

not_not_le : (x y : ℤ) → ¬ (¬ (x ≤ℤ y)) → x ≤ℤ y
not_not_le x y h = by (int_le x y) refl
  where
    le_of : int_le x y ≡ true → x ≤ℤ y
    le_of e = grind (arith, ints)

    not_le : int_le x y ≡ false → ¬ (x ≤ℤ y)
    not_le e g = grind (arith, ints)

    by : (b : Bool) → int_le x y ≡ b → x ≤ℤ y
    by true e = le_of e
    by false e = absurd (h (not_le e))

-- what can't fail to hold a word holds it
pub holds_stably : (c : Cond) (w : ℤ) → ¬ (¬ Holds c w) → Holds c w
holds_stably c w h = record {
  above = not_not_le c.lo w (λ n. h (λ g. n g.above));
  below = not_not_le w c.hi (λ n. h (λ g. n g.below));
  nonzero = λ t e. h (λ g. g.nonzero t e);
}

-- and so what can't fail to be returned
pub returns_stably : (reach : Reach) (word : ℤ) → ¬ (¬ Returns reach word) → Returns reach word
returns_stably Bottom word h = h (λ n. n)
returns_stably (Value c) word h = holds_stably c word h
