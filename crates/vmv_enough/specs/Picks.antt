-- How a probe picks a word.
use Rattle.std.specs.Prelude.{◌≤◌, ℤ, pos, ◌≤ℤ◌, neg_ℤ, unsigned_abs}
use Rattle.vmv_enough.specs.declared.probe.Mode.{Mode}
use Rattle.vmv_enough.specs.declared.probe.Mode.TheVariants.{Least, Greatest, Nearest}

-- none of these words is nearer to 0; of two that are as near, it is the positive one
pub record IsNearest (P : ℤ → Type 0) (w : ℤ) : Type 0 where
  pub near : (v : ℤ) → P v → unsigned_abs w ≤ unsigned_abs v
  pub tie : P (neg_ℤ w) → pos 0 ≤ℤ w

-- it is the first of these words in the mode's order
abbrev pub IsFirstIn : Mode → (ℤ → Type 0) → ℤ → Type 0
IsFirstIn Least P w = (v : ℤ) → P v → w ≤ℤ v
IsFirstIn Greatest P w = (v : ℤ) → P v → v ≤ℤ w
IsFirstIn Nearest P w = IsNearest P w

-- the one of these words that the mode picks
pub record IsPick (mode : Mode) (P : ℤ → Type 0) (w : ℤ) : Type 0 where
  pub among : P w
  pub first : IsFirstIn mode P w
