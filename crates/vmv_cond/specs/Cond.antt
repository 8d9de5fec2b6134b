-- The words that a condition holds.
use Rattle.std.specs.Prelude.{ℤ, ◌↔◌}
use Rattle.vmv_cond.specs.declared.cond.Cond.{Cond}
use Rattle.vmv_cond.specs.Normal.{InRange}

abbrev pub Holds : Cond → ℤ → Type 0
Holds c w = InRange c.lo c.hi c.zero_out w

-- c holds no word
abbrev pub IsEmpty : Cond → Type 0
IsEmpty c = (w : ℤ) → ¬ Holds c w

-- each word of a is one of b
abbrev pub IsSubset : Cond → Cond → Type 0
IsSubset a b = (w : ℤ) → Holds a w → Holds b w

-- c holds the words that both a and b hold
abbrev pub IsMeet : Cond → Cond → Cond → Type 0
IsMeet a b c = (w : ℤ) → Holds c w ↔ (Holds a w × Holds b w)
