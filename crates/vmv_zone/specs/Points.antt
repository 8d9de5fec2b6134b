-- What statements that pass give at a point.
use Rattle.std.specs.Prelude.{◌≡◌, ◌≢◌, ℕ, ◌==◌, if◌then◌else◌, ℤ, pos, ◌+ℤ◌, ◌-ℤ◌, ◌*ℤ◌, int_div, int_rem}
use Rattle.vmv_cond.specs.Cond.{Holds}
use Rattle.vmv_zone.specs.declared.operand.ZoneOp.{ZoneOp}
use Rattle.vmv_zone.specs.declared.operand.ZoneOp.TheVariants.{Add, Sub, Mul, Div, Rem}
use Rattle.vmv_zone.specs.declared.operand.ZoneValue.{ZoneValue}
use Rattle.vmv_zone.specs.declared.operand.ZoneValue.TheVariants.{Copy, Arith, Within}
use Rattle.vmv_zone.specs.Operand.{value_at}

-- the operation gives w of x and y
abbrev pub Results : ZoneOp → ℤ → ℤ → ℤ → Type 0
Results Add x y w = w ≡ x +ℤ y
Results Sub x y w = w ≡ x -ℤ y
Results Mul x y w = w ≡ x *ℤ y
Results Div x y w = (y ≢ pos 0) × (w ≡ int_div x y)
Results Rem x y w = (y ≢ pos 0) × (w ≡ int_rem x y)

-- the value is w where the variables have the values p
abbrev pub Gives : ZoneValue → (ℕ → ℤ) → ℤ → Type 0
Gives (Copy x) p w = w ≡ value_at p x
Gives (Arith op x y) p w = Results op (value_at p x) (value_at p y) w
Gives (Within c) p w = Holds c w

-- the values p with w for the variable `to`
abbrev pub updated : (ℕ → ℤ) → ℕ → ℤ → ℕ → ℤ
updated p to w i = if i == to then w else p i
