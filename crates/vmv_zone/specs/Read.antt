-- The values of an operand that a state allows.
use Rattle.std.specs.Prelude.{◌≢◌, ℤ, pos, ◌≤ℤ◌, ◌↔◌, IsFalse}
use Rattle.vmv_cond.specs.declared.cond.Cond.{Cond}
use Rattle.vmv_cond.specs.Cond.{Holds}
use Rattle.vmv_zone.specs.declared.zone.Zone.{Zone}
use Rattle.vmv_zone.specs.declared.operand.ZoneOperand.{ZoneOperand}
use Rattle.vmv_zone.specs.Zone.{IsNormOf}
use Rattle.vmv_zone.specs.Operand.{up, low, IsNonzero}

-- w lies from the least to the greatest value of x, and is not 0 where x is nonzero
pub record IsValueOf (m : Zone) (x : ZoneOperand) (w : ℤ) : Type 0 where
  pub not_bottom : IsFalse m.bottom
  pub above : low m x ≤ℤ w
  pub below : w ≤ℤ up m x
  pub nonzero : IsNonzero m x → w ≢ pos 0

-- c holds the values of x in the normal state
pub record IsRangeOf (z : Zone) (x : ZoneOperand) (c : Cond) : Type 0 where
  pub before : Zone
  pub norm : IsNormOf z before
  pub words : (w : ℤ) → Holds c w ↔ IsValueOf before x w
