-- Where a site is unproved: some value that the normal state m allows may make its statement fail.
use Rattle.std.specs.Prelude.{◌≡◌, ◌⊎◌, ◌↔◌, IsTrue, Bool, ◌^◌, ◌-◌, ℤ, pos, negsuc, ◌+ℤ◌, ◌≤ℤ◌, ◌<ℤ◌}
use Rattle.vmv_zone.specs.declared.zone.Zone.{Zone}
use Rattle.vmv_zone.specs.declared.operand.ZoneOp.{ZoneOp}
use Rattle.vmv_zone.specs.declared.operand.ZoneOp.TheVariants.{Add, Sub, Mul, Div, Rem}
use Rattle.vmv_zone.specs.declared.operand.ZoneOperand.{ZoneOperand}
use Rattle.vmv_zone.specs.declared.operand.ZoneTest.{ZoneTest}
use Rattle.vmv_zone.specs.Zone.{NotBottom, IsNormOf}
use Rattle.vmv_zone.specs.Operand.{dif, up, low, IsNonzero}
use Rattle.vmv_zone.specs.Ends.{IsEndProduct, IsEndQuotient}
use Rattle.vmv_zone.specs.Step.{IsGuarded}
use Rattle.vmv_step.specs.Zones.{negation}

-- the range from lo to hi leaves the words
abbrev pub LeavesWords : ℤ → ℤ → Type 0
LeavesWords lo hi = (lo <ℤ negsuc (2 ^ 63 - 1)) ⊎ (pos (2 ^ 63 - 1) <ℤ hi)

-- the least word is among the dividends from lo on, and -1 among the divisors from c to d
abbrev pub IsLeastByMinusOne : ℤ → ℤ → ℤ → Type 0
IsLeastByMinusOne lo c d = (lo ≡ negsuc (2 ^ 63 - 1)) × (c ≤ℤ negsuc 0) × (negsuc 0 ≤ℤ d)

abbrev pub MayFail : ZoneOp → Zone → ZoneOperand → ZoneOperand → Type 0
-- the sum's range leaves the words
MayFail Add m y z = LeavesWords (low m y +ℤ low m z) (up m y +ℤ up m z)
-- a difference is above the greatest word, or below the least
MayFail Sub m y z = (pos (2 ^ 63 - 1) <ℤ dif m y z) ⊎ (pos (2 ^ 63) <ℤ dif m z y)
-- the range of the four products of ends leaves the words
MayFail Mul m y z = (q : ℤ) × IsEndProduct (low m y) (up m y) (low m z) (up m z) q × LeavesWords q q
-- z may be 0, or a quotient of ends is 2^63
MayFail Div m y z = (¬ IsNonzero m z) ⊎ IsEndQuotient (low m y) (up m y) (low m z) (up m z) (pos (2 ^ 63))
-- z may be 0, or y may be the least word and z -1
MayFail Rem m y z = (¬ IsNonzero m z) ⊎ IsLeastByMinusOne (low m y) (low m z) (up m z)

-- whether the operation may fail in the state z: its norm isn't Bottom, and allows values that make it fail
pub record TellsArith (op : ZoneOp) (z : Zone) (left right : ZoneOperand) (unproved : Bool) : Type 0 where
  pub before : Zone
  pub norm : IsNormOf z before
  pub tells : IsTrue unproved ↔ (NotBottom before × MayFail op before left right)

-- whether the test may fail in the state z: the guard of its negation isn't Bottom
pub record TellsTest (test : ZoneTest) (z : Zone) (unproved : Bool) : Type 0 where
  pub failing : Zone
  pub guard : IsGuarded z (negation test) failing
  pub tells : IsTrue unproved ↔ NotBottom failing

-- whether the bound may be above the cap in the state z, whose norm isn't Bottom
pub record TellsBound (bound : ZoneOperand) (cap : ℤ) (z : Zone) (unproved : Bool) : Type 0 where
  pub before : Zone
  pub norm : IsNormOf z before
  pub tells : IsTrue unproved ↔ (NotBottom before × (cap <ℤ up before bound))
