-- The steps of a loop, with a slot for its index and one for its bound.
use Rattle.std.specs.Prelude.{◌≡◌, ℤ, pos}
use Rattle.vmv_snapshot.specs.declared.code.Slot.{Slot}
use Rattle.vmv_snapshot.specs.declared.code.CodeOperand.{CodeOperand}
use Rattle.vmv_zone.specs.declared.zone.Zone.{Zone}
use Rattle.vmv_zone.specs.declared.rel.ZoneRel.TheVariants.{Less, AtMost}
use Rattle.vmv_zone.specs.declared.operand.ZoneOperand.{ZoneOperand}
use Rattle.vmv_zone.specs.declared.operand.ZoneOperand.TheVariants.{Lit, Var}
use Rattle.vmv_zone.specs.declared.operand.ZoneTest.{ZoneTest}
use Rattle.vmv_zone.specs.declared.operand.ZoneOp.TheVariants.{Add}
use Rattle.vmv_zone.specs.declared.operand.ZoneValue.TheVariants.{Copy, Arith}
use Rattle.vmv_zone.specs.Zone.{vars_of, IsBottom, NotBottom, IsFreed, IsNormOf}
use Rattle.vmv_zone.specs.Step.{IsGuarded, IsAssigned}
use Rattle.vmv_step.specs.declared.stepped.Stepped.{Stepped}
use Rattle.vmv_step.specs.Zones.{zone_operand}
use Rattle.vmv_step.specs.Fails.{TellsBound}

abbrev pub less : ZoneOperand → ZoneOperand → ZoneTest
less left right = record { left = left; rel = Less; right = right }

abbrev pub at_most : ZoneOperand → ZoneOperand → ZoneTest
at_most left right = record { left = left; rel = AtMost; right = right }

-- the first state of the head: the bound is at most the cap, its slot has a copy of it, and the index is 0
pub record IsHead (index slot : Slot) (bound : CodeOperand) (most : ℤ) (z : Zone) (s : Stepped) : Type 0 where
  pub capped : Zone
  pub guard : IsGuarded z (at_most (zone_operand bound) (Lit most)) capped
  pub copied : Zone
  pub copy : IsAssigned capped slot.0 (Copy (zone_operand bound)) copied
  pub zone : IsAssigned copied index.0 (Copy (Lit (pos 0))) s.zone
  pub unproved : TellsBound (zone_operand bound) most z s.unproved

-- a turn starts where the index is less than the bound
abbrev pub IsTurn : Slot → Slot → Zone → Zone → Type 0
IsTurn index slot z r = IsGuarded z (less (Var index.0) (Var slot.0)) r

-- behind the body, the index is 1 more
abbrev pub IsAgain : Slot → Zone → Zone → Type 0
IsAgain index z r = IsAssigned z index.0 (Arith Add (Var index.0) (Lit (pos 1))) r

-- r is the norm of z with any words in both slots
pub record IsForgotten (index slot : Slot) (z r : Zone) : Type 0 where
  pub half : Zone
  pub index_freed : IsFreed z half index.0
  pub free : Zone
  pub slot_freed : IsFreed half free slot.0
  pub norm : IsNormOf free r

-- the loop is left where the bound is at most the index; from there both slots may have any word
pub record IsLeft (index slot : Slot) (z r : Zone) : Type 0 where
  pub last : Zone
  pub guard : IsGuarded z (at_most (Var slot.0) (Var index.0)) last
  pub vars : vars_of r ≡ vars_of z
  pub bottom : IsBottom last → IsBottom r
  pub forgotten : NotBottom last → IsForgotten index slot last r
