-- The step of a simple statement, and of the choice that a test makes.
use Rattle.std.specs.Prelude.{ℕ, Bool, IsFalse}
use Rattle.vmv_tree.specs.declared.name.Name.{Name}
use Rattle.vmv_cond.specs.declared.cond.Cond.{Cond}
use Rattle.vmv_snapshot.specs.declared.code.CodeTest.{CodeTest}
use Rattle.vmv_snapshot.specs.declared.code.Simple.{Simple}
use Rattle.vmv_snapshot.specs.declared.code.Simple.TheVariants.{Set, Arith, Ask, Assert}
use Rattle.vmv_zone.specs.declared.zone.Zone.{Zone}
use Rattle.vmv_zone.specs.declared.operand.ZoneValue.TheVariants.{Copy, Arith, Within}
use Rattle.vmv_zone.specs.Step.{IsGuarded, IsAssigned}
use Rattle.vmv_step.specs.declared.stepped.Stepped.{Stepped}
use Rattle.vmv_step.specs.Zones.{zone_operand, zone_op, zone_test, negation, IsVariable, IsInside, IsTestInside}
use Rattle.vmv_step.specs.Fails.{TellsArith, TellsTest}

-- each slot whose value the statement gives or reads is one of so many variables
abbrev pub IsSimpleInside : ℕ → Simple → Type 0
IsSimpleInside vars (Set to from) = IsVariable vars to × IsInside vars from
IsSimpleInside vars (Arith to op left right site) = IsVariable vars to × IsInside vars left × IsInside vars right
-- what an outside name answers doesn't depend on the arguments
IsSimpleInside vars (Ask to callee args) = IsVariable vars to
IsSimpleInside vars (Assert test site) = IsTestInside vars test

-- r is the state z after the statement passed, where A has the conditions of the outside names
abbrev pub IsAfter : Simple → (Name → Cond) → Zone → Zone → Type 0
IsAfter (Set to from) A z r = IsAssigned z to.0 (Copy (zone_operand from)) r
IsAfter (Arith to op left right site) A z r = IsAssigned z to.0 (Arith (zone_op op) (zone_operand left) (zone_operand right)) r
IsAfter (Ask to callee args) A z r = IsAssigned z to.0 (Within (A callee)) r
IsAfter (Assert test site) A z r = IsGuarded z (zone_test test) r

-- whether the statement's site is unproved in the state z
abbrev pub Tells : Simple → Zone → Bool → Type 0
Tells (Set to from) z unproved = IsFalse unproved
Tells (Arith to op left right site) z unproved = TellsArith (zone_op op) z (zone_operand left) (zone_operand right) unproved
Tells (Ask to callee args) z unproved = IsFalse unproved
Tells (Assert test site) z unproved = TellsTest (zone_test test) z unproved

-- a state after a statement, and whether its site is unproved
abbrev pub stepped : Zone → Bool → Stepped
stepped zone unproved = record { zone = zone; unproved = unproved }

-- the step of a statement from the state z
pub record IsStepped (stmt : Simple) (A : Name → Cond) (z : Zone) (s : Stepped) : Type 0 where
  pub zone : IsAfter stmt A z s.zone
  pub unproved : Tells stmt z s.unproved

-- the states in which the two parts of an `if` start
pub record IsBranched (test : CodeTest) (z first second : Zone) : Type 0 where
  pub holds : IsGuarded z (zone_test test) first
  pub fails : IsGuarded z (negation (zone_test test)) second
