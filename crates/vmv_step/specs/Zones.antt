-- Operands, tests and operations of resolved statements, as those of states: a slot is the variable of its number.
use Rattle.std.specs.Prelude.{ℕ, ◌≤◌, List, map}
use Rattle.std.specs.List.{All}
use Rattle.vmv_tree.specs.declared.tree.Op.{Op}
use Rattle.vmv_tree.specs.declared.tree.Op.TheVariants.{Add, Sub, Mul, Div, Rem}
use Rattle.vmv_tree.specs.declared.tree.Rel.{Rel}
use Rattle.vmv_tree.specs.declared.tree.Rel.TheVariants.{Equal, Unequal, Less, AtMost, Greater, AtLeast}
use Rattle.vmv_snapshot.specs.declared.code.Slot.{Slot}
use Rattle.vmv_snapshot.specs.declared.code.CodeOperand.{CodeOperand}
use Rattle.vmv_snapshot.specs.declared.code.CodeOperand.TheVariants.{Lit, Var}
use Rattle.vmv_snapshot.specs.declared.code.CodeTest.{CodeTest}
use Rattle.vmv_zone.specs.declared.rel.ZoneRel.{ZoneRel}
use Rattle.vmv_zone.specs.declared.rel.ZoneRel.TheVariants.{Equal, Unequal, Less, AtMost, Greater, AtLeast}
use Rattle.vmv_zone.specs.declared.operand.ZoneOp.{ZoneOp}
use Rattle.vmv_zone.specs.declared.operand.ZoneOp.TheVariants.{Add, Sub, Mul, Div, Rem}
use Rattle.vmv_zone.specs.declared.operand.ZoneOperand.{ZoneOperand}
use Rattle.vmv_zone.specs.declared.operand.ZoneOperand.TheVariants.{Lit, Var}
use Rattle.vmv_zone.specs.declared.operand.ZoneTest.{ZoneTest}
use Rattle.vmv_zone.specs.Operand.{IsOperand}

abbrev pub zone_operand : CodeOperand → ZoneOperand
zone_operand (Lit word) = Lit word
zone_operand (Var slot) = Var slot.0

abbrev pub zone_args : List CodeOperand → List ZoneOperand
zone_args args = map zone_operand args

abbrev pub zone_op : Op → ZoneOp
zone_op Add = Add
zone_op Sub = Sub
zone_op Mul = Mul
zone_op Div = Div
zone_op Rem = Rem

abbrev pub zone_rel : Rel → ZoneRel
zone_rel Equal = Equal
zone_rel Unequal = Unequal
zone_rel Less = Less
zone_rel AtMost = AtMost
zone_rel Greater = Greater
zone_rel AtLeast = AtLeast

abbrev pub zone_test : CodeTest → ZoneTest
zone_test test = record { left = zone_operand test.left; rel = zone_rel test.rel; right = zone_operand test.right }

-- the pairs that the relation leaves out
abbrev pub negated_rel : ZoneRel → ZoneRel
negated_rel Equal = Unequal
negated_rel Unequal = Equal
negated_rel Less = AtLeast
negated_rel AtMost = Greater
negated_rel Greater = AtMost
negated_rel AtLeast = Less

-- the test that holds exactly where this one doesn't
abbrev pub negation : ZoneTest → ZoneTest
negation test = record { left = test.left; rel = negated_rel test.rel; right = test.right }

-- the slot is one of so many variables
abbrev pub IsVariable : ℕ → Slot → Type 0
IsVariable vars slot = (1 ≤ slot.0) × (slot.0 ≤ vars)

-- a literal, or one of so many variables
abbrev pub IsInside : ℕ → CodeOperand → Type 0
IsInside vars operand = IsOperand vars (zone_operand operand)

abbrev pub IsTestInside : ℕ → CodeTest → Type 0
IsTestInside vars test = IsInside vars test.left × IsInside vars test.right

abbrev pub AreInside : ℕ → List CodeOperand → Type 0
AreInside vars args = All (IsInside vars) args
