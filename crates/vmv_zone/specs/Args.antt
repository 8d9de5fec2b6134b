-- The state of the arguments of a call.
use Rattle.std.specs.Prelude.{◌≡◌, ◌↔◌, ℕ, zero, suc, ◌≤◌, ℤ, pos, ◌≤ℤ◌, List, length, get_or, IsFalse}
use Rattle.vmv_zone.specs.declared.zone.Zone.{Zone}
use Rattle.vmv_zone.specs.declared.operand.ZoneOperand.{ZoneOperand}
use Rattle.vmv_zone.specs.declared.operand.ZoneOperand.TheVariants.{Lit}
use Rattle.vmv_zone.specs.Bounds.{top_bound}
use Rattle.vmv_zone.specs.Zone.{bound_of, IsMarked, IsNormOf}
use Rattle.vmv_zone.specs.Operand.{dif, IsNonzero, IsOperand}

-- the argument that gives the variable i its value; thing 0 is the literal 0
abbrev pub argument_at : List ZoneOperand → ℕ → ZoneOperand
argument_at args zero = Lit (pos 0)
argument_at args (suc k) = get_or args k (Lit (pos 0))

-- each argument is a literal or one of so many variables
abbrev pub AreOperands : ℕ → List ZoneOperand → Type 0
AreOperands vars args = (i : ℕ) → i ≤ length args → IsOperand vars (argument_at args i)

-- b is the bound on the difference of two arguments, no higher than words keep it
pub record IsArgBound (m : Zone) (args : List ZoneOperand) (i j : ℕ) (b : ℤ) : Type 0 where
  pub is : b ≡ dif m (argument_at args i) (argument_at args j)
  pub topped : b ≤ℤ top_bound i j

-- r has the bounds on the differences of the arguments in the normal state, and the marks of those that are nonzero
pub record IsArgsOf (z : Zone) (args : List ZoneOperand) (r : Zone) : Type 0 where
  pub before : Zone
  pub norm : IsNormOf z before
  pub vars : r.vars ≡ length args
  pub bottom : r.bottom ≡ before.bottom
  pub bounds : IsFalse before.bottom → (i j : ℕ) → i ≤ length args → j ≤ length args → bound_of r i j ≡ dif before (argument_at args i) (argument_at args j)
  pub marks : IsFalse before.bottom → (i : ℕ) → 1 ≤ i → i ≤ length args → IsMarked r i ↔ IsNonzero before (argument_at args i)
