-- The states after guards and assignments: the greatest normal states that have the bounds and marks below.
use Rattle.std.specs.Prelude.{◌≡◌, ◌+◌, ℕ, ◌≤◌, ℤ, pos, negsuc, ◌+ℤ◌, ◌-ℤ◌, ◌≤ℤ◌, neg_ℤ, unsigned_abs, max, IsTrue}
use Rattle.std.specs.Int.{int_min, int_max}
use Rattle.vmv_cond.specs.declared.cond.Cond.{Cond}
use Rattle.vmv_zone.specs.declared.zone.Zone.{Zone}
use Rattle.vmv_zone.specs.declared.rel.ZoneRel.{ZoneRel}
use Rattle.vmv_zone.specs.declared.rel.ZoneRel.TheVariants.{Equal, Unequal, Less, AtMost, Greater, AtLeast}
use Rattle.vmv_zone.specs.declared.operand.ZoneOperand.{ZoneOperand}
use Rattle.vmv_zone.specs.declared.operand.ZoneOperand.TheVariants.{Lit, Var}
use Rattle.vmv_zone.specs.declared.operand.ZoneTest.{ZoneTest}
use Rattle.vmv_zone.specs.declared.operand.ZoneOp.{ZoneOp}
use Rattle.vmv_zone.specs.declared.operand.ZoneOp.TheVariants.{Add, Sub, Mul, Div, Rem}
use Rattle.vmv_zone.specs.declared.operand.ZoneValue.{ZoneValue}
use Rattle.vmv_zone.specs.declared.operand.ZoneValue.TheVariants.{Copy, Arith, Within}
use Rattle.vmv_zone.specs.Bounds.{moved}
use Rattle.vmv_zone.specs.Zone.{bound_of, mark_of, IsNormOf, IsGreatest}
use Rattle.vmv_zone.specs.Operand.{dif, up, low, IsSpan, IsNonzero, IsZero, IsOperand}
use Rattle.vmv_zone.specs.Ends.{IsEndProduct, IsEndQuotient}

-- In all of this, m is the normal state before the statement, and n the one after it.

-- where a difference is at most 0 it is at most -1, and an operand that is compared with 0 is nonzero
pub record IsApart (m n : Zone) (x y : ZoneOperand) : Type 0 where
  pub above : dif m x y ≡ pos 0 → dif n x y ≤ℤ negsuc 0
  pub below : dif m y x ≡ pos 0 → dif n y x ≤ℤ negsuc 0
  pub left : IsZero y → IsNonzero n x
  pub right : IsZero x → IsNonzero n y

-- what a test of x against y adds
abbrev pub Tested : ZoneRel → Zone → Zone → ZoneOperand → ZoneOperand → Type 0
Tested Equal m n x y = IsSpan n x y (pos 0) (pos 0)
Tested Unequal m n x y = IsApart m n x y
Tested Less m n x y = dif n x y ≤ℤ negsuc 0
Tested AtMost m n x y = dif n x y ≤ℤ pos 0
Tested Greater m n x y = dif n y x ≤ℤ negsuc 0
Tested AtLeast m n x y = dif n y x ≤ℤ pos 0

-- g is the state z after the test
pub record IsGuarded (z : Zone) (test : ZoneTest) (g : Zone) : Type 0 where
  pub before : Zone
  pub norm : IsNormOf z before
  pub greatest : IsGreatest z.vars before (λ n. Tested test.rel before n test.left test.right) g

-- t is equal to x
pub record IsCopy (m n : Zone) (t x : ZoneOperand) : Type 0 where
  pub same : IsSpan n t x (pos 0) (pos 0)
  pub marked : IsNonzero m x → IsNonzero n t

-- t is x + y
pub record IsSum (m n : Zone) (t x y : ZoneOperand) : Type 0 where
  pub whole : IsSpan n t (Lit (pos 0)) (low m x +ℤ low m y) (up m x +ℤ up m y)
  pub left : IsSpan n t x (low m y) (up m y)
  pub right : IsSpan n t y (low m x) (up m x)

-- t is x - y
pub record IsDifference (m n : Zone) (t x y : ZoneOperand) : Type 0 where
  pub whole : IsSpan n t (Lit (pos 0)) (neg_ℤ (dif m y x)) (dif m x y)
  pub left : IsSpan n t x (neg_ℤ (up m y)) (neg_ℤ (low m y))

-- x lies from the least to the greatest of the numbers
pub record IsAmong (n : Zone) (x : ZoneOperand) (Is : ℤ → Type 0) : Type 0 where
  pub least : (q : ℤ) × (Is q × (q ≤ℤ low n x))
  pub greatest : (q : ℤ) × (Is q × (up n x ≤ℤ q))

-- t is x * y
pub record IsProduct (m n : Zone) (t x y : ZoneOperand) : Type 0 where
  pub whole : IsAmong n t (IsEndProduct (low m x) (up m x) (low m y) (up m y))
  pub marked : IsNonzero m x → IsNonzero m y → IsNonzero n t

-- t is x / y
pub record IsQuotient (m n : Zone) (t x y : ZoneOperand) : Type 0 where
  pub divisor : IsNonzero n y
  pub whole : IsAmong n t (IsEndQuotient (low m x) (up m x) (low m y) (up m y))

-- the greater size of the two ends of x
abbrev pub size_of : Zone → ZoneOperand → ℤ
size_of m x = pos (max (unsigned_abs (low m x)) (unsigned_abs (up m x)))

-- t is x % y
pub record IsRemainder (m n : Zone) (t x y : ZoneOperand) : Type 0 where
  pub divisor : IsNonzero n y
  pub least : int_max (int_min (low m x) (pos 0)) (pos 1 -ℤ size_of m y) ≤ℤ low n t
  pub greatest : up n t ≤ℤ int_min (int_max (up m x) (pos 0)) (size_of m y -ℤ pos 1)

-- t is a word that the condition holds
pub record IsWordOf (c : Cond) (n : Zone) (t : ZoneOperand) : Type 0 where
  pub whole : IsSpan n t (Lit (pos 0)) c.lo c.hi
  pub marked : IsTrue c.zero_out → IsNonzero n t

-- t is what the operation gives of x and y
abbrev pub Computed : ZoneOp → Zone → Zone → ZoneOperand → ZoneOperand → ZoneOperand → Type 0
Computed Add m n t x y = IsSum m n t x y
Computed Sub m n t x y = IsDifference m n t x y
Computed Mul m n t x y = IsProduct m n t x y
Computed Div m n t x y = IsQuotient m n t x y
Computed Rem m n t x y = IsRemainder m n t x y

-- t is the value
abbrev pub Given : ZoneValue → Zone → Zone → ZoneOperand → Type 0
Given (Copy x) m n t = IsCopy m n t x
Given (Arith op x y) m n t = Computed op m n t x y
Given (Within c) m n t = IsWordOf c n t

-- new is old without its variable `to`, whose name the last variable has
pub record Drops (to : ℕ) (old new : Zone) : Type 0 where
  pub vars : new.vars + 1 ≡ old.vars
  pub bottom : new.bottom ≡ old.bottom
  pub bounds : (i j : ℕ) → i ≤ new.vars → j ≤ new.vars → bound_of new i j ≡ bound_of old (moved to old.vars i) (moved to old.vars j)
  pub marks : (i : ℕ) → 1 ≤ i → i ≤ new.vars → mark_of new i ≡ mark_of old (moved to old.vars i)

-- r is the state z after the variable `to` was given the value: a fresh variable was given it, `to` was dropped, and the
-- fresh variable has its name
pub record IsAssigned (z : Zone) (to : ℕ) (value : ZoneValue) (r : Zone) : Type 0 where
  pub before : Zone
  pub norm : IsNormOf z before
  pub fresh : Zone
  pub greatest : IsGreatest (z.vars + 1) before (λ n. Given value before n (Var (z.vars + 1))) fresh
  pub drops : Drops to fresh r

-- the operands of the variables of a call are those passed
abbrev pub IsOperandOf : ZoneValue → ℕ → Type 0
IsOperandOf (Copy x) vars = IsOperand vars x
IsOperandOf (Arith op x y) vars = IsOperand vars x × IsOperand vars y
IsOperandOf (Within c) vars = Unit {0}
