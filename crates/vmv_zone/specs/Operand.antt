-- Operands, their bounds in a state and their values at a point. A literal is thing 0, shifted by it.
use Rattle.std.specs.Prelude.{◌≡◌, ◌≢◌, ℕ, ◌≤◌, ℤ, pos, ◌+ℤ◌, ◌-ℤ◌, neg_ℤ, ◌≤ℤ◌}
use Rattle.vmv_zone.specs.declared.zone.Zone.{Zone}
use Rattle.vmv_zone.specs.declared.operand.ZoneOperand.{ZoneOperand}
use Rattle.vmv_zone.specs.declared.operand.ZoneOperand.TheVariants.{Lit, Var}
use Rattle.vmv_zone.specs.Zone.{bound_of, IsMarked}

abbrev pub thing : ZoneOperand → ℕ
thing (Lit c) = 0
thing (Var y) = y

abbrev pub shift : ZoneOperand → ℤ
shift (Lit c) = c
shift (Var y) = pos 0

-- a literal, or one of so many variables
abbrev pub IsOperand : ℕ → ZoneOperand → Type 0
IsOperand vars (Lit c) = Unit {0}
IsOperand vars (Var y) = (1 ≤ y) × (y ≤ vars)

-- the operand's value where the variables have the values p
abbrev pub value_at : (ℕ → ℤ) → ZoneOperand → ℤ
value_at p (Lit c) = c
value_at p (Var y) = p y

-- the bound on x - y
abbrev pub dif : Zone → ZoneOperand → ZoneOperand → ℤ
dif z x y = (bound_of z (thing x) (thing y) +ℤ shift x) -ℤ shift y

-- the bound on x
abbrev pub up : Zone → ZoneOperand → ℤ
up z x = dif z x (Lit (pos 0))

-- the bound on x from below
abbrev pub low : Zone → ZoneOperand → ℤ
low z x = neg_ℤ (dif z (Lit (pos 0)) x)

-- a variable that is marked, or a literal other than 0
abbrev pub IsNonzero : Zone → ZoneOperand → Type 0
IsNonzero z (Lit c) = c ≢ pos 0
IsNonzero z (Var y) = IsMarked z y

-- the literal 0
abbrev pub IsZero : ZoneOperand → Type 0
IsZero (Lit c) = c ≡ pos 0
IsZero (Var y) = ⊥

-- x - y lies from lo to hi
pub record IsSpan (z : Zone) (x y : ZoneOperand) (lo hi : ℤ) : Type 0 where
  pub high : dif z x y ≤ℤ hi
  pub low : dif z y x ≤ℤ neg_ℤ lo
