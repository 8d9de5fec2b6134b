-- The ends of a variable of a normal state are words, and the sizes of the bounds on operands.
use Rattle.std.proofs.Common.{◌≡◌, ◌⊎◌, ℕ, ◌+◌, ◌*◌, ◌-◌, ◌^◌, ◌≤◌, ℤ, pos, ◌≤ℤ◌, neg_ℤ, Bool, true, false, IsTrue, IsFalse, FitsSigned, arith, rules, inl, inr, ⊎_elim}
use Rattle.std.specs.Int.{w64}
use Rattle.std.proofs.lemmas.Int.{ints}
use lib.Signed.{le_z, ◌<ℤ◌}
use Rattle.vmv_zone.specs.declared.zone.Zone.{Zone}
use Rattle.vmv_zone.specs.declared.operand.ZoneOperand.{ZoneOperand}
use Rattle.vmv_zone.specs.declared.operand.ZoneOperand.TheVariants.{Lit, Var}
use Rattle.vmv_zone.specs.Bounds.{top_bound}
use Rattle.vmv_zone.specs.Zone.{bound_of, IsNormal}
use Rattle.vmv_zone.specs.Operand.{IsOperand, low, up}

pub le_true : (a b : ℤ) → le_z a b ≡ true → a ≤ℤ b
le_true a b h = grind (arith, ints)

pub le_false : (a b : ℤ) → le_z a b ≡ false → b <ℤ a
le_false a b h = grind (arith, ints)

pub is_or_not : (b : Bool) → IsTrue b ⊎ IsFalse b
is_or_not true = inl (search rules)
is_or_not false = inr (search rules)

-- no bound of Bottom is other than 0
pub bottom_bound : (z : Zone) (i j : ℕ) → IsTrue z.bottom → bound_of z i j ≡ pos 0
bottom_bound z i j none = (z.emptied none).zeros (18 * i + j)

pub self_bound : (z : Zone) (i : ℕ) → IsNormal z → i ≤ z.vars → bound_of z i i ≡ pos 0
self_bound z i normal hi = ⊎_elim (λ (none : IsTrue z.bottom). bottom_bound z i i none) (λ (up : IsFalse z.bottom). (normal up).tight.closed.self i hi) (is_or_not z.bottom)

high_top : (y : ℕ) → 1 ≤ y → top_bound y 0 ≡ pos (2 ^ 63 - 1)
high_top y h = grind arith

low_top : (y : ℕ) → 1 ≤ y → top_bound 0 y ≡ pos (2 ^ 63)
low_top y h = grind arith

pub variable_words : (z : Zone) (y : ℕ) → IsNormal z → 1 ≤ y → y ≤ z.vars →
    FitsSigned w64 (neg_ℤ (bound_of z 0 y)) × FitsSigned w64 (bound_of z y 0)
variable_words z y normal from hy =
    ⊎_elim
    (λ (none : IsTrue z.bottom). let e = bottom_bound z y 0 none in let e' = bottom_bound z 0 y none in (omega (arith, ints), omega (arith, ints)))
    (λ (up : IsFalse z.bottom).
    let closed = (normal up).tight.closed in
    let self = closed.self 0 (omega arith) in
    let path = closed.paths 0 y 0 (omega arith) hy (omega arith) in
    let high = z.topped y 0 hy (omega arith) in
    let low = z.topped 0 y (omega arith) hy in
    let high_is = high_top y from in
    let low_is = low_top y from in
    (omega (arith, ints), omega (arith, ints)))
    (is_or_not z.bottom)

-- an operand of fewer variables is one of more
pub operand_more : (v w : ℕ) (o : ZoneOperand) → v ≤ w → IsOperand v o → IsOperand w o
operand_more v w (Lit c) more is = search rules
operand_more v w (Var y) more is = (is.0, omega (arith, is.1))

pub literal_low : (z : Zone) (c : ℤ) → IsNormal z → c ≡ low z (Lit c)
literal_low z c normal = let e = self_bound z 0 normal (omega arith) in omega (arith, ints)

pub literal_up : (z : Zone) (c : ℤ) → IsNormal z → c ≡ up z (Lit c)
literal_up z c normal = let e = self_bound z 0 normal (omega arith) in omega (arith, ints)

pub variable_low : (z : Zone) (y : ℕ) → neg_ℤ (bound_of z 0 y) ≡ low z (Var y)
variable_low z y = omega (arith, ints)

pub variable_up : (z : Zone) (y : ℕ) → bound_of z y 0 ≡ up z (Var y)
variable_up z y = omega (arith, ints)
