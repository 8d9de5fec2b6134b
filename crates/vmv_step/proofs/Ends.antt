-- The ends of operands: values at points lie between them, and those of a lower state lie inside.
use Rattle.std.proofs.Common.{◌≡◌, inl, inr, ⊎_elim, ℕ, ◌^◌, ◌-◌, ℤ, pos, negsuc, ◌≤ℤ◌, FitsSigned, arith, sym, subst}
use Rattle.std.specs.Int.{w64}
use Rattle.std.proofs.lemmas.Int.{ints}
use Rattle.vmv_tree.specs.declared.tree.Op.{Op}
use Rattle.vmv_tree.specs.declared.tree.Op.TheVariants.{Add, Sub, Mul, Div, Rem}
use Rattle.vmv_zone.specs.declared.zone.Zone.{Zone}
use Rattle.vmv_zone.specs.declared.operand.ZoneOp.{ZoneOp}
use Rattle.vmv_zone.specs.declared.operand.ZoneOp.TheVariants.{Add, Sub, Mul, Div, Rem}
use Rattle.vmv_zone.specs.declared.operand.ZoneOperand.{ZoneOperand}
use Rattle.vmv_zone.specs.declared.operand.ZoneOperand.TheVariants.{Lit, Var}
use Rattle.vmv_zone.specs.Zone.{HasPoint, HasNormalBounds, IsTighter}
use Rattle.vmv_zone.specs.Operand.{thing, up, low, value_at, IsOperand}
use Rattle.vmv_zone.specs.Ends.{IsEnd, IsEndQuotient}
use Rattle.vmv_zone.proofs.Operands.{thing_inside}
use Rattle.vmv_zone.proofs.GuardLaws.{point_dif, point_nonzero, dif_mono, nonzero_mono}
use Rattle.vmv_zone.proofs.Quotients.{between_products}
use Rattle.vmv_zone.proofs.Words.{variable_words}
use Rattle.vmv_step.specs.Zones.{zone_op}
use Rattle.vmv_step.specs.Fails.{MayFail, IsLeastByMinusOne}
use Rattle.vmv_step.proofs.Quotient.{edge_of_ends, ends_of_edge}
use Rattle.vmv_step.proofs.Result.{Failing}

pub value_between : (m : Zone) (q : ℕ → ℤ) (x : ZoneOperand) → HasPoint m q → IsOperand m.vars x → (low m x ≤ℤ value_at q x) × (value_at q x ≤ℤ up m x)
value_between m q x point hx =
    let h = point_dif m q x (Lit (pos 0)) point hx tt in
    let h' = point_dif m q (Lit (pos 0)) x point tt hx in
    (omega (arith, ints), omega (arith, ints))

-- a literal is a word
abbrev pub IsFit : ZoneOperand → Type 0
IsFit (Lit c) = FitsSigned w64 c
IsFit (Var y) = Unit {0}

-- the ends of an operand are words
pub end_words : (m : Zone) (x : ZoneOperand) → HasNormalBounds m → IsOperand m.vars x → IsFit x → FitsSigned w64 (low m x) × FitsSigned w64 (up m x)
end_words m (Lit c) normal hx fits = let e = normal.tight.closed.self 0 (omega arith) in (omega (arith, ints), omega (arith, ints))
end_words m (Var y) normal hx fits =
    let w = variable_words m y (λ up. normal) hx.0 hx.1 in
    let w0 = w.0 in let w1 = w.1 in
    (omega (arith, ints), omega (arith, ints))

pub ends_order : (m : Zone) (x : ZoneOperand) → HasNormalBounds m → IsOperand m.vars x → low m x ≤ℤ up m x
ends_order m x normal hx =
    let inside = thing_inside m.vars x hx in
    let path = normal.tight.closed.paths (thing x) 0 (thing x) inside (omega arith) inside in
    let self = normal.tight.closed.self (thing x) inside in
    omega (arith, ints)

-- a quotient of ends is 2^63 exactly where the least word may be divided by -1
pub edge_iff : (m : Zone) (x y : ZoneOperand) → HasNormalBounds m → IsOperand m.vars x → IsOperand m.vars y → IsFit x →
    IsEndQuotient (low m x) (up m x) (low m y) (up m y) (pos (2 ^ 63)) → IsLeastByMinusOne (low m x) (low m y) (up m y)
edge_iff m x y normal hx hy fits q =
    let w = end_words m x normal hx fits in
    edge_of_ends (low m x) (up m x) (low m y) (up m y) w.0 w.1 (ends_order m x normal hx) (ends_order m y normal hy) q

edge_at : (m : Zone) (q : ℕ → ℤ) (x y : ZoneOperand) → HasPoint m q → HasNormalBounds m → IsOperand m.vars x → IsOperand m.vars y → IsFit x →
    (value_at q x ≡ negsuc (2 ^ 63 - 1)) × (value_at q y ≡ negsuc 0) → IsLeastByMinusOne (low m x) (low m y) (up m y)
edge_at m q x y point normal hx hy fits edge =
    let bx = value_between m q x point hx in let by = value_between m q y point hy in
    let bx0 = bx.0 in let by0 = by.0 in let by1 = by.1 in
    let e = edge.0 in let e' = edge.1 in
    let w = end_words m x normal hx fits in
    let w0 = w.0 in
    (omega (arith, ints), omega (arith, ints), omega (arith, ints))

-- an operation that fails at a point may fail in its state
pub may_fail : (op : Op) (m : Zone) (q : ℕ → ℤ) (x y : ZoneOperand) → HasPoint m q → HasNormalBounds m → IsOperand m.vars x → IsOperand m.vars y → IsFit x →
    Failing op (value_at q x) (value_at q y) → MayFail (zone_op op) m x y
may_fail Add m q x y point normal hx hy fits h =
    let bx = value_between m q x point hx in let by = value_between m q y point hy in
    let bx0 = bx.0 in let bx1 = bx.1 in let by0 = by.0 in let by1 = by.1 in
    ⊎_elim (λ l. inl (omega (arith, ints, l))) (λ g. inr (omega (arith, ints, g))) h
may_fail Sub m q x y point normal hx hy fits h =
    let d = point_dif m q x y point hx hy in
    let d' = point_dif m q y x point hy hx in
    ⊎_elim (λ l. inr (omega (arith, ints, l))) (λ g. inl (omega (arith, ints, g))) h
may_fail Mul m q x y point normal hx hy fits h =
    let bx = value_between m q x point hx in let by = value_between m q y point hy in
    let b = between_products (low m x) (up m x) (low m y) (up m y) (value_at q x) (value_at q y) bx.0 bx.1 by.0 by.1 in
    let least = b.least in let greatest = b.greatest in
    let l' = least.1.1 in let g' = greatest.1.1 in
    ⊎_elim (λ l. (least.0, least.1.0, inl (omega (arith, ints, l)))) (λ g. (greatest.0, greatest.1.0, inr (omega (arith, ints, g)))) h
may_fail Div m q x y point normal hx hy fits h =
    ⊎_elim (λ e. inl (λ nonzero. point_nonzero m q y point hy nonzero e))
    (λ edge. inr (ends_of_edge (low m x) (up m x) (low m y) (up m y) (edge_at m q x y point normal hx hy fits edge)))
    h
may_fail Rem m q x y point normal hx hy fits h =
    ⊎_elim (λ e. inl (λ nonzero. point_nonzero m q y point hy nonzero e)) (λ edge. inr (edge_at m q x y point normal hx hy fits edge)) h

-- the ends of an operand of a lower state lie inside
pub record AreWithin (a b c d : ℤ) : Type 0 where
  pub low : c ≤ℤ a
  pub order : a ≤ℤ b
  pub high : b ≤ℤ d

pub ends_within : (m n : Zone) (x : ZoneOperand) → IsTighter m n → HasNormalBounds m → m.vars ≡ n.vars → IsOperand n.vars x → AreWithin (low m x) (up m x) (low n x) (up n x)
ends_within m n x tight normal same hx =
    let one = dif_mono m n x (Lit (pos 0)) tight hx tt in
    let two = dif_mono m n (Lit (pos 0)) x tight tt hx in
    let three = ends_order m x normal (let P : ℕ → Type 0 = λ k. IsOperand k x in subst P (sym same) hx) in
    record { low = omega (arith, ints); order = three; high = omega (arith, ints) }

end_within : (a b c d e : ℤ) → AreWithin a b c d → IsEnd a b e → (c ≤ℤ e) × (e ≤ℤ d)
end_within a b c d e h is =
    let l = h.low in let o = h.order in let g = h.high in
    ⊎_elim (λ (at : e ≡ a). (omega (arith, ints), omega (arith, ints))) (λ (at : e ≡ b). (omega (arith, ints), omega (arith, ints))) is

edge_mono : (m n : Zone) (x y : ZoneOperand) → IsTighter m n → HasNormalBounds m → HasNormalBounds n → m.vars ≡ n.vars → IsOperand n.vars x → IsOperand n.vars y → IsFit x →
    IsLeastByMinusOne (low m x) (low m y) (up m y) → IsLeastByMinusOne (low n x) (low n y) (up n y)
edge_mono m n x y tight normal normal' same hx hy fits h =
    let bx = ends_within m n x tight normal same hx in let by = ends_within m n y tight normal same hy in
    let bx0 = bx.low in let by0 = by.low in let by1 = by.high in
    let h0 = h.0 in let h1 = h.1 in let h2 = h.2 in
    let w = end_words n x normal' hx fits in
    let w0 = w.0 in
    (omega (arith, ints), omega (arith, ints), omega (arith, ints))

-- what may fail in a lower state may fail in a higher one
pub fails_mono : (op : ZoneOp) (m n : Zone) (x y : ZoneOperand) → IsTighter m n → HasNormalBounds m → HasNormalBounds n → m.vars ≡ n.vars → IsOperand n.vars x → IsOperand n.vars y → IsFit x →
    MayFail op m x y → MayFail op n x y
fails_mono Add m n x y tight normal normal' same hx hy fits h =
    let bx = ends_within m n x tight normal same hx in let by = ends_within m n y tight normal same hy in
    let bx0 = bx.low in let bx1 = bx.high in let by0 = by.low in let by1 = by.high in
    ⊎_elim (λ l. inl (omega (arith, ints, l))) (λ g. inr (omega (arith, ints, g))) h
fails_mono Sub m n x y tight normal normal' same hx hy fits h =
    let one = dif_mono m n x y tight hx hy in
    let two = dif_mono m n y x tight hy hx in
    ⊎_elim (λ l. inl (omega (arith, ints, l))) (λ g. inr (omega (arith, ints, g))) h
fails_mono Mul m n x y tight normal normal' same hx hy fits h =
    let bx = ends_within m n x tight normal same hx in let by = ends_within m n y tight normal same hy in
    let r = h.1 in
    let ex = end_within (low m x) (up m x) (low n x) (up n x) r.left bx r.left_end in
    let ey = end_within (low m y) (up m y) (low n y) (up n y) r.right by r.right_end in
    let b = between_products (low n x) (up n x) (low n y) (up n y) r.left r.right ex.0 ex.1 ey.0 ey.1 in
    let least = b.least in let greatest = b.greatest in
    let l' = least.1.1 in let g' = greatest.1.1 in
    let is = r.is in
    ⊎_elim (λ l. (least.0, least.1.0, inl (omega (arith, ints, l)))) (λ g. (greatest.0, greatest.1.0, inr (omega (arith, ints, g)))) h.2
fails_mono Div m n x y tight normal normal' same hx hy fits h =
    let inside : (o : ZoneOperand) → IsOperand n.vars o → IsOperand m.vars o = λ o k. (let P : ℕ → Type 0 = λ v. IsOperand v o in subst P (sym same) k) in
    ⊎_elim (λ maybe. inl (λ nonzero. maybe (nonzero_mono m n y tight hy nonzero)))
    (λ q. inr (ends_of_edge (low n x) (up n x) (low n y) (up n y)
    (edge_mono m n x y tight normal normal' same hx hy fits (edge_iff m x y normal (inside x hx) (inside y hy) fits q))))
    h
fails_mono Rem m n x y tight normal normal' same hx hy fits h =
    ⊎_elim (λ maybe. inl (λ nonzero. maybe (nonzero_mono m n y tight hy nonzero)))
    (λ edge. inr (edge_mono m n x y tight normal normal' same hx hy fits edge))
    h
