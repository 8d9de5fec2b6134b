-- Joins, roundings, arguments and ranges keep points and the order of states; results are normal.
use Rattle.std.proofs.Common.{◌∙◌, ◌≡◌, ℕ, ◌≤◌, ℤ, pos, ◌<ℤ◌, List, length, FitsSigned, arith, inl, inr, ⊎_elim, sym, subst, refl}
use Rattle.std.specs.Int.{w64}
use Rattle.std.proofs.lemmas.Int.{ints}
use Rattle.vmv_cond.specs.declared.cond.Cond.{Cond}
use Rattle.vmv_cond.specs.Cond.{Holds, IsSubset}
use Rattle.vmv_zone.specs.declared.zone.Zone.{Zone}
use Rattle.vmv_zone.specs.declared.operand.ZoneOperand.{ZoneOperand}
use Rattle.vmv_zone.specs.declared.operand.ZoneOperand.TheVariants.{Lit}
use Rattle.vmv_zone.specs.declared.operand.ZoneValue.{ZoneValue}
use Rattle.vmv_zone.specs.Bounds.{moved}
use Rattle.vmv_zone.specs.Zone.{bound_of, mark_of, HasPoint, IsBelow, IsNormal, IsNormOf, IsJoin}
use Rattle.vmv_zone.specs.Operand.{value_at, up, IsOperand}
use Rattle.vmv_zone.specs.Read.{IsRangeOf}
use Rattle.vmv_zone.specs.Round.{IsRounded}
use Rattle.vmv_zone.specs.Args.{argument_at, AreOperands, IsArgsOf}
use Rattle.vmv_zone.specs.Step.{IsAssigned, Drops}
use Rattle.vmv_zone.proofs.Confining.{true_along, false_along}
use Rattle.vmv_zone.proofs.AssignOrder.{moved_inside, moved_variable}
use Rattle.vmv_zone.proofs.States.{below_trans, norm_mono}
use Rattle.vmv_zone.proofs.GuardLaws.{point_dif, point_nonzero, norm_point, dif_mono, nonzero_mono}

pub below_point : (a b : Zone) (p : ℕ → ℤ) → a.vars ≡ b.vars → IsBelow a b → HasPoint a p → HasPoint b p
below_point a b p same below point =
    let h = below point.not_bottom in
    record {
      not_bottom = h.not_bottom;
      zero = point.zero;
      words = λ i hi. point.words i (omega arith);
      bounds = λ i j hi hj. let one = point.bounds i j (omega arith) (omega arith) in let two = h.bounds i j hi hj in omega (arith, ints);
      marks = λ i from hi marked. point.marks i from (omega arith) (h.marks i from hi marked);
    }

pub join_mono : (a b a' b' j j' : Zone) → a.vars ≡ a'.vars → b.vars ≡ a'.vars → b'.vars ≡ a'.vars → IsJoin a b j → IsJoin a' b' j' → IsBelow a a' → IsBelow b b' → IsBelow j j'
join_mono a b a' b' j j' one two three join join' below below' =
    join.least j' (join'.vars ∙ sym one) (below_trans a a' j' (sym join'.vars) below join'.left) (below_trans b b' j' (three ∙ sym join'.vars) below' join'.right)

pub round_mono : (ts : List ℤ) (a b r s : Zone) → a.vars ≡ b.vars → IsRounded ts a r → IsRounded ts b s → IsBelow a b → IsBelow r s
round_mono ts a b r s same one two below = one.least s (two.vars ∙ sym same) two.threshold (below_trans a b s (sym two.vars) below two.above)

pub args_point : (z r : Zone) (args : List ZoneOperand) (p : ℕ → ℤ) → AreOperands z.vars args → IsArgsOf z args r → HasPoint z p →
    ((i : ℕ) → i ≤ length args → FitsSigned w64 (value_at p (argument_at args i))) → HasPoint r (λ i. value_at p (argument_at args i))
args_point z r args p operands is point words =
    let m = is.before in
    let here = norm_point z m p is.norm point in
    let operands' : AreOperands m.vars args = (let P : ℕ → Type 0 = λ k. AreOperands k args in subst P (sym is.norm.vars) operands) in
    record {
      not_bottom = false_along m.bottom r.bottom (sym is.bottom) here.not_bottom;
      zero = refl;
      words = λ i hi. words i (omega (arith, is.vars));
      bounds = λ i j hi hj.
          let e = is.bounds here.not_bottom i j (omega (arith, is.vars)) (omega (arith, is.vars)) in
          let h = point_dif m p (argument_at args i) (argument_at args j) here (operands' i (omega (arith, is.vars))) (operands' j (omega (arith, is.vars))) in
          rw e h;
      marks = λ i from hi marked. point_nonzero m p (argument_at args i) here (operands' i (omega (arith, is.vars))) ((is.marks here.not_bottom i from (omega (arith, is.vars))).0 marked);
    }

pub args_mono : (a b r s : Zone) (args : List ZoneOperand) → a.vars ≡ b.vars → AreOperands b.vars args → IsArgsOf a args r → IsArgsOf b args s → IsBelow a b → IsBelow r s
args_mono a b r s args same operands one two below up =
    let m = one.before in
    let m' = two.before in
    let mup = false_along r.bottom m.bottom one.bottom up in
    let tight = norm_mono a b m m' same one.norm two.norm below mup in
    let operands' : AreOperands m'.vars args = (let P : ℕ → Type 0 = λ k. AreOperands k args in subst P (sym two.norm.vars) operands) in
    record {
      not_bottom = false_along m'.bottom s.bottom (sym two.bottom) tight.not_bottom;
      bounds = λ i j hi hj.
          let e = one.bounds mup i j (omega (arith, two.vars)) (omega (arith, two.vars)) in
          let e' = two.bounds tight.not_bottom i j (omega (arith, two.vars)) (omega (arith, two.vars)) in
          rw (e, e') (dif_mono m m' (argument_at args i) (argument_at args j) tight (operands' i (omega (arith, two.vars))) (operands' j (omega (arith, two.vars))));
      marks = λ i from hi marked.
          (one.marks mup i from (omega (arith, two.vars))).1
          (nonzero_mono m m' (argument_at args i) tight (operands' i (omega (arith, two.vars))) ((two.marks tight.not_bottom i from (omega (arith, two.vars))).0 marked));
    }

pub range_point : (z : Zone) (x : ZoneOperand) (c : Cond) (p : ℕ → ℤ) → IsOperand z.vars x → IsRangeOf z x c → HasPoint z p → Holds c (value_at p x)
range_point z x c p hx is point =
    let m = is.before in
    let here = norm_point z m p is.norm point in
    let hx' : IsOperand m.vars x = (let P : ℕ → Type 0 = λ k. IsOperand k x in subst P (sym is.norm.vars) hx) in
    let h = point_dif m p x (Lit (pos 0)) here hx' tt in
    let h' = point_dif m p (Lit (pos 0)) x here tt hx' in
    (is.words (value_at p x)).1 (record { not_bottom = here.not_bottom; above = omega (arith, ints); below = omega (arith, ints); nonzero = point_nonzero m p x here hx' })

pub range_mono : (a b : Zone) (x : ZoneOperand) (c d : Cond) → a.vars ≡ b.vars → IsOperand b.vars x → IsRangeOf a x c → IsRangeOf b x d → IsBelow a b → IsSubset c d
range_mono a b x c d same hx one two below w held =
    let m = one.before in
    let m' = two.before in
    let v = (one.words w).0 held in
    let tight = norm_mono a b m m' same one.norm two.norm below v.not_bottom in
    let hx' : IsOperand m'.vars x = (let P : ℕ → Type 0 = λ k. IsOperand k x in subst P (sym two.norm.vars) hx) in
    let h = dif_mono m m' x (Lit (pos 0)) tight hx' tt in
    let h' = dif_mono m m' (Lit (pos 0)) x tight tt hx' in
    let above = v.above in
    let under = v.below in
    (two.words w).1 (record { not_bottom = tight.not_bottom; above = omega (arith, ints); below = omega (arith, ints); nonzero = λ k. v.nonzero (nonzero_mono m m' x tight hx' k) })

-- a normal state is its own norm, as far as the order tells
pub norm_same : (z n : Zone) → IsNormal z → IsNormOf z n → IsBelow z n
norm_same z n normal norm = norm.greatest z refl normal (λ up. record { not_bottom = up; bounds = λ i j hi hj. omega (arith, ints); marks = λ i from hi marked. marked })

moved_zero : (to last : ℕ) → 1 ≤ to → moved to last 0 ≡ 0
moved_zero to last h = grind arith

drop_normal : (to : ℕ) (e r : Zone) → 1 ≤ to → Drops to e r → IsNormal e → IsNormal r
drop_normal to e r from drops normal up =
    let h = normal (false_along r.bottom e.bottom drops.bottom up) in
    let inside : (i : ℕ) → i ≤ r.vars → moved to e.vars i ≤ e.vars = λ i hi. moved_inside to e.vars i (omega (arith, drops.vars)) in
    let zero_is = moved_zero to e.vars from in
    record {
      tight = record {
        closed = record {
          self = λ i hi. drops.bounds i i hi hi ∙ h.tight.closed.self (moved to e.vars i) (inside i hi);
          paths = λ i j k hi hj hk. rw (drops.bounds i k hi hk, drops.bounds i j hi hj, drops.bounds j k hj hk) (h.tight.closed.paths (moved to e.vars i) (moved to e.vars j) (moved to e.vars k) (inside i hi) (inside j hj) (inside k hk));
        };
        upper = λ i variable hi marked zero_bound.
            h.tight.upper (moved to e.vars i) (moved_variable to e.vars i variable (omega (arith, drops.vars))) (inside i hi) (true_along (mark_of r i) (mark_of e (moved to e.vars i)) (drops.marks i variable hi) marked)
            (let b = drops.bounds i 0 hi (omega arith) in let b' = rw zero_is at b in sym b' ∙ zero_bound);
        lower = λ i variable hi marked zero_bound.
            h.tight.lower (moved to e.vars i) (moved_variable to e.vars i variable (omega (arith, drops.vars))) (inside i hi) (true_along (mark_of r i) (mark_of e (moved to e.vars i)) (drops.marks i variable hi) marked)
            (let b = drops.bounds 0 i (omega arith) hi in let b' = rw zero_is at b in sym b' ∙ zero_bound);
      };
      marked = λ i variable hi out.
          let b = drops.bounds i 0 hi (omega arith) in
          let b' = rw zero_is at b in
          let d = drops.bounds 0 i (omega arith) hi in
          let d' = rw zero_is at d in
          let m = h.marked (moved to e.vars i) (moved_variable to e.vars i variable (omega (arith, drops.vars))) (inside i hi)
          (⊎_elim (λ (l : bound_of r i 0 <ℤ pos 0). inl (omega (arith, ints))) (λ (l : bound_of r 0 i <ℤ pos 0). inr (omega (arith, ints))) out) in
          true_along (mark_of e (moved to e.vars i)) (mark_of r i) (sym (drops.marks i variable hi)) m;
    }

pub assign_normal : (z r : Zone) (to : ℕ) (value : ZoneValue) → 1 ≤ to → IsAssigned z to value r → IsNormal r
assign_normal z r to value from assigned = drop_normal to assigned.fresh r from assigned.drops assigned.greatest.normal
