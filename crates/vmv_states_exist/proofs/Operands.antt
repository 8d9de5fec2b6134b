-- The state of arguments, and the condition of an operand's values.
use Rattle.std.proofs.Common.{◌≢◌, ◌↔◌, ℕ, zero, suc, ◌≤◌, ℤ, pos, negsuc, List, length, Bool, true, false, IsTrue, FitsSigned, arith, rules, refl, sym, ◌∙◌, subst}
use Rattle.std.specs.Int.{w64}
use Rattle.std.proofs.lemmas.Int.{ints}
use Rattle.vmv_cond.specs.declared.cond.Cond.{Cond}
use Rattle.vmv_zone.specs.declared.zone.Zone.{Zone}
use Rattle.vmv_zone.specs.declared.operand.ZoneOperand.{ZoneOperand}
use Rattle.vmv_zone.specs.declared.operand.ZoneOperand.TheVariants.{Lit, Var}
use Rattle.vmv_zone.specs.Zone.{mark_of, IsNormal, IsNormOf}
use Rattle.vmv_zone.specs.Operand.{shift, dif, up, low, IsNonzero}
use Rattle.vmv_zone.specs.Args.{argument_at, AreOperands, IsArgsOf}
use Rattle.vmv_zone.specs.Read.{IsRangeOf}
use Rattle.vmv_zone.proofs.Arguments.{dif_reach, dif_topped}
use Rattle.vmv_zone.proofs.Equal.{by_truth, clash}
use Rattle.vmv_states_exist.proofs.Conds.{nothing, nothing_empty, range_of}
use Rattle.vmv_states_exist.proofs.Tables.{AreBounds, table}
use Rattle.vmv_states_exist.proofs.Empty.{none, none_vars, none_bottom}
use Rattle.vmv_states_exist.proofs.Greatest.{norm_exists}

off_zero : ℤ → Bool
off_zero (pos zero) = false
off_zero (pos (suc n)) = true
off_zero (negsuc n) = true

off_zero_iff : (z : ℤ) → IsTrue (off_zero z) ↔ (z ≢ pos 0)
unfolding off_zero
off_zero_iff (pos zero) = ((λ t. absurd (search rules)), (λ n. absurd (n refl)))
off_zero_iff (pos (suc n)) = ((λ t e. absurd (omega (arith, ints))), (λ n. search rules))
off_zero_iff (negsuc n) = ((λ t e. absurd (omega (arith, ints))), (λ n. search rules))

-- whether an operand is nonzero
abbrev nonzero : Zone → ZoneOperand → Bool
nonzero m (Lit c) = off_zero c
nonzero m (Var y) = mark_of m y

nonzero_iff : (m : Zone) (x : ZoneOperand) → IsTrue (nonzero m x) ↔ IsNonzero m x
nonzero_iff m (Lit c) = off_zero_iff c
nonzero_iff m (Var y) = ((λ t. t), (λ t. t))

-- the words of the arguments
abbrev AreWords : List ZoneOperand → Type 0
AreWords args = (i : ℕ) → i ≤ length args → FitsSigned w64 (shift (argument_at args i))

args_bounds_are : (m : Zone) (args : List ZoneOperand) → IsNormal m → AreOperands m.vars args → AreWords args →
    AreBounds (λ i j. dif m (argument_at args i) (argument_at args j)) (length args)
args_bounds_are m args normal operands words = record {
  reach = λ i j hi hj. dif_reach m (argument_at args i) (argument_at args j) normal (operands i hi) (operands j hj) (words i hi) (words j hj);
  topped = λ i j hi hj. dif_topped m args i j normal operands hi hj (words i hi) (words j hj);
}

args_of_norm : (z m : Zone) (args : List ZoneOperand) → length args ≤ 16 → AreOperands z.vars args → AreWords args → IsNormOf z m → (r : Zone) × IsArgsOf z args r
args_of_norm z m args few operands words norm = by_truth m.bottom
    (λ bottom.
    let few' : length args ≤ 17 = omega arith in (
      none (length args) few',
      record {
        before = m;
        norm = norm;
        vars = none_vars (length args) few';
        bottom = none_bottom (length args) few' ∙ sym bottom;
        bounds = λ up. clash m.bottom bottom up;
        marks = λ up. clash m.bottom bottom up;
      },
    ))
    (λ up.
    let operands' : AreOperands m.vars args = let P : ℕ → Type 0 = λ k. AreOperands k args in subst P (sym norm.vars) operands in
    let t = table (λ i j. dif m (argument_at args i) (argument_at args j)) (λ i. nonzero m (argument_at args i)) (length args) (omega arith) (args_bounds_are m args norm.normal operands' words) in (
      t.state,
      record {
        before = m;
        norm = norm;
        vars = t.vars;
        bottom = t.up ∙ sym up;
        bounds = λ h. t.bounds;
        marks = λ h i from hi. ((λ marked. (nonzero_iff m (argument_at args i)).0 ((t.marked i).0 marked).1.1), (λ off. (t.marked i).1 (from, (hi, (nonzero_iff m (argument_at args i)).1 off))));
      },
    ))

pub args_exist : (z : Zone) (args : List ZoneOperand) → length args ≤ 16 → AreOperands z.vars args → AreWords args → ¬ (¬ ((r : Zone) × IsArgsOf z args r))
args_exist z args few operands words missing = norm_exists z (λ n. missing (args_of_norm z n.0 args few operands words n.1))

range_of_norm : (z m : Zone) (x : ZoneOperand) → IsNormOf z m → (c : Cond) × IsRangeOf z x c
range_of_norm z m x norm = by_truth m.bottom
    (λ bottom. (nothing, record { before = m; norm = norm; words = λ w. ((λ h. absurd (nothing_empty w h)), (λ h. clash m.bottom bottom h.not_bottom)) }))
    (λ up'.
    let c = range_of (low m x) (up m x) (nonzero m x) in
    let iff = nonzero_iff m x in (
      c.0,
      record {
        before = m;
        norm = norm;
        words = λ w. (
          (λ h. let k = (c.1 w).0 h in record { not_bottom = up'; above = k.above; below = k.below; nonzero = λ n. k.nonzero (iff.1 n) }),
          (λ h. (c.1 w).1 (record { above = h.above; below = h.below; nonzero = λ t. h.nonzero (iff.0 t) })),
        );
      },
    ))

pub range_exists : (z : Zone) (x : ZoneOperand) → ¬ (¬ ((c : Cond) × IsRangeOf z x c))
range_exists z x missing = norm_exists z (λ n. missing (range_of_norm z n.0 x n.1))
