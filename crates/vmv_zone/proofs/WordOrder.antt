-- A word of fewer words, assigned, gives a lower state; the state of arguments is normal.
use Rattle.std.proofs.Common.{◌∙◌, ◌≡◌, ◌≢◌, ◌⊎◌, ◌+◌, ℕ, ◌≤◌, pos, ◌+ℤ◌, ◌≤ℤ◌, ◌<ℤ◌, IsTrue, List, length, arith, refl, sym, subst, inl, inr, ⊎_elim}
use Rattle.std.proofs.lemmas.Int.{ints}
use Rattle.vmv_cond.specs.declared.cond.Cond.{Cond}
use Rattle.vmv_cond.specs.Cond.{IsSubset}
use Rattle.vmv_cond.proofs.Ranges.{ends_held}
use Rattle.vmv_zone.specs.declared.zone.Zone.{Zone}
use Rattle.vmv_zone.specs.declared.operand.ZoneOperand.{ZoneOperand}
use Rattle.vmv_zone.specs.declared.operand.ZoneOperand.TheVariants.{Lit, Var}
use Rattle.vmv_zone.specs.declared.operand.ZoneValue.TheVariants.{Within}
use Rattle.vmv_zone.specs.Zone.{bound_of, IsBelow, IsNormal, HasNormalBounds}
use Rattle.vmv_zone.specs.Operand.{thing, dif, IsOperand, IsNonzero}
use Rattle.vmv_zone.specs.Step.{IsAssigned, IsWordOf}
use Rattle.vmv_zone.specs.Args.{argument_at, AreOperands, IsArgsOf}
use Rattle.vmv_zone.proofs.Confining.{false_along}
use Rattle.vmv_zone.proofs.States.{below_trans, norm_mono}
use Rattle.vmv_zone.proofs.Operands.{thing_inside}
use Rattle.vmv_zone.proofs.Equal.{by_truth, clash}
use Rattle.vmv_zone.proofs.AssignOrder.{drop_mono}

-- a condition with more words marks less
marked_of_fewer : (c d : Cond) → IsSubset c d → IsTrue d.zero_out → IsTrue c.zero_out
marked_of_fewer c d sub marked = by_truth c.zero_out (λ t. t)
    (λ unmarked. absurd ((sub (pos 0) (record { above = c.normal.unmarked_lo unmarked; below = c.normal.unmarked_hi unmarked; nonzero = λ t. clash c.zero_out t unmarked })).nonzero marked refl))

-- a variable whose values are words of c, in a normal state, has values of each condition with more words
word_of_more : (c d : Cond) (n : Zone) (y : ℕ) → IsSubset c d → HasNormalBounds n → y ≤ n.vars → IsWordOf c n (Var y) → IsWordOf d n (Var y)
word_of_more c d n y sub normal hy h =
    let self = normal.tight.closed.self y hy in
    let path = normal.tight.closed.paths y 0 y hy (omega arith) hy in
    let high = h.whole.high in
    let low = h.whole.low in
    let order : c.lo ≤ℤ c.hi = omega (arith, ints) in
    let held = ends_held c.lo c.hi c.zero_out c.normal order in
    let above = (sub c.lo held.0).above in
    let below = (sub c.hi held.1).below in
    record { whole = record { high = omega (arith, ints); low = omega (arith, ints) }; marked = λ t. h.marked (marked_of_fewer c d sub t) }

pub word_mono : (a b r s : Zone) (to : ℕ) (c d : Cond) → a.vars ≡ b.vars → 1 ≤ to → IsSubset c d → IsAssigned a to (Within c) r → IsAssigned b to (Within d) s → IsBelow a b → IsBelow r s
word_mono a b r s to c d same from sub one two below =
    let m = one.before in
    let m' = two.before in
    let lower = norm_mono a b m m' same one.norm two.norm below in
    let great = one.greatest in
    let e = one.fresh in
    let e' = two.fresh in
    let vars : m.vars ≡ m'.vars = one.norm.vars ∙ same ∙ sym two.norm.vars in
    let last : e.vars ≡ b.vars + 1 = omega (arith, great.vars) in
    let fresh : IsBelow e e' = λ up.
    let has = great.has up in
    let has' : IsWordOf c e (Var (b.vars + 1)) = (let P : ℕ → Type 0 = λ k. IsWordOf c e (Var (k + 1)) in subst P same has) in
    two.greatest.greatest e last great.normal (below_trans e m m' vars great.below lower)
    (λ up. word_of_more c d e (b.vars + 1) sub (great.normal up) (omega (arith, last)) has') up in
    drop_mono to e r e' s (last ∙ sym two.greatest.vars) one.drops two.drops fresh

-- differences of operands in a state whose bounds are normal

dif_self : (m : Zone) (x : ZoneOperand) → HasNormalBounds m → IsOperand m.vars x → dif m x x ≡ pos 0
dif_self m x normal hx = let e = normal.tight.closed.self (thing x) (thing_inside m.vars x hx) in omega (arith, ints)

dif_paths : (m : Zone) (x y z : ZoneOperand) → HasNormalBounds m → IsOperand m.vars x → IsOperand m.vars y → IsOperand m.vars z → dif m x z ≤ℤ (dif m x y +ℤ dif m y z)
dif_paths m x y z normal hx hy hz =
    let p = normal.tight.closed.paths (thing x) (thing y) (thing z) (thing_inside m.vars x hx) (thing_inside m.vars y hy) (thing_inside m.vars z hz) in
    omega (arith, ints)

-- a nonzero operand is off 0 on both sides
up_off_zero : (m : Zone) (x : ZoneOperand) → HasNormalBounds m → IsOperand m.vars x → IsNonzero m x → dif m x (Lit (pos 0)) ≢ pos 0
up_off_zero m (Lit c) normal hx nonzero zero = let e = normal.tight.closed.self 0 (omega arith) in nonzero (omega (arith, ints))
up_off_zero m (Var y) normal hx nonzero zero = normal.tight.upper y hx.0 hx.1 nonzero (omega (arith, ints))

low_off_zero : (m : Zone) (x : ZoneOperand) → HasNormalBounds m → IsOperand m.vars x → IsNonzero m x → dif m (Lit (pos 0)) x ≢ pos 0
low_off_zero m (Lit c) normal hx nonzero zero = let e = normal.tight.closed.self 0 (omega arith) in nonzero (omega (arith, ints))
low_off_zero m (Var y) normal hx nonzero zero = normal.tight.lower y hx.0 hx.1 nonzero (omega (arith, ints))

-- an operand whose range excludes 0 is nonzero
nonzero_out : (m : Zone) (x : ZoneOperand) → HasNormalBounds m → IsOperand m.vars x → (dif m x (Lit (pos 0)) <ℤ pos 0) ⊎ (dif m (Lit (pos 0)) x <ℤ pos 0) → IsNonzero m x
nonzero_out m (Lit c) normal hx out = λ zero.
    let e = normal.tight.closed.self 0 (omega arith) in
    ⊎_elim (λ (l : dif m (Lit c) (Lit (pos 0)) <ℤ pos 0). omega (arith, ints)) (λ (l : dif m (Lit (pos 0)) (Lit c) <ℤ pos 0). omega (arith, ints)) out
nonzero_out m (Var y) normal hx out =
    normal.marked y hx.0 hx.1
    (⊎_elim (λ (l : dif m (Var y) (Lit (pos 0)) <ℤ pos 0). inl (omega (arith, ints))) (λ (l : dif m (Lit (pos 0)) (Var y) <ℤ pos 0). inr (omega (arith, ints))) out)

pub args_normal : (z r : Zone) (args : List ZoneOperand) → AreOperands z.vars args → IsArgsOf z args r → IsNormal r
args_normal z r args operands is up =
    let m = is.before in
    let mup = false_along r.bottom m.bottom is.bottom up in
    let normal = is.norm.normal mup in
    let at : (i : ℕ) → i ≤ length args → IsOperand m.vars (argument_at args i) = λ i hi. (let P : ℕ → Type 0 = λ k. IsOperand k (argument_at args i) in subst P (sym is.norm.vars) (operands i hi)) in
    let bound = is.bounds mup in
    let inside : (i : ℕ) → i ≤ r.vars → i ≤ length args = λ i hi. omega (arith, is.vars) in
    record {
      tight = record {
        closed = record {
          self = λ i hi. bound i i (inside i hi) (inside i hi) ∙ dif_self m (argument_at args i) normal (at i (inside i hi));
          paths = λ i j k hi hj hk. rw (bound i k (inside i hi) (inside k hk), bound i j (inside i hi) (inside j hj), bound j k (inside j hj) (inside k hk))
              (dif_paths m (argument_at args i) (argument_at args j) (argument_at args k) normal (at i (inside i hi)) (at j (inside j hj)) (at k (inside k hk)));
        };
        upper = λ i from hi marked zero. up_off_zero m (argument_at args i) normal (at i (inside i hi)) ((is.marks mup i from (inside i hi)).0 marked) (sym (bound i 0 (inside i hi) (omega arith)) ∙ zero);
        lower = λ i from hi marked zero. low_off_zero m (argument_at args i) normal (at i (inside i hi)) ((is.marks mup i from (inside i hi)).0 marked) (sym (bound 0 i (omega arith) (inside i hi)) ∙ zero);
      };
      marked = λ i from hi out. (is.marks mup i from (inside i hi)).1
          (nonzero_out m (argument_at args i) normal (at i (inside i hi))
          (let b = bound i 0 (inside i hi) (omega arith) in let d = bound 0 i (omega arith) (inside i hi) in
          ⊎_elim (λ (l : bound_of r i 0 <ℤ pos 0). inl (rw (sym b) l)) (λ (l : bound_of r 0 i <ℤ pos 0). inr (rw (sym d) l)) out));
    }
