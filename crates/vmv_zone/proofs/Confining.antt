-- Properties added to a state, and the greatest normal state that has them.
use Rattle.std.proofs.Common.{◌∙◌, ◌≡◌, ◌≢◌, ◌⊎◌, ◌↔◌, ℕ, ◌+◌, ◌-◌, ◌^◌, ◌≤◌, ℤ, pos, negsuc, ◌+ℤ◌, ◌≤ℤ◌, ◌<ℤ◌, List, Bool, IsTrue, IsFalse, arith, rules, inl, inr, ⊎_elim, sym, subst, refl}
use Rattle.std.specs.Int.{int_max}
use Rattle.std.proofs.lemmas.Int.{ints, clamps}
use Rattle.std.proofs.lemmas.Bool.{cases_eq}
use Rattle.vmv_zone.specs.declared.zone.Zone.{Zone}
use Rattle.vmv_zone.specs.Bounds.{bound_at, IsClosed, IsMarkedIn, top_bound, extended_bound, through_bound, IsTableBy}
use Rattle.vmv_zone.specs.Zone.{bound_of, IsTighter, IsNormOf, IsGreatest}
use Rattle.vmv_zone.specs.Confine.{IsProper, HasClosedBounds, Confines}
use Rattle.vmv_zone.proofs.Places.{top_bound_high}
use Rattle.vmv_zone.proofs.Closing.{by_last, extended_both, extended_from, extended_to, extended_old, extended_closed, through_closed}

pub true_along : (a b : Bool) → a ≡ b → IsTrue a → IsTrue b
true_along a b e h = let P : Bool → Type 0 = λ v. IsTrue v in subst P e h

pub false_along : (a b : Bool) → a ≡ b → IsFalse a → IsFalse b
false_along a b e h = let P : Bool → Type 0 = λ v. IsFalse v in subst P e h

pub at_or_off : (P : ℕ → ℕ → Type 0) (i j p q : ℕ) → P i j → (p ≢ i ⊎ q ≢ j → P p q) → P p q
at_or_off P i j p q here off =
    ⊎_elim
    (λ (same : p ≡ i). ⊎_elim (λ (same' : q ≡ j). rw (same, same') here) (λ (other : q ≢ j). off (inr other)) (cases_eq q j))
    (λ (other : p ≢ i). off (inl other))
    (cases_eq p i)

-- one property after the other
pub confines_both : {count : ℕ} {P Q : Zone → Type 0} {a b d : Zone} → Confines count P a b → Confines count Q b d → Confines count (λ n. P n × Q n) a d
confines_both one two = record {
  vars = two.vars;
  within = λ n same proper tight. one.within n same proper (two.within n same proper tight);
  has = λ n same proper tight. (one.has n same proper (two.within n same proper tight), two.has n same proper tight);
  all = λ n same proper tight h. two.all n same proper (one.all n same proper tight h.0) h.1;
  closed = λ h. two.closed (one.closed h);
}

pub confines_next : {count : ℕ} {P Q : Zone → Type 0} {a b d : Zone} → Confines count P a b → Confines b.vars Q b d → Confines count (λ n. P n × Q n) a d
confines_next {Q = Q} {b = b} {d = d} one two = let F : ℕ → Type 0 = λ k. Confines k Q b d in confines_both one (subst F one.vars two)

-- the same property in other words
pub confines_as : {count : ℕ} {P Q : Zone → Type 0} {a b : Zone} → ((n : Zone) → n.vars ≡ count → IsProper n → P n ↔ Q n) → Confines count P a b → Confines count Q a b
confines_as iff one = record {
  vars = one.vars;
  within = one.within;
  has = λ n same proper tight. (iff n same proper).0 (one.has n same proper tight);
  all = λ n same proper tight h. one.all n same proper tight ((iff n same proper).1 h);
  closed = one.closed;
}

-- a property that every state has
pub confines_none : (P : Zone → Type 0) (z : Zone) → ((n : Zone) → P n) → Confines z.vars P z z
confines_none P z always = record { vars = refl; within = λ n same proper tight. tight; has = λ n same proper tight. always n; all = λ n same proper tight h. tight; closed = λ h. h }

-- Bottom has every property
pub confines_bottom : (count : ℕ) (P : Zone → Type 0) (old new : Zone) → new.vars ≡ count → IsTrue old.bottom → IsTrue new.bottom → Confines count P old new
confines_bottom count P old new vars none none' = record {
  vars = vars;
  within = λ n same proper tight. absurd (let f = tight.not_bottom in search rules);
  has = λ n same proper tight. absurd (let f = tight.not_bottom in search rules);
  all = λ n same proper tight h. absurd (let f = tight.not_bottom in search rules);
  closed = λ h up. absurd (search rules);
}

-- Bottom for a property that no state has
pub confines_never : (P : Zone → Type 0) (old new : Zone) → new.vars ≡ old.vars → IsTrue new.bottom → ((n : Zone) → n.vars ≡ old.vars → IsProper n → ¬ P n) → Confines old.vars P old new
confines_never P old new vars none never = record {
  vars = vars;
  within = λ n same proper tight. absurd (let f = tight.not_bottom in search rules);
  has = λ n same proper tight. absurd (let f = tight.not_bottom in search rules);
  all = λ n same proper tight h. absurd (never n same proper h);
  closed = λ h up. absurd (search rules);
}

-- the norm of a state with a property added is the greatest that has it
pub greatest_of : (count : ℕ) (Has : Zone → Type 0) (old new g : Zone) → Confines count Has old new → IsNormOf new g → IsGreatest count old Has g
greatest_of count Has old new g confines norm =
    let vars : g.vars ≡ count = norm.vars ∙ confines.vars in
    record {
      vars = vars;
      normal = norm.normal;
      below = λ up. confines.within g vars (record { not_bottom = up; normal = norm.normal up }) (norm.below up);
      has = λ up. confines.has g vars (record { not_bottom = up; normal = norm.normal up }) (norm.below up);
      greatest = λ n same normal below has. norm.greatest n (same ∙ sym confines.vars) normal
          (λ up. confines.all n same (record { not_bottom = up; normal = normal up }) (below up) (has up));
    }

-- no bound of a proper normal state is as low as -2^64, so one that isn't above a bound kept in reach isn't above the bound
proper_low : (n : Zone) (i j : ℕ) (b b' : ℤ) → i ≤ n.vars → j ≤ n.vars → IsProper n → b' ≡ int_max b (negsuc (2 ^ 64 - 1)) → bound_of n i j ≤ℤ b' → bound_of n i j ≤ℤ b
proper_low n i j b b' hi hj proper is low =
    let closed = proper.normal.tight.closed in
    let self = closed.self i hi in
    let path = closed.paths i j i hi hj hi in
    let top = n.topped j i hj hi in
    let high = top_bound_high j i in
    omega (arith, ints, clamps)

-- a bound that is low enough already
pub lowered_none : (z : Zone) (i j : ℕ) (b b' : ℤ) → i ≤ z.vars → j ≤ z.vars → b' ≡ int_max b (negsuc (2 ^ 64 - 1)) → bound_of z i j ≤ℤ b' → Confines z.vars (λ n. bound_of n i j ≤ℤ b) z z
lowered_none z i j b b' hi hj is low = record {
  vars = refl;
  within = λ n same proper tight. tight;
  has = λ n same proper tight. let t = tight.bounds i j hi hj in proper_low n i j b b' (omega (arith, same)) (omega (arith, same)) proper is (omega (arith, ints));
  all = λ n same proper tight h. tight;
  closed = λ h. h;
}

-- a bound that makes a cycle below 0
pub lowered_empty : (z none : Zone) (i j : ℕ) (b b' : ℤ) → none.vars ≡ z.vars → IsTrue none.bottom → i ≤ z.vars → j ≤ z.vars → b' ≡ int_max b (negsuc (2 ^ 64 - 1)) →
    (b' +ℤ bound_of z j i) <ℤ pos 0 → Confines z.vars (λ n. bound_of n i j ≤ℤ b) z none
lowered_empty z none i j b b' vars bottom hi hj is cycle = record {
  vars = vars;
  within = λ n same proper tight. absurd (let f = tight.not_bottom in search rules);
  has = λ n same proper tight. absurd (let f = tight.not_bottom in search rules);
  all = λ n same proper tight h. absurd (
      let back = tight.bounds j i hj hi in
      let closed = proper.normal.tight.closed in
      let self = closed.self i (omega (arith, same)) in
      let path = closed.paths i j i (omega (arith, same)) (omega (arith, same)) (omega (arith, same)) in
      omega (arith, ints, clamps));
  closed = λ h up. absurd (search rules);
}

-- one bound lowered, and the bounds closed again
pub lowered_through : (old new : Zone) (i j : ℕ) (b b' : ℤ) → i ≤ old.vars → j ≤ old.vars → new.vars ≡ old.vars → IsFalse old.bottom → IsFalse new.bottom → new.marks ≡ old.marks →
    HasClosedBounds old → b' ≡ int_max b (negsuc (2 ^ 64 - 1)) → pos 0 ≤ℤ (b' +ℤ bound_of old j i) →
    IsTableBy (λ p q x. x ≡ through_bound old.bounds i j b' p q) old.vars new.bounds → Confines old.vars (λ n. bound_of n i j ≤ℤ b) old new
lowered_through old new i j b b' hi hj vars up up' marks closed is cycle table = record {
  vars = vars;
  within = λ n same proper tight. record {
    not_bottom = up;
    bounds = λ p q hp hq.
        let t = tight.bounds p q (omega (arith, vars)) (omega (arith, vars)) in
        let e = table.at p q hp hq in
        omega (arith, ints, clamps);
    marks = λ p from hp marked. tight.marks p from (omega (arith, vars)) (let P : List Bool → Type 0 = λ l. IsMarkedIn l p in subst P (sym marks) marked);
  };
  has = λ n same proper tight.
      let t = tight.bounds i j (omega (arith, vars)) (omega (arith, vars)) in
      let e = table.at i j hi hj in
      let self = (closed up).self i hi in
      let self' = (closed up).self j hj in
      proper_low n i j b b' (omega (arith, same)) (omega (arith, same)) proper is (omega (arith, ints, clamps));
  all = λ n same proper tight h. record {
    not_bottom = up';
    bounds = λ p q hp hq.
        let pq = tight.bounds p q (omega (arith, vars)) (omega (arith, vars)) in
        let pi = tight.bounds p i (omega (arith, vars)) hi in
        let jq = tight.bounds j q hj (omega (arith, vars)) in
        let paths = proper.normal.tight.closed.paths in
        let one = paths p i q (omega (arith, vars, same)) (omega (arith, same)) (omega (arith, vars, same)) in
        let two = paths i j q (omega (arith, same)) (omega (arith, same)) (omega (arith, vars, same)) in
        let e = table.at p q (omega (arith, vars)) (omega (arith, vars)) in
        omega (arith, ints, clamps);
    marks = λ p from hp marked. tight.marks p from (omega (arith, vars)) (let P : List Bool → Type 0 = λ l. IsMarkedIn l p in subst P marks marked);
  };
  closed = λ h up''. let P : ℕ → Type 0 = λ v. IsClosed (bound_at new.bounds) v in subst P (sym vars) (through_closed old.bounds new.bounds old.vars i j b' hi hj (closed up) cycle table);
}

top_same : (i j : ℕ) → i ≡ j → top_bound i j ≡ pos 0
top_same i j h = grind arith

top_to_zero : (i : ℕ) → 1 ≤ i → top_bound i 0 ≡ pos (2 ^ 63 - 1)
top_to_zero i h = grind arith

top_from_zero : (j : ℕ) → 1 ≤ j → top_bound 0 j ≡ pos (2 ^ 63)
top_from_zero j h = grind arith

-- a proper normal state over one variable more has no bound above those that words and the old bounds keep
extended_above : (old n : Zone) (p q : ℕ) → n.vars ≡ old.vars + 1 → IsProper n → IsTighter n old → p ≤ old.vars + 1 → q ≤ old.vars + 1 → bound_of n p q ≤ℤ extended_bound old.bounds (old.vars + 1) p q
extended_above old n p q same proper tight hp hq =
    let closed = proper.normal.tight.closed in
    by_last (old.vars + 1) p hp
    (λ ep. by_last (old.vars + 1) q hq
    (λ eq. let e = extended_both old.bounds (old.vars + 1) p q ep eq in let s = n.topped p q (omega (arith, same)) (omega (arith, same)) in let t = top_same p q (omega arith) in omega (arith, ints))
    (λ lq. let e = extended_from old.bounds (old.vars + 1) p q ep lq in let s = n.topped p 0 (omega (arith, same)) (omega arith) in let t = top_to_zero p (omega arith) in
    let path = closed.paths p 0 q (omega (arith, same)) (omega arith) (omega (arith, same)) in let b = tight.bounds 0 q (omega arith) (omega arith) in omega (arith, ints)))
    (λ lp. by_last (old.vars + 1) q hq
    (λ eq. let e = extended_to old.bounds (old.vars + 1) p q lp eq in let s = n.topped 0 q (omega arith) (omega (arith, same)) in let t = top_from_zero q (omega arith) in
    let path = closed.paths p 0 q (omega (arith, same)) (omega arith) (omega (arith, same)) in let b = tight.bounds p 0 (omega arith) (omega arith) in omega (arith, ints))
    (λ lq. let e = extended_old old.bounds (old.vars + 1) p q lp lq in let b = tight.bounds p q (omega arith) (omega arith) in omega (arith, ints)))

-- one variable more, with the bounds that words keep
pub extended_confines : (old new : Zone) → new.vars ≡ old.vars + 1 → IsFalse old.bottom → IsFalse new.bottom → new.marks ≡ old.marks →
    IsTableBy (λ i j b. b ≡ extended_bound old.bounds (old.vars + 1) i j) (old.vars + 1) new.bounds → Confines (old.vars + 1) (λ n. Unit {0}) old new
extended_confines old new vars up up' marks table = record {
  vars = vars;
  within = λ n same proper tight. record {
    not_bottom = up;
    bounds = λ p q hp hq.
        let t = tight.bounds p q (omega (arith, vars)) (omega (arith, vars)) in
        let e = table.at p q (omega arith) (omega arith) in
        let e' = extended_old old.bounds (old.vars + 1) p q (omega arith) (omega arith) in
        omega (arith, ints);
    marks = λ p from hp marked. tight.marks p from (omega (arith, vars)) (let P : List Bool → Type 0 = λ l. IsMarkedIn l p in subst P (sym marks) marked);
  };
  has = λ n same proper tight. tt;
  all = λ n same proper tight h. record {
    not_bottom = up';
    bounds = λ p q hp hq.
        let e = table.at p q (omega (arith, vars)) (omega (arith, vars)) in
        let below = extended_above old n p q same proper tight (omega (arith, vars)) (omega (arith, vars)) in
        omega (arith, ints);
    marks = λ p from hp marked.
        let marked' : IsMarkedIn old.marks p = (let P : List Bool → Type 0 = λ l. IsMarkedIn l p in subst P marks marked) in
        tight.marks p from (old.variables p marked').1 marked';
  };
  closed = λ h up''. let P : ℕ → Type 0 = λ v. IsClosed (bound_at new.bounds) v in subst P (sym vars) (extended_closed old.bounds new.bounds (old.vars + 1) (omega arith) (let Q : ℕ → Type 0 = λ v. IsClosed (bound_at old.bounds) v in subst Q (omega arith) (h up)) table);
}
