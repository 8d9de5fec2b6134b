-- The join of two states, by its bounds and marks.
use Rattle.std.proofs.Common.{◌∙◌, ◌≡◌, ◌≢◌, ◌⊎◌, ◌↔◌, ℕ, ◌+◌, ◌*◌, ◌<◌, ◌≤◌, ℤ, pos, ◌<ℤ◌, List, get_or, IsTrue, IsFalse, arith, rules, refl, sym, ⊎_elim, inl, inr}
use Rattle.std.specs.Int.{int_max}
use Rattle.std.proofs.lemmas.Int.{ints, clamps}
use Rattle.std.proofs.lemmas.Bool.{cases_lt}
use Rattle.vmv_zone.specs.declared.zone.Zone.{Zone}
use Rattle.vmv_zone.specs.Bounds.{bound_at, AreInReach, AreUnderTop, AreZeroOutside, IsMarkedIn}
use Rattle.vmv_zone.specs.Zone.{IsJoin, HasNormalBounds}

max_is : (a b : ℤ) → (int_max a b ≡ a) ⊎ (int_max a b ≡ b)
max_is a b = grind (arith, ints)

-- the bounds of so many things are the greater ones, and the others are as they were
pub record AreRaised (vars : ℕ) (old other new : List ℤ) : Type 0 where
  pub raised : (k : ℕ) → k < 18 * (vars + 1) → get_or new k (pos 0) ≡ int_max (get_or old k (pos 0)) (get_or other k (pos 0))
  pub others : (k : ℕ) → 18 * (vars + 1) ≤ k → get_or new k (pos 0) ≡ get_or old k (pos 0)

pub raised_at : (vars : ℕ) (old other new : List ℤ) (i j : ℕ) → i ≤ vars → j < 18 → AreRaised vars old other new → bound_at new i j ≡ int_max (bound_at old i j) (bound_at other i j)
raised_at vars old other new i j hi hj raised = raised.raised (18 * i + j) (omega arith)

pub raised_reach : (vars : ℕ) (old other new : List ℤ) → AreInReach old → AreInReach other → AreRaised vars old other new → AreInReach new
raised_reach vars old other new reach reach' raised k = ⊎_elim
    (λ (here : k < 18 * (vars + 1)).
    let e = raised.raised k here in
    let a = reach k in let b = reach' k in
    let al = a.low in let ah = a.high in let bl = b.low in let bh = b.high in
    record { low = omega (arith, ints, clamps); high = omega (arith, ints, clamps) })
    (λ (past : 18 * (vars + 1) ≤ k). let e = raised.others k past in let a = reach k in let al = a.low in let ah = a.high in record { low = omega (arith, ints); high = omega (arith, ints) })
    (cases_lt k (18 * (vars + 1)))

pub raised_top : (vars : ℕ) (old other new : List ℤ) → vars ≤ 17 → AreUnderTop vars old → AreUnderTop vars other → AreRaised vars old other new → AreUnderTop vars new
raised_top vars old other new few top top' raised i j hi hj =
    let e = raised_at vars old other new i j hi (omega arith) raised in
    let a = top i j hi hj in let b = top' i j hi hj in
    omega (arith, ints, clamps)

pub raised_outside : (vars : ℕ) (old other new : List ℤ) → AreZeroOutside vars old → AreZeroOutside vars other → AreRaised vars old other new → AreZeroOutside vars new
raised_outside vars old other new zero zero' raised i j hi hj out = ⊎_elim
    (λ (here : i ≤ vars). let e = raised_at vars old other new i j here hj raised in let a = zero i j hi hj out in let b = zero' i j hi hj out in omega (arith, ints, clamps))
    (λ (past : vars < i). raised.others (18 * i + j) (omega arith) ∙ zero i j hi hj out)
    (⊎_elim (λ (l : vars < i). inr l) (λ (l : i ≤ vars). inl l) (cases_lt vars i))

pub joined_of : (a b j : Zone) → a.vars ≡ b.vars → j.vars ≡ a.vars → IsFalse a.bottom → IsFalse b.bottom → IsFalse j.bottom → AreRaised a.vars a.bounds b.bounds j.bounds →
    ((i : ℕ) → IsMarkedIn j.marks i ↔ (IsMarkedIn a.marks i × IsMarkedIn b.marks i)) → IsJoin a b j
joined_of a b j same vars up_a up_b up_j raised shared = record {
  vars = vars;
  left = λ up. record {
    not_bottom = up_j;
    bounds = λ p q hp hq. let e = raised_at a.vars a.bounds b.bounds j.bounds p q (omega (arith, vars)) (omega (arith, vars, a.few)) raised in omega (arith, ints, clamps);
    marks = λ i from hi marked. ((shared i).0 marked).0;
  };
  right = λ up. record {
    not_bottom = up_j;
    bounds = λ p q hp hq. let e = raised_at a.vars a.bounds b.bounds j.bounds p q (omega (arith, vars)) (omega (arith, vars, a.few)) raised in omega (arith, ints, clamps);
    marks = λ i from hi marked. ((shared i).0 marked).1;
  };
  least = λ n count left right up.
      let one = left up_a in
      let two = right up_b in
      record {
        not_bottom = one.not_bottom;
        bounds = λ p q hp hq.
            let x = one.bounds p q hp hq in
            let y = two.bounds p q hp hq in
            let e = raised_at a.vars a.bounds b.bounds j.bounds p q (omega (arith, count)) (omega (arith, count, a.few)) raised in
            omega (arith, ints, clamps);
        marks = λ i from hi marked. (shared i).1 (one.marks i from hi marked, two.marks i from hi marked);
      };
}

-- the join of normal states is normal
pub joined_normal : (a b j : Zone) → a.vars ≡ b.vars → j.vars ≡ a.vars → AreRaised a.vars a.bounds b.bounds j.bounds →
    ((i : ℕ) → IsMarkedIn j.marks i ↔ (IsMarkedIn a.marks i × IsMarkedIn b.marks i)) → HasNormalBounds a → HasNormalBounds b → HasNormalBounds j
joined_normal a b j same vars raised shared one two =
    let at : (p q : ℕ) → p ≤ j.vars → q ≤ j.vars → bound_at j.bounds p q ≡ int_max (bound_at a.bounds p q) (bound_at b.bounds p q) =
    λ p q hp hq. raised_at a.vars a.bounds b.bounds j.bounds p q (omega (arith, vars)) (omega (arith, vars, a.few)) raised in
    let off : (p q : ℕ) → p ≤ j.vars → q ≤ j.vars → bound_at a.bounds p q ≢ pos 0 → bound_at b.bounds p q ≢ pos 0 → bound_at j.bounds p q ≢ pos 0 =
    λ p q hp hq x y. let e = at p q hp hq in λ z. ⊎_elim (λ (l : int_max (bound_at a.bounds p q) (bound_at b.bounds p q) ≡ bound_at a.bounds p q). x (sym l ∙ sym e ∙ z))
    (λ (l : int_max (bound_at a.bounds p q) (bound_at b.bounds p q) ≡ bound_at b.bounds p q). y (sym l ∙ sym e ∙ z)) (max_is (bound_at a.bounds p q) (bound_at b.bounds p q)) in
    record {
      tight = record {
        closed = record {
          self = λ i hi. let e = at i i hi hi in let x = one.tight.closed.self i (omega (arith, vars)) in let y = two.tight.closed.self i (omega (arith, vars, same)) in omega (arith, ints, clamps);
          paths = λ i m k hi hm hk.
              let ik = at i k hi hk in let im = at i m hi hm in let mk = at m k hm hk in
              let x = one.tight.closed.paths i m k (omega (arith, vars)) (omega (arith, vars)) (omega (arith, vars)) in
              let y = two.tight.closed.paths i m k (omega (arith, vars, same)) (omega (arith, vars, same)) (omega (arith, vars, same)) in
              omega (arith, ints, clamps);
        };
        upper = λ i from hi marked. let both = (shared i).0 marked in off i 0 hi (omega arith) (one.tight.upper i from (omega (arith, vars)) both.0) (two.tight.upper i from (omega (arith, vars, same)) both.1);
        lower = λ i from hi marked. let both = (shared i).0 marked in off 0 i (omega arith) hi (one.tight.lower i from (omega (arith, vars)) both.0) (two.tight.lower i from (omega (arith, vars, same)) both.1);
      };
      marked = λ i from hi out. (shared i).1 (
        one.marked i from (omega (arith, vars)) (⊎_elim
            (λ (l : bound_at j.bounds i 0 <ℤ pos 0). let e = at i 0 hi (omega arith) in inl (omega (arith, ints, clamps)))
            (λ (l : bound_at j.bounds 0 i <ℤ pos 0). let e = at 0 i (omega arith) hi in inr (omega (arith, ints, clamps)))
            out),
        two.marked i from (omega (arith, vars, same)) (⊎_elim
            (λ (l : bound_at j.bounds i 0 <ℤ pos 0). let e = at i 0 hi (omega arith) in inl (omega (arith, ints, clamps)))
            (λ (l : bound_at j.bounds 0 i <ℤ pos 0). let e = at 0 i (omega arith) hi in inr (omega (arith, ints, clamps)))
            out),
      );
    }

pub join_right_bottom : (a b : Zone) → a.vars ≡ b.vars → IsTrue b.bottom → IsJoin a b a
join_right_bottom a b same none = record {
  vars = refl;
  left = λ up. record { not_bottom = up; bounds = λ i j hi hj. omega (arith, ints); marks = λ i from hi marked. marked };
  right = λ up. absurd (search rules);
  least = λ n count left right. left;
}

pub join_left_bottom : (a b : Zone) → a.vars ≡ b.vars → IsTrue a.bottom → IsJoin a b b
join_left_bottom a b same none = record {
  vars = sym same;
  left = λ up. absurd (search rules);
  right = λ up. record { not_bottom = up; bounds = λ i j hi hj. omega (arith, ints); marks = λ i from hi marked. marked };
  least = λ n count left right. right;
}
