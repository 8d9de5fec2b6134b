-- The state of one point: its bounds are the differences of the values, and its marks the values other than 0.
use Rattle.std.proofs.Common.{◌∙◌, ◌≡◌, ◌≢◌, ◌⊎◌, ◌↔◌, ◌&&◌, ℕ, zero, suc, ◌+◌, ◌*◌, ◌/◌, ◌%◌, ◌≤◌, ◌<◌, ℤ, pos, negsuc, ◌-ℤ◌, ◌≤ℤ◌, ◌<ℤ◌, List, [], ◌∷◌, get_or, length, Bool, true, false, IsTrue, IsFalse, FitsSigned, arith, rules, inl, inr, ⊎_elim, ap, refl}
use Rattle.std.specs.Prelude.{nat_le}
use Rattle.std.specs.Int.{w64}
use Rattle.std.proofs.lemmas.Int.{ints}
use Rattle.std.proofs.lemmas.Bool.{cases_eq, cases_lt}
use Rattle.vmv_zone.specs.declared.zone.Zone.{Zone}
use Rattle.vmv_zone.specs.Bounds.{IsInReach, AreInReach, bound_at, top_bound, inner_bound, IsMarkedIn}
use Rattle.vmv_zone.specs.Zone.{bound_of, IsMarked, HasPoint, IsTighter, IsNormal}

-- f of each number from s on, n of them
tab : {A : Type 0} → (ℕ → A) → ℕ → ℕ → List A
tab f s zero = []
tab f s (suc n) = f s ∷ tab f (suc s) n

tab_length : {A : Type 0} (f : ℕ → A) (s n : ℕ) → length (tab f s n) ≡ n
unfolding tab
tab_length f s zero = refl
tab_length f s (suc n) = ap suc (tab_length f (suc s) n)

tab_at : {A : Type 0} (f : ℕ → A) (s n k : ℕ) (d : A) → k < n → get_or (tab f s n) k d ≡ f (s + k)
unfolding tab
tab_at f s zero k d h = absurd (omega arith)
tab_at f s (suc n) zero d h = ap f (omega arith)
tab_at f s (suc n) (suc k) d h = tab_at f (suc s) n k d (omega arith) ∙ ap f (omega arith)

tab_past : {A : Type 0} (f : ℕ → A) (s n k : ℕ) (d : A) → n ≤ k → get_or (tab f s n) k d ≡ d
unfolding tab
tab_past f s zero k d h = refl
tab_past f s (suc n) zero d h = absurd (omega arith)
tab_past f s (suc n) (suc k) d h = tab_past f (suc s) n k d (omega arith)

abbrev cell : ℕ → (ℕ → ℤ) → ℕ → ℕ → ℤ
cell v p i j = inner_bound v i (inner_bound v j (p i -ℤ p j))

abbrev cells : ℕ → (ℕ → ℤ) → List ℤ
cells v p = tab (λ k. cell v p (k / 18) (k % 18)) 0 324

abbrev off_zero : ℤ → Bool
off_zero (pos zero) = false
off_zero (pos (suc n)) = true
off_zero (negsuc n) = true

off_zero_iff : (z : ℤ) → IsTrue (off_zero z) ↔ (z ≢ pos 0)
off_zero_iff (pos zero) = ((λ t. absurd (search rules)), (λ n. absurd (n refl)))
off_zero_iff (pos (suc n)) = ((λ t e. absurd (omega (arith, ints))), (λ n. search rules))
off_zero_iff (negsuc n) = ((λ t e. absurd (omega (arith, ints))), (λ n. search rules))

abbrev flag : ℕ → (ℕ → ℤ) → ℕ → Bool
flag v p i = nat_le 1 i && (nat_le i v && off_zero (p i))

abbrev flags : ℕ → (ℕ → ℤ) → List Bool
flags v p = tab (flag v p) 0 18

inner_is : (v j : ℕ) (b : ℤ) → j ≤ v → inner_bound v j b ≡ b
inner_is v j b h = grind arith

outer_is : (v j : ℕ) (b : ℤ) → v < j → inner_bound v j b ≡ pos 0
outer_is v j b h = grind arith

cell_is : (v : ℕ) (p : ℕ → ℤ) (i j : ℕ) → i ≤ v → j ≤ v → cell v p i j ≡ p i -ℤ p j
cell_is v p i j hi hj = inner_is v i _ hi ∙ inner_is v j _ hj

cell_out : (v : ℕ) (p : ℕ → ℤ) (i j : ℕ) → (v < i) ⊎ (v < j) → cell v p i j ≡ pos 0
cell_out v p i j out = ⊎_elim
    (λ (past : v < i). outer_is v i _ past)
    (λ (past : v < j). let zero_is : inner_bound v j (p i -ℤ p j) ≡ pos 0 = outer_is v j (p i -ℤ p j) past in rw zero_is (grind arith))
    out

cells_at : (v : ℕ) (p : ℕ → ℤ) (i j : ℕ) → i < 18 → j < 18 → bound_at (cells v p) i j ≡ cell v p i j
cells_at v p i j hi hj =
    let at = tab_at (λ k. cell v p (k / 18) (k % 18)) 0 324 (18 * i + j) (pos 0) (omega arith) in
    let row : (0 + (18 * i + j)) / 18 ≡ i = omega arith in
    let column : (0 + (18 * i + j)) % 18 ≡ j = omega arith in
    rw (row, column) at at

-- words keep top's bounds
top_point : (p : ℕ → ℤ) (i j : ℕ) → p 0 ≡ pos 0 → FitsSigned w64 (p i) → FitsSigned w64 (p j) → (p i -ℤ p j) ≤ℤ top_bound i j
top_point p i j origin fits fits' =
    ⊎_elim
    (λ (same : i ≡ j). rw same (grind (arith, ints)))
    (λ (differ : i ≢ j). ⊎_elim
    (λ (at_zero : j ≡ 0). grind (arith, ints))
    (λ (off_zero : j ≢ 0). ⊎_elim (λ (at : i ≡ 0). grind (arith, ints)) (λ (off : i ≢ 0). grind (arith, ints)) (cases_eq i 0))
    (cases_eq j 0))
    (cases_eq i j)

inside_or_out : (v i j : ℕ) → ((i ≤ v) × (j ≤ v)) ⊎ ((v < i) ⊎ (v < j))
inside_or_out v i j = ⊎_elim (λ (past : v < i). inr (inl past)) (λ (within : i ≤ v). ⊎_elim (λ (past : v < j). inr (inr past)) (λ (within' : j ≤ v). inl (within, within')) (cases_lt v j)) (cases_lt v i)

cell_reach : (v : ℕ) (p : ℕ → ℤ) (i j : ℕ) → ((k : ℕ) → k ≤ v → FitsSigned w64 (p k)) → IsInReach (cell v p i j)
cell_reach v p i j words = ⊎_elim
    (λ (inside : (i ≤ v) × (j ≤ v)). let a = words i inside.0 in let b = words j inside.1 in rw (cell_is v p i j inside.0 inside.1) (record { low = omega (arith, ints); high = omega (arith, ints) }))
    (λ (out : (v < i) ⊎ (v < j)). rw (cell_out v p i j out) (record { low = omega (arith, ints); high = omega (arith, ints) }))
    (inside_or_out v i j)

cells_reach : (v : ℕ) (p : ℕ → ℤ) → ((k : ℕ) → k ≤ v → FitsSigned w64 (p k)) → AreInReach (cells v p)
cells_reach v p words k = ⊎_elim
    (λ (inside : k < 324). rw (tab_at (λ k. cell v p (k / 18) (k % 18)) 0 324 k (pos 0) inside) (cell_reach v p ((0 + k) / 18) ((0 + k) % 18) words))
    (λ (past : 324 ≤ k). rw (tab_past (λ k. cell v p (k / 18) (k % 18)) 0 324 k (pos 0) past) (record { low = omega (arith, ints); high = omega (arith, ints) }))
    (cases_lt k 324)

le_tests : (a b : ℕ) → IsTrue (nat_le a b) ↔ (a ≤ b)
le_tests a b = ((λ t. grind arith), (λ h. grind arith))

both_true : (x y : Bool) → IsTrue (x && y) → IsTrue x × IsTrue y
both_true true y h = (search rules, h)
both_true false y h = absurd (search rules)

true_both : (x y : Bool) → IsTrue x → IsTrue y → IsTrue (x && y)
true_both true y h k = k
true_both false y h k = absurd (search rules)

flag_iff : (v : ℕ) (p : ℕ → ℤ) (i : ℕ) → IsTrue (flag v p i) ↔ ((1 ≤ i) × ((i ≤ v) × (p i ≢ pos 0)))
flag_iff v p i = (
  (λ t.
      let one = both_true (nat_le 1 i) (nat_le i v && off_zero (p i)) t in
      let two = both_true (nat_le i v) (off_zero (p i)) one.1 in
      ((le_tests 1 i).0 one.0, ((le_tests i v).0 two.0, (off_zero_iff (p i)).0 two.1))),
  (λ h. true_both (nat_le 1 i) (nat_le i v && off_zero (p i)) ((le_tests 1 i).1 h.0)
      (true_both (nat_le i v) (off_zero (p i)) ((le_tests i v).1 h.1.0) ((off_zero_iff (p i)).1 h.1.1))),
)

flags_at : (v : ℕ) (p : ℕ → ℤ) (i : ℕ) → v ≤ 17 → IsMarkedIn (flags v p) i ↔ ((1 ≤ i) × ((i ≤ v) × (p i ≢ pos 0)))
flags_at v p i few = ⊎_elim
    (λ (inside : i < 18).
    let e : 0 + i ≡ i = omega arith in
    let at : get_or (flags v p) i false ≡ flag v p i = tab_at (flag v p) 0 18 i false inside ∙ ap (flag v p) e in
    rw at (flag_iff v p i))
    (λ (past : 18 ≤ i).
    let at : get_or (flags v p) i false ≡ false = tab_past (flag v p) 0 18 i false past in
    rw at ((λ t. absurd (search rules)), (λ h. absurd (let few' = h.1.0 in omega arith))))
    (cases_lt i 18)

-- the state of the point p over v variables
pub record PointState (v : ℕ) (p : ℕ → ℤ) : Type 0 where
  pub state : Zone
  pub vars : state.vars ≡ v
  pub up : IsFalse state.bottom
  pub bounds : (i j : ℕ) → i ≤ v → j ≤ v → bound_of state i j ≡ p i -ℤ p j
  pub marks : (i : ℕ) → 1 ≤ i → i ≤ v → IsMarked state i ↔ (p i ≢ pos 0)

pub point_state : (v : ℕ) (p : ℕ → ℤ) → v ≤ 17 → p 0 ≡ pos 0 → ((k : ℕ) → k ≤ v → FitsSigned w64 (p k)) → PointState v p
point_state v p few origin words = record {
  state = record {
    vars = v;
    bottom = false;
    bounds = cells v p;
    marks = flags v p;
    few = few;
    full = tab_length (λ k. cell v p (k / 18) (k % 18)) 0 324;
    reach = cells_reach v p words;
    topped = λ i j hi hj. rw (cells_at v p i j (omega arith) (omega arith), cell_is v p i j hi hj) (top_point p i j origin (words i hi) (words j hj));
    outside = λ i j hi hj out. cells_at v p i j hi hj ∙ cell_out v p i j out;
    sized = tab_length (flag v p) 0 18;
    variables = λ i marked. let h = (flags_at v p i few).0 marked in (h.0, h.1.0);
    emptied = λ t. absurd (search rules);
  };
  vars = refl;
  up = search rules;
  bounds = λ i j hi hj. cells_at v p i j (omega arith) (omega arith) ∙ cell_is v p i j hi hj;
  marks = λ i from hi. ((λ m. ((flags_at v p i few).0 m).1.1), (λ n. (flags_at v p i few).1 (from, (hi, n))));
}

pub point_normal : {v : ℕ} {p : ℕ → ℤ} (s : PointState v p) → p 0 ≡ pos 0 → IsNormal s.state
point_normal {v = v} {p = p} s origin up = record {
  tight = record {
    closed = record {
      self = λ i hi. let e = s.bounds i i (omega (arith, s.vars)) (omega (arith, s.vars)) in omega (arith, ints);
      paths = λ i j k hi hj hk.
          let a = s.bounds i k (omega (arith, s.vars)) (omega (arith, s.vars)) in
          let b = s.bounds i j (omega (arith, s.vars)) (omega (arith, s.vars)) in
          let d = s.bounds j k (omega (arith, s.vars)) (omega (arith, s.vars)) in omega (arith, ints);
    };
    upper = λ i from hi marked zero_is. (s.marks i from (omega (arith, s.vars))).0 marked
        (let e = s.bounds i 0 (omega (arith, s.vars)) (omega arith) in omega (arith, ints));
    lower = λ i from hi marked zero_is. (s.marks i from (omega (arith, s.vars))).0 marked
        (let e = s.bounds 0 i (omega arith) (omega (arith, s.vars)) in omega (arith, ints));
  };
  marked = λ i from hi out. (s.marks i from (omega (arith, s.vars))).1
      (λ zero_is.
      let e = s.bounds i 0 (omega (arith, s.vars)) (omega arith) in
      let e' = s.bounds 0 i (omega arith) (omega (arith, s.vars)) in
      ⊎_elim (λ (l : bound_of s.state i 0 <ℤ pos 0). omega (arith, ints)) (λ (l : bound_of s.state 0 i <ℤ pos 0). omega (arith, ints)) out);
}

-- a point of a state is one whose own state is below it
pub point_below : {v : ℕ} {p : ℕ → ℤ} (s : PointState v p) (z : Zone) → z.vars ≤ v → HasPoint z p → IsTighter s.state z
point_below s z few point = record {
  not_bottom = point.not_bottom;
  bounds = λ i j hi hj. let e = s.bounds i j (omega arith) (omega arith) in let h = point.bounds i j hi hj in omega (arith, ints);
  marks = λ i from hi marked. (s.marks i from (omega arith)).1 (point.marks i from hi marked);
}

pub below_point : {v : ℕ} {p : ℕ → ℤ} (s : PointState v p) (z : Zone) → z.vars ≡ v → p 0 ≡ pos 0 → ((k : ℕ) → k ≤ v → FitsSigned w64 (p k)) → IsTighter s.state z → HasPoint z p
below_point s z same origin words tight = record {
  not_bottom = tight.not_bottom;
  zero = origin;
  words = λ i hi. words i (omega arith);
  bounds = λ i j hi hj. let e = s.bounds i j (omega arith) (omega arith) in let h = tight.bounds i j hi hj in omega (arith, ints);
  marks = λ i from hi marked. (s.marks i from (omega arith)).0 (tight.marks i from hi marked);
}
