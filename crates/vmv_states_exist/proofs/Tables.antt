-- The state that has the bounds and marks of a table.
use Rattle.std.proofs.Common.{◌≡◌, ◌⊎◌, ◌↔◌, ◌&&◌, ℕ, zero, suc, ◌+◌, ◌*◌, ◌/◌, ◌%◌, ◌≤◌, ◌<◌, ℤ, pos, ◌≤ℤ◌, List, [], ◌∷◌, get_or, length, Bool, true, false, IsTrue, IsFalse, arith, rules, inl, inr, ⊎_elim, ap, refl, ◌∙◌}
use Rattle.std.specs.Prelude.{nat_le}
use Rattle.std.proofs.lemmas.Int.{ints}
use Rattle.std.proofs.lemmas.Bool.{cases_lt}
use Rattle.vmv_zone.specs.declared.zone.Zone.{Zone}
use Rattle.vmv_zone.specs.Bounds.{IsInReach, AreInReach, bound_at, top_bound, inner_bound, IsMarkedIn}
use Rattle.vmv_zone.specs.Zone.{bound_of, mark_of, IsMarked}
use Rattle.vmv_states_exist.proofs.Lists.{both_is}

-- f of each number from s on, n of them
tab : {A : Type 0} → (ℕ → A) → ℕ → ℕ → List A
tab f s zero = []
tab f s (suc n) = f s ∷ tab f (suc s) n

tab_length : {A : Type 0} (f : ℕ → A) (s n : ℕ) → length (tab f s n) ≡ n
unfolding tab
tab_length f s zero = refl
tab_length f s (suc n) = ap suc (tab_length f (suc s) n)

tab_at : {A : Type 0} (f : ℕ → A) (s n k : ℕ) (d : A) → k < n → get_or (tab f s n) k d ≡ f (s + k)
unfolding tab
tab_at f s zero k d h = absurd (omega arith)
tab_at f s (suc n) zero d h = ap f (omega arith)
tab_at f s (suc n) (suc k) d h = tab_at f (suc s) n k d (omega arith) ∙ ap f (omega arith)

tab_past : {A : Type 0} (f : ℕ → A) (s n k : ℕ) (d : A) → n ≤ k → get_or (tab f s n) k d ≡ d
unfolding tab
tab_past f s zero k d h = refl
tab_past f s (suc n) zero d h = absurd (omega arith)
tab_past f s (suc n) (suc k) d h = tab_past f (suc s) n k d (omega arith)

abbrev cell : (ℕ → ℕ → ℤ) → ℕ → ℕ → ℕ → ℤ
cell f v i j = inner_bound v i (inner_bound v j (f i j))

abbrev cells : (ℕ → ℕ → ℤ) → ℕ → List ℤ
cells f v = tab (λ k. cell f v (k / 18) (k % 18)) 0 324

inner_is : (v j : ℕ) (b : ℤ) → j ≤ v → inner_bound v j b ≡ b
inner_is v j b h = grind arith

outer_is : (v j : ℕ) (b : ℤ) → v < j → inner_bound v j b ≡ pos 0
outer_is v j b h = grind arith

cell_is : (f : ℕ → ℕ → ℤ) (v i j : ℕ) → i ≤ v → j ≤ v → cell f v i j ≡ f i j
cell_is f v i j hi hj = inner_is v i _ hi ∙ inner_is v j _ hj

cell_out : (f : ℕ → ℕ → ℤ) (v i j : ℕ) → (v < i) ⊎ (v < j) → cell f v i j ≡ pos 0
cell_out f v i j out = ⊎_elim
    (λ (past : v < i). outer_is v i _ past)
    (λ (past : v < j). let zero_is : inner_bound v j (f i j) ≡ pos 0 = outer_is v j (f i j) past in rw zero_is (grind arith))
    out

cells_at : (f : ℕ → ℕ → ℤ) (v i j : ℕ) → i < 18 → j < 18 → bound_at (cells f v) i j ≡ cell f v i j
cells_at f v i j hi hj =
    let at = tab_at (λ k. cell f v (k / 18) (k % 18)) 0 324 (18 * i + j) (pos 0) (omega arith) in
    let row : (0 + (18 * i + j)) / 18 ≡ i = omega arith in
    let column : (0 + (18 * i + j)) % 18 ≡ j = omega arith in
    rw (row, column) at at

inside_or_out : (v i j : ℕ) → ((i ≤ v) × (j ≤ v)) ⊎ ((v < i) ⊎ (v < j))
inside_or_out v i j = ⊎_elim (λ (past : v < i). inr (inl past)) (λ (within : i ≤ v). ⊎_elim (λ (past : v < j). inr (inr past)) (λ (within' : j ≤ v). inl (within, within')) (cases_lt v j)) (cases_lt v i)

zero_reach : IsInReach (pos 0)
zero_reach = record { low = omega (arith, ints); high = omega (arith, ints) }

cell_reach : (f : ℕ → ℕ → ℤ) (v i j : ℕ) → ((i j : ℕ) → i ≤ v → j ≤ v → IsInReach (f i j)) → IsInReach (cell f v i j)
cell_reach f v i j reach = ⊎_elim
    (λ (inside : (i ≤ v) × (j ≤ v)). rw (cell_is f v i j inside.0 inside.1) (reach i j inside.0 inside.1))
    (λ (out : (v < i) ⊎ (v < j)). rw (cell_out f v i j out) zero_reach)
    (inside_or_out v i j)

cells_reach : (f : ℕ → ℕ → ℤ) (v : ℕ) → ((i j : ℕ) → i ≤ v → j ≤ v → IsInReach (f i j)) → AreInReach (cells f v)
cells_reach f v reach k = ⊎_elim
    (λ (inside : k < 324). rw (tab_at (λ k. cell f v (k / 18) (k % 18)) 0 324 k (pos 0) inside) (cell_reach f v ((0 + k) / 18) ((0 + k) % 18) reach))
    (λ (past : 324 ≤ k). rw (tab_past (λ k. cell f v (k / 18) (k % 18)) 0 324 k (pos 0) past) zero_reach)
    (cases_lt k 324)

le_tests : (a b : ℕ) → IsTrue (nat_le a b) ↔ (a ≤ b)
le_tests a b = ((λ t. grind arith), (λ h. grind arith))

-- the mark of i where it is a variable
abbrev flag : (ℕ → Bool) → ℕ → ℕ → Bool
flag m v i = nat_le 1 i && (nat_le i v && m i)

abbrev flags : (ℕ → Bool) → ℕ → List Bool
flags m v = tab (flag m v) 0 18

flag_iff : (m : ℕ → Bool) (v i : ℕ) → IsTrue (flag m v i) ↔ ((1 ≤ i) × ((i ≤ v) × IsTrue (m i)))
flag_iff m v i =
    let one = both_is (nat_le 1 i) (nat_le i v && m i) in
    let two = both_is (nat_le i v) (m i) in (
      (λ t. ((le_tests 1 i).0 (one.left t), ((le_tests i v).0 (two.left (one.right t)), two.right (one.right t)))),
      (λ h. one.both ((le_tests 1 i).1 h.0) (two.both ((le_tests i v).1 h.1.0) h.1.1)),
    )

flags_at : (m : ℕ → Bool) (v i : ℕ) → v ≤ 17 → IsMarkedIn (flags m v) i ↔ ((1 ≤ i) × ((i ≤ v) × IsTrue (m i)))
flags_at m v i few = ⊎_elim
    (λ (inside : i < 18).
    let e : 0 + i ≡ i = omega arith in
    let at : get_or (flags m v) i false ≡ flag m v i = tab_at (flag m v) 0 18 i false inside ∙ ap (flag m v) e in
    rw at (flag_iff m v i))
    (λ (past : 18 ≤ i).
    let at : get_or (flags m v) i false ≡ false = tab_past (flag m v) 0 18 i false past in
    rw at ((λ t. absurd (search rules)), (λ h. absurd (let few' = h.1.0 in omega arith))))
    (cases_lt i 18)

-- two facts that give one another are told by one Bool
pub same_truth : (a b : Bool) → (IsTrue a → IsTrue b) → (IsTrue b → IsTrue a) → a ≡ b
same_truth true true f g = refl
same_truth true false f g = absurd (let h = f refl in search rules)
same_truth false true f g = absurd (let h = g refl in search rules)
same_truth false false f g = refl

-- bounds that a state over so many variables can have
pub record AreBounds (f : ℕ → ℕ → ℤ) (v : ℕ) : Type 0 where
  pub reach : (i j : ℕ) → i ≤ v → j ≤ v → IsInReach (f i j)
  pub topped : (i j : ℕ) → i ≤ v → j ≤ v → f i j ≤ℤ top_bound i j

-- the state that has the bounds and the marks
pub record Table (f : ℕ → ℕ → ℤ) (m : ℕ → Bool) (v : ℕ) : Type 0 where
  pub state : Zone
  pub vars : state.vars ≡ v
  pub up : IsFalse state.bottom
  pub bounds : (i j : ℕ) → i ≤ v → j ≤ v → bound_of state i j ≡ f i j
  pub marked : (i : ℕ) → IsMarked state i ↔ ((1 ≤ i) × ((i ≤ v) × IsTrue (m i)))

pub table : (f : ℕ → ℕ → ℤ) (m : ℕ → Bool) (v : ℕ) → v ≤ 17 → AreBounds f v → Table f m v
table f m v few is = record {
  state = record {
    vars = v;
    bottom = false;
    bounds = cells f v;
    marks = flags m v;
    few = few;
    full = tab_length (λ k. cell f v (k / 18) (k % 18)) 0 324;
    reach = cells_reach f v is.reach;
    topped = λ i j hi hj. rw (cells_at f v i j (omega arith) (omega arith), cell_is f v i j hi hj) (is.topped i j hi hj);
    outside = λ i j hi hj out. cells_at f v i j hi hj ∙ cell_out f v i j out;
    sized = tab_length (flag m v) 0 18;
    variables = λ i marked. let h = (flags_at m v i few).0 marked in (h.0, h.1.0);
    emptied = λ t. absurd (search rules);
  };
  vars = refl;
  up = refl;
  bounds = λ i j hi hj. cells_at f v i j (omega arith) (omega arith) ∙ cell_is f v i j hi hj;
  marked = λ i. flags_at m v i few;
}

-- the mark of a variable is that of the table
pub table_mark : {f : ℕ → ℕ → ℤ} {m : ℕ → Bool} {v : ℕ} (t : Table f m v) (i : ℕ) → 1 ≤ i → i ≤ v → mark_of t.state i ≡ m i
table_mark {m = m} t i from hi = same_truth (mark_of t.state i) (m i) (λ h. ((t.marked i).0 h).1.1) (λ h. (t.marked i).1 (from, (hi, h)))
