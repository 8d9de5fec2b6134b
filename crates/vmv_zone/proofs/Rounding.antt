-- Bounds raised to thresholds.
use Rattle.std.proofs.Common.{◌∙◌, ◌≡◌, ◌≢◌, ◌^◌, ◌-◌, ℕ, ◌≤◌, ◌<◌, ℤ, pos, ◌≤ℤ◌, ◌<ℤ◌, List, length, get_or, IsTrue, IsFalse, arith, rules, ⊎_elim, sym, subst, refl}
use Rattle.std.specs.Prelude.{int_lt, true, false}
use Rattle.std.specs.List.{Contains}
use Rattle.std.specs.List.Sorted.{IsPartitionedBy, IsPartitionPoint}
use Rattle.std.proofs.lemmas.Int.{ints}
use Rattle.std.proofs.lemmas.List.{get_or_default}
use Rattle.std.proofs.lemmas.List.Elements.{Contains-get_or}
use Rattle.std.proofs.lemmas.Bool.{cases_eq, cases_lt}
use Rattle.vmv_zone.specs.declared.zone.Zone.{Zone}
use Rattle.vmv_zone.specs.Bounds.{IsInReach, IsTableBy, top_bound}
use Rattle.vmv_zone.specs.Zone.{bound_of}
use Rattle.vmv_zone.specs.Round.{AreSorted, IsLeastFrom, IsRounded}

-- the number at a place of the list, whatever stands past its end
at_place : (ts : List ℤ) (k : ℕ) (u : ℤ) → k < length ts → get_or ts k u ≡ u → get_or ts k (pos 0) ≡ u
at_place ts k u inside e = get_or_default ts k (pos 0) u inside ∙ e

pub none_left : (ts : List ℤ) (b : ℤ) (n : ℕ) → ((k : ℕ) → k < n → get_or ts k (pos 0) <ℤ b) → length ts ≤ n → Contains ts (pos (2 ^ 64 - 1)) → b ≤ℤ pos (2 ^ 64 - 1) → ⊥
none_left ts b n below all most high =
    let k = most.0 in
    let inside = most.1 in
    let e = at_place ts most.0 (pos (2 ^ 64 - 1)) most.1 most.2 in
    let less = below most.0 (omega arith) in
    omega (arith, ints)

pub found_least : (ts : List ℤ) (b : ℤ) (i : ℕ) → ((k : ℕ) → k < i → get_or ts k (pos 0) <ℤ b) → i < length ts → b ≤ℤ get_or ts i (pos 0) → AreSorted ts → IsLeastFrom ts b (get_or ts i (pos 0))
found_least ts b i below inside above sorted = record {
  one = Contains-get_or ts i (pos 0) inside;
  above = above;
  least = λ u held more.
      let e = at_place ts held.0 u held.1 held.2 in
      ⊎_elim
      (λ (before : held.0 < i). let less = below held.0 before in absurd (omega (arith, ints)))
      (λ (after : i ≤ held.0). let order = sorted i held.0 (pos 0) after held.1 in omega (arith, ints))
      (cases_lt held.0 i);
}

lt_true : (a b : ℤ) → int_lt a b ≡ true → a <ℤ b
lt_true a b h = grind (arith, ints)

lt_false : (a b : ℤ) → int_lt a b ≡ false → b ≤ℤ a
lt_false a b h = grind (arith, ints)

lt_less : (a b n : ℤ) → a ≤ℤ b → int_lt b n ≡ true → int_lt a n ≡ true
lt_less a b n order less = let l = lt_true b n less in grind (arith, ints)

-- in order, the numbers less than b come first
pub lesser_first : (ts : List ℤ) (b : ℤ) → AreSorted ts → IsPartitionedBy (λ t. int_lt t b) ts
lesser_first ts b sorted i j d order inside less = lt_less _ _ b (sorted i j d order inside) less

-- the first number after those less than b
pub first_from : (ts : List ℤ) (b : ℤ) (n : ℕ) → IsPartitionPoint (λ t. int_lt t b ≡ true) (λ t. int_lt t b ≡ false) ts n → AreSorted ts → Contains ts (pos (2 ^ 64 - 1)) → b ≤ℤ pos (2 ^ 64 - 1) →
    (n < length ts) × IsLeastFrom ts b (get_or ts n (pos 0))
first_from ts b n point sorted most high =
    let below : (k : ℕ) → k < n → get_or ts k (pos 0) <ℤ b = λ k h. lt_true _ b (point.0 k (pos 0) (omega arith) h) in
    ⊎_elim
    (λ (inside : n < length ts). (inside, found_least ts b n below inside (lt_false _ b (point.1 n (pos 0) (omega arith) inside)) sorted))
    (λ (past : length ts ≤ n). absurd (none_left ts b n below past most high))
    (cases_lt n (length ts))

pub least_reach : (ts : List ℤ) (b t : ℤ) → IsInReach b → Contains ts (pos (2 ^ 64 - 1)) → IsLeastFrom ts b t → IsInReach t
least_reach ts b t reach most least =
    let a = least.above in
    let l = reach.low in
    let h = reach.high in
    let g = least.least (pos (2 ^ 64 - 1)) most h in
    record { low = omega (arith, ints); high = omega (arith, ints) }

top_self : (i j : ℕ) → i ≡ j → top_bound i j ≡ pos 0
top_self i j h = grind arith

top_high : (i j : ℕ) → i ≢ j → j ≡ 0 → top_bound i j ≡ pos (2 ^ 63 - 1)
top_high i j h k = grind arith

top_low : (i j : ℕ) → i ≢ j → j ≢ 0 → i ≡ 0 → top_bound i j ≡ pos (2 ^ 63)
top_low i j h k l = grind arith

top_most : (i j : ℕ) → i ≢ j → j ≢ 0 → i ≢ 0 → top_bound i j ≡ pos (2 ^ 64 - 1)
top_most i j h k l = grind arith

top_held : (ts : List ℤ) (i j : ℕ) → Contains ts (pos 0) → Contains ts (pos (2 ^ 63 - 1)) → Contains ts (pos (2 ^ 63)) → Contains ts (pos (2 ^ 64 - 1)) → Contains ts (top_bound i j)
top_held ts i j zero high low most =
    let P : ℤ → Type 0 = λ b. Contains ts b in
    ⊎_elim
    (λ (same : i ≡ j). subst P (sym (top_self i j same)) zero)
    (λ (differ : i ≢ j). ⊎_elim
    (λ (at : j ≡ 0). subst P (sym (top_high i j differ at)) high)
    (λ (off : j ≢ 0). ⊎_elim (λ (at : i ≡ 0). subst P (sym (top_low i j differ off at)) low) (λ (off' : i ≢ 0). subst P (sym (top_most i j differ off off')) most) (cases_eq i 0))
    (cases_eq j 0))
    (cases_eq i j)

pub rounded_top : (ts : List ℤ) (z : Zone) (i j : ℕ) (t : ℤ) → Contains ts (pos 0) → Contains ts (pos (2 ^ 63 - 1)) → Contains ts (pos (2 ^ 63)) → Contains ts (pos (2 ^ 64 - 1)) →
    i ≤ z.vars → j ≤ z.vars → IsLeastFrom ts (bound_of z i j) t → t ≤ℤ top_bound i j
rounded_top ts z i j t zero high low most hi hj least = least.least (top_bound i j) (top_held ts i j zero high low most) (z.topped i j hi hj)

pub rounded_of : (ts : List ℤ) (z r : Zone) → r.vars ≡ z.vars → IsFalse z.bottom → IsFalse r.bottom → r.marks ≡ z.marks →
    IsTableBy (λ i j t. IsLeastFrom ts (bound_of z i j) t) z.vars r.bounds → IsRounded ts z r
rounded_of ts z r vars up up' marks table = record {
  vars = vars;
  above = λ _. record {
    not_bottom = up';
    bounds = λ i j hi hj. (table.at i j (omega (arith, vars)) (omega (arith, vars))).above;
    marks = λ i from hi marked. rw (sym marks) marked;
  };
  threshold = λ _ i j hi hj. (table.at i j (omega (arith, vars)) (omega (arith, vars))).one;
  least = λ n same threshold below _.
      let h = below up in
      record {
        not_bottom = h.not_bottom;
        bounds = λ i j hi hj. (table.at i j (omega (arith, same)) (omega (arith, same))).least (bound_of n i j) (threshold h.not_bottom i j hi hj) (h.bounds i j hi hj);
        marks = λ i from hi marked. rw marks (h.marks i from hi marked);
      };
}

pub rounded_bottom : (ts : List ℤ) (z : Zone) → IsTrue z.bottom → IsRounded ts z z
rounded_bottom ts z none = record {
  vars = refl;
  above = λ up. absurd (search rules);
  threshold = λ up. absurd (search rules);
  least = λ n same threshold below up. absurd (search rules);
}

-- the same in other terms
pub least_as : (ts : List ℤ) (b b' t t' : ℤ) → IsLeastFrom ts b t → b ≡ b' → t' ≡ t → IsLeastFrom ts b' t'
least_as ts b b' t t' h e e' = rw (e', sym e) h

pub reach_as : (t t' : ℤ) → IsInReach t → t' ≡ t → IsInReach t'
reach_as t t' h e = rw e h
