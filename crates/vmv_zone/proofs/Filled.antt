-- A table of bounds, filled place by place.
use Rattle.std.proofs.Common.{◌≡◌, ◌≢◌, ◌⊎◌, ⊎_elim, inl, inr, ℕ, ◌+◌, ◌*◌, ◌/◌, ◌%◌, ◌<◌, ◌≤◌, ℤ, pos, List, get_or, set, length, length-set, arith, refl, ◌∙◌, get_or-set_same, get_or-set_other}
use Rattle.std.proofs.lemmas.Bool.{cases_eq, cases_lt}
use Rattle.std.proofs.lemmas.Int.{ints}
use Rattle.vmv_zone.specs.Bounds.{IsInReach, AreInReach, AreZeroOutside, bound_at, top_bound, dropped_bound, freed_bound, moved, IsTableBy}
use Rattle.vmv_zone.specs.Lines.{RowFilled}
use Rattle.vmv_zone.proofs.Places.{reach_set}

pub row_begun : (Is : ℕ → ℤ → Type 0) (bs : List ℤ) (i : ℕ) → length bs ≡ 324 → AreInReach bs → RowFilled Is bs bs i 0
row_begun Is bs i full reach = record { full = full; reach = reach; row = λ j h. absurd (omega arith); rest = λ p j hj h. refl }

pub row_filled : (Is : ℕ → ℤ → Type 0) (old new : List ℤ) (i k : ℕ) (b : ℤ) → i ≤ 17 → k ≤ 17 → RowFilled Is old new i k → Is k b → IsInReach b → RowFilled Is old (set new (18 * i + k) b) i (k + 1)
row_filled Is old new i k b hi hk row is here =
    let inside : 18 * i + k < length new = omega (arith, row.full) in
    record {
      full = length-set new (18 * i + k) b ∙ row.full;
      reach = reach_set new (18 * i + k) b inside row.reach here;
      row = λ j h. ⊎_elim
          (λ (same : j ≡ k). rw (same, get_or-set_same) is)
          (λ (other : j ≢ k). let ne : 18 * i + j ≢ 18 * i + k = omega arith in rw get_or-set_other (row.row j (omega arith)))
          (cases_eq j k);
      rest = λ p j hj h.
          let ne : 18 * p + j ≢ 18 * i + k = λ same. ⊎_elim (λ (off : p ≢ i). omega arith) (λ (past : k + 1 ≤ j). omega arith) h in
          let was : p ≢ i ⊎ k ≤ j = ⊎_elim (λ (off : p ≢ i). inl off) (λ (past : k + 1 ≤ j). inr (omega arith)) h in
          rw get_or-set_other (row.rest p j hj was);
    }

-- the bounds on the things before i have the property of their place, and the others are 0
pub record FilledBy (Is : ℕ → ℕ → ℤ → Type 0) (vars : ℕ) (bs : List ℤ) (i : ℕ) : Type 0 where
  pub full : length bs ≡ 324
  pub reach : AreInReach bs
  pub filled : (p j : ℕ) → p < i → j ≤ vars → Is p j (bound_at bs p j)
  pub rest : (p j : ℕ) → j < 18 → (i ≤ p ⊎ vars < j) → bound_at bs p j ≡ pos 0

-- none is filled yet where all bounds are 0
pub filled_zeros : (Is : ℕ → ℕ → ℤ → Type 0) (vars : ℕ) (bs : List ℤ) → length bs ≡ 324 → ((k : ℕ) → get_or bs k (pos 0) ≡ pos 0) → FilledBy Is vars bs 0
filled_zeros Is vars bs full zeros = record {
  full = full;
  reach = λ k. rw (zeros k) (record { low = omega (arith, ints); high = omega (arith, ints) });
  filled = λ p j h hj. absurd (omega arith);
  rest = λ p j hj h. zeros (18 * p + j);
}

pub filled_more : (Is : ℕ → ℕ → ℤ → Type 0) (vars : ℕ) (old new : List ℤ) (i k : ℕ) → vars ≤ 17 → k ≡ vars + 1 → FilledBy Is vars old i → RowFilled (Is i) old new i k → FilledBy Is vars new (i + 1)
filled_more Is vars old new i k few all table row = record {
  full = row.full;
  reach = row.reach;
  filled = λ p j h hj. ⊎_elim
      (λ (same : p ≡ i). let is = row.row j (omega arith) in rw same is)
      (λ (other : p ≢ i).
      let kept = row.rest p j (omega arith) (inl other) in
      let was : Is p j (bound_at old p j) = table.filled p j (omega arith) hj in
      rw kept was)
      (cases_eq p i);
  rest = λ p j hj h. ⊎_elim
      (λ (after : i + 1 ≤ p). let ne : p ≢ i = omega arith in row.rest p j hj (inl ne) ∙ table.rest p j hj (inl (omega arith)))
      (λ (past : vars < j). row.rest p j hj (inr (omega arith)) ∙ table.rest p j hj (inr past))
      h;
}

pub filled_done : (Is : ℕ → ℕ → ℤ → Type 0) (vars : ℕ) (bs : List ℤ) (i : ℕ) → i ≡ vars + 1 → FilledBy Is vars bs i → IsTableBy Is vars bs
filled_done Is vars bs i all table = record {
  full = table.full;
  reach = table.reach;
  at = λ p j hp hj. table.filled p j (omega arith) hj;
  outside = λ p j hp hj out. ⊎_elim (λ (past : vars < p). table.rest p j hj (inl (omega arith))) (λ (past : vars < j). table.rest p j hj (inr past)) out;
}

pub top_in_reach : (i j : ℕ) → IsInReach (top_bound i j)
top_in_reach i j = record { low = grind (arith, ints); high = grind (arith, ints) }

pub dropped_in_reach : (bs : List ℤ) (to last : ℕ) → AreInReach bs → (i j : ℕ) → IsInReach (dropped_bound bs to last i j)
dropped_in_reach bs to last reach i j = reach (18 * moved to last i + moved to last j)

pub freed_in_reach : (bs : List ℤ) (x : ℕ) → AreInReach bs → (i j : ℕ) → IsInReach (freed_bound bs x i j)
freed_in_reach bs x reach i j =
    let top = top_in_reach i j in
    let same = reach (18 * i + j) in
    record { low = grind (arith, ints); high = grind (arith, ints) }

-- the bounds at the places below this one have the property of their place and of what was there, and the others are as they were
pub record RefilledBy (Is : ℤ → ℤ → Type 0) (vars : ℕ) (old new : List ℤ) (place : ℕ) : Type 0 where
  pub full : length new ≡ 324
  pub reach : AreInReach new
  pub filled : (i j : ℕ) → j ≤ vars → 18 * i + j < place → Is (bound_at old i j) (bound_at new i j)
  pub blank : (i j : ℕ) → j < 18 → vars < j → 18 * i + j < place → bound_at new i j ≡ pos 0
  pub rest : (k : ℕ) → place ≤ k → get_or new k (pos 0) ≡ get_or old k (pos 0)

pub refilled_none : (Is : ℤ → ℤ → Type 0) (vars : ℕ) (old : List ℤ) → length old ≡ 324 → AreInReach old → RefilledBy Is vars old old 0
refilled_none Is vars old full reach = record { full = full; reach = reach; filled = λ i j hj h. absurd (omega arith); blank = λ i j hj out h. absurd (omega arith); rest = λ k h. refl }

pub refilled_more : (Is : ℤ → ℤ → Type 0) (vars : ℕ) (old new : List ℤ) (place : ℕ) (b : ℤ) → vars ≤ 17 → place < 324 → RefilledBy Is vars old new place →
    (place % 18 ≤ vars → Is (bound_at new (place / 18) (place % 18)) b) → (vars < place % 18 → b ≡ pos 0) → IsInReach b → RefilledBy Is vars old (set new place b) (place + 1)
refilled_more Is vars old new place b few inside table is none here =
    let within : place < length new = omega (arith, table.full) in
    record {
      full = length-set new place b ∙ table.full;
      reach = reach_set new place b within table.reach here;
      filled = λ i j hj h. ⊎_elim
          (λ (same : 18 * i + j ≡ place).
          let row : place / 18 ≡ i = omega arith in
          let column : place % 18 ≡ j = omega arith in
          let is' : Is (bound_at new i j) b = rw (row, column) at is (omega arith) in
          let was : bound_at new i j ≡ bound_at old i j = table.rest (18 * i + j) (omega arith) in
          let is'' : Is (bound_at old i j) b = rw was at is' in
          let now : bound_at (set new place b) i j ≡ b = rw (same, get_or-set_same) refl in
          rw now is'')
          (λ (other : 18 * i + j ≢ place). rw get_or-set_other (table.filled i j hj (omega arith)))
          (cases_eq (18 * i + j) place);
      blank = λ i j hj out h. ⊎_elim
          (λ (same : 18 * i + j ≡ place). rw (same, get_or-set_same) (none (omega arith)))
          (λ (other : 18 * i + j ≢ place). rw get_or-set_other (table.blank i j hj out (omega arith)))
          (cases_eq (18 * i + j) place);
      rest = λ k h. let ne : k ≢ place = omega arith in rw get_or-set_other (table.rest k (omega arith));
    }

pub refilled_done : (Is : ℤ → ℤ → Type 0) (vars : ℕ) (old new : List ℤ) (place : ℕ) → vars ≤ 17 → place ≡ 18 * (vars + 1) → AreZeroOutside vars old → RefilledBy Is vars old new place →
    IsTableBy (λ i j b. Is (bound_at old i j) b) vars new
refilled_done Is vars old new place few all outside table = record {
  full = table.full;
  reach = table.reach;
  at = λ i j hi hj. table.filled i j hj (omega arith);
  outside = λ i j hi hj out. ⊎_elim
      (λ (within : 18 * i + j < place). table.blank i j hj (⊎_elim (λ (past : vars < i). absurd (omega arith)) (λ (past : vars < j). past) out) within)
      (λ (after : place ≤ 18 * i + j). table.rest (18 * i + j) after ∙ outside i j hi hj out)
      (cases_lt (18 * i + j) place);
}
