-- A row and a column of bounds, written in place.
use Rattle.std.proofs.Common.{◌∙◌, ◌≡◌, ◌≢◌, ◌⊎◌, ⊎_elim, inl, inr, ℕ, ◌+◌, ◌*◌, ◌-◌, ◌/◌, ◌%◌, ◌<◌, ◌≤◌, ℤ, pos, List, get_or, set, length, length-set, arith, refl, sym, get_or-set_same, get_or-set_other}
use Rattle.std.proofs.lemmas.Bool.{cases_eq, cases_lt}
use Rattle.std.proofs.lemmas.Int.{ints}
use Rattle.std.proofs.lemmas.List.{get_or_past}
use Rattle.vmv_zone.specs.Bounds.{IsInReach, AreInReach, AreUnderTop, AreZeroOutside, IsTable, IsTableBy, bound_at, extended_bound, dropped_bound, freed_bound, top_bound, moved}
use Rattle.vmv_zone.specs.Lines.{LineSet, ColumnCopied, RowCopied}
use Rattle.vmv_zone.proofs.Places.{reach_set}
use Rattle.vmv_zone.proofs.Closing.{by_last, extended_both, extended_from, extended_to, extended_old}

pub zero_reach : IsInReach (pos 0)
zero_reach = record { low = omega (arith, ints); high = omega (arith, ints) }

pub line_none : (f : ℕ → ℕ → ℤ) (old : List ℤ) (x : ℕ) → length old ≡ 324 → AreInReach old → LineSet f old old x 0
line_none f old x full reach = record {
  full = full;
  reach = reach;
  row = λ j h. absurd (omega arith);
  column = λ i h. absurd (omega arith);
  rest = λ i j hj h k. refl;
}

-- the bounds on x against k, written both ways
pub line_more : (f : ℕ → ℕ → ℤ) (old new : List ℤ) (x k : ℕ) (a b : ℤ) → x ≤ 17 → k ≤ 17 → LineSet f old new x k → a ≡ f x k → b ≡ f k x →
    IsInReach a → IsInReach b → LineSet f old (set (set new (18 * x + k) a) (18 * k + x) b) x (k + 1)
line_more f old new x k a b hx hk line ea eb ra rb =
    let half = set new (18 * x + k) a in
    let inside : 18 * x + k < length new = omega (arith, line.full) in
    let full : length half ≡ 324 = length-set new (18 * x + k) a ∙ line.full in
    let inside' : 18 * k + x < length half = omega (arith, full) in
    record {
      full = length-set half (18 * k + x) b ∙ full;
      reach = reach_set half (18 * k + x) b inside' (reach_set new (18 * x + k) a inside line.reach ra) rb;
      row = λ j h. ⊎_elim
          (λ (here : 18 * x + j ≡ 18 * k + x).
          let jx : j ≡ x = omega arith in
          let kx : k ≡ x = omega arith in
          let is : b ≡ f x j = rw jx (rw kx at eb) in
          rw (here, get_or-set_same) is)
          (λ (off : 18 * x + j ≢ 18 * k + x). ⊎_elim
          (λ (same : j ≡ k). let ne : 18 * x + k ≢ 18 * k + x = rw same at off in rw (same, get_or-set_other, get_or-set_same) ea)
          (λ (other : j ≢ k). let ne : 18 * x + j ≢ 18 * x + k = omega arith in rw (get_or-set_other, get_or-set_other) (line.row j (omega arith)))
          (cases_eq j k))
          (cases_eq (18 * x + j) (18 * k + x));
      column = λ i h. ⊎_elim
          (λ (same : i ≡ k). rw (same, get_or-set_same) eb)
          (λ (other : i ≢ k).
          let ne : 18 * i + x ≢ 18 * k + x = omega arith in
          ⊎_elim
          (λ (here : 18 * i + x ≡ 18 * x + k). absurd (let ix : i ≡ x = omega arith in let kx : k ≡ x = omega arith in omega arith))
          (λ (off : 18 * i + x ≢ 18 * x + k). rw (get_or-set_other, get_or-set_other) (line.column i (omega arith)))
          (cases_eq (18 * i + x) (18 * x + k)))
          (cases_eq i k);
      rest = λ i j hj h h'.
          let ne : 18 * i + j ≢ 18 * x + k = λ same. ⊎_elim (λ (o : i ≢ x). omega arith) (λ (o : k + 1 ≤ j). omega arith) h in
          let ne' : 18 * i + j ≢ 18 * k + x = λ same. ⊎_elim (λ (o : j ≢ x). omega arith) (λ (o : k + 1 ≤ i). omega arith) h' in
          let was : i ≢ x ⊎ k ≤ j = ⊎_elim (λ (o : i ≢ x). inl o) (λ (o : k + 1 ≤ j). inr (omega arith)) h in
          let was' : j ≢ x ⊎ k ≤ i = ⊎_elim (λ (o : j ≢ x). inl o) (λ (o : k + 1 ≤ i). inr (omega arith)) h' in
          rw (get_or-set_other, get_or-set_other) (line.rest i j hj was was');
    }

-- a bound that no writing of the line before k has touched
pub line_kept : (f : ℕ → ℕ → ℤ) (old new : List ℤ) (x k i j : ℕ) → j < 18 → i < x → j < x → LineSet f old new x k → bound_at new i j ≡ bound_at old i j
line_kept f old new x k i j hj hi hj' line = line.rest i j hj (inl (omega arith)) (inl (omega arith))

pub line_topped : (f : ℕ → ℕ → ℤ) (old new : List ℤ) (x k : ℕ) → 1 ≤ x → x ≤ 17 → LineSet f old new x k → AreUnderTop (x - 1) old → AreUnderTop (x - 1) new
line_topped f old new x k from few line topped i j hi hj =
    let same = line_kept f old new x k i j (omega arith) (omega arith) (omega arith) line in
    let top = topped i j hi hj in
    omega (arith, ints)

-- the bounds on one variable more, from the bounds of which some are there
pub extended_row : (old new : List ℤ) (last k : ℕ) (b : ℤ) → last ≤ 17 → k < last → LineSet (extended_bound old last) old new last k → b ≡ extended_bound new last last k →
    b ≡ extended_bound old last last k
extended_row old new last k b few hk line is =
    let e = extended_from new last last k refl hk in
    let e' = extended_from old last last k refl hk in
    let same = line_kept (extended_bound old last) old new last k 0 k (omega arith) (omega arith) hk line in
    omega (arith, ints)

pub extended_column : (old new : List ℤ) (last k : ℕ) (b : ℤ) → last ≤ 17 → k < last → LineSet (extended_bound old last) old new last k → b ≡ extended_bound new last k last →
    b ≡ extended_bound old last k last
extended_column old new last k b few hk line is =
    let e = extended_to new last k last hk refl in
    let e' = extended_to old last k last hk refl in
    let same = line_kept (extended_bound old last) old new last k k 0 (omega arith) hk (omega arith) line in
    omega (arith, ints)

pub extended_done : (old new : List ℤ) (last k : ℕ) → k ≡ last → 1 ≤ last → last ≤ 17 → AreZeroOutside (last - 1) old → LineSet (extended_bound old last) old new last k →
    IsTableBy (λ i j b. b ≡ extended_bound old last i j) last new
extended_done old new last k all from few outside line = record {
  full = line.full;
  reach = line.reach;
  at = λ i j hi hj.
      by_last last i hi
      (λ ei. by_last last j hj
      (λ ej. let e = extended_both old last i j ei ej in line.rest i j (omega arith) (inr (omega arith)) (inr (omega arith)) ∙ outside i j (omega arith) (omega arith) (inl (omega arith)) ∙ sym e)
      (λ lj. rw ei (line.row j (omega arith))))
      (λ li. by_last last j hj
      (λ ej. rw ej (line.column i (omega arith)))
      (λ lj. line_kept (extended_bound old last) old new last k i j (omega arith) li lj line ∙ sym (extended_old old last i j li lj)));
  outside = λ i j hi hj out. ⊎_elim
      (λ (past : last < i). line.rest i j hj (inl (omega arith)) (inr (omega arith)) ∙ outside i j hi hj (inl (omega arith)))
      (λ (past : last < j). line.rest i j hj (inr (omega arith)) (inl (omega arith)) ∙ outside i j hi hj (inr (omega arith)))
      out;
}

freed_at : (bs : List ℤ) (x i j : ℕ) → (i ≡ x ⊎ j ≡ x) → freed_bound bs x i j ≡ top_bound i j
freed_at bs x i j h = ⊎_elim (λ (e : i ≡ x). grind arith) (λ (e : j ≡ x). grind arith) h

freed_off : (bs : List ℤ) (x i j : ℕ) → i ≢ x → j ≢ x → freed_bound bs x i j ≡ bound_at bs i j
freed_off bs x i j h k = grind arith

pub freed_done : (old new : List ℤ) (vars x k : ℕ) → k ≡ vars + 1 → vars ≤ 17 → x ≤ vars → AreZeroOutside vars old → LineSet top_bound old new x k → IsTable (freed_bound old x) vars new
freed_done old new vars x k all few hx outside line = record {
  full = line.full;
  reach = line.reach;
  at = λ i j hi hj. ⊎_elim
      (λ (ei : i ≡ x). rw ei (line.row j (omega arith)) ∙ sym (freed_at old x i j (inl ei)))
      (λ (oi : i ≢ x). ⊎_elim
      (λ (ej : j ≡ x). rw ej (line.column i (omega arith)) ∙ sym (freed_at old x i j (inr ej)))
      (λ (oj : j ≢ x). line.rest i j (omega arith) (inl oi) (inl oj) ∙ sym (freed_off old x i j oi oj))
      (cases_eq j x))
      (cases_eq i x);
  outside = λ i j hi hj out. ⊎_elim
      (λ (past : vars < i). line.rest i j hj (inl (omega arith)) (inr (omega arith)) ∙ outside i j hi hj (inl past))
      (λ (past : vars < j). line.rest i j hj (inr (omega arith)) (inl (omega arith)) ∙ outside i j hi hj (inr past))
      out;
}

pub column_none : (old : List ℤ) (to from : ℕ) → length old ≡ 324 → AreInReach old → ColumnCopied old old to from 0
column_none old to from full reach = record { full = full; reach = reach; column = λ i h. absurd (omega arith); rest = λ i j hj h. refl }

pub column_more : (old new : List ℤ) (to from k : ℕ) (b : ℤ) → to < from → from ≤ 17 → k ≤ 17 → ColumnCopied old new to from k → b ≡ bound_at new k from →
    ColumnCopied old (set new (18 * k + to) b) to from (k + 1)
column_more old new to from k b less few hk copied is =
    let inside : 18 * k + to < length new = omega (arith, copied.full) in
    let here = copied.rest k from (omega arith) (inl (omega arith)) in
    let reach : IsInReach b = rw is (copied.reach (18 * k + from)) in
    let is' : b ≡ bound_at old k from = is ∙ here in
    record {
      full = length-set new (18 * k + to) b ∙ copied.full;
      reach = reach_set new (18 * k + to) b inside copied.reach reach;
      column = λ i h. ⊎_elim
          (λ (same : i ≡ k). rw (same, get_or-set_same) is')
          (λ (other : i ≢ k). let ne : 18 * i + to ≢ 18 * k + to = omega arith in rw get_or-set_other (copied.column i (omega arith)))
          (cases_eq i k);
      rest = λ i j hj h.
          let ne : 18 * i + j ≢ 18 * k + to = λ same. ⊎_elim (λ (o : j ≢ to). omega arith) (λ (o : k + 1 ≤ i). omega arith) h in
          let was : j ≢ to ⊎ k ≤ i = ⊎_elim (λ (o : j ≢ to). inl o) (λ (o : k + 1 ≤ i). inr (omega arith)) h in
          rw get_or-set_other (copied.rest i j hj was);
    }

pub row_none : (old : List ℤ) (to from : ℕ) → length old ≡ 324 → AreInReach old → RowCopied old old to from 0
row_none old to from full reach = record { full = full; reach = reach; row = λ j h. absurd (omega arith); rest = λ i j hj h. refl }

pub row_more : (old new : List ℤ) (to from k : ℕ) (b : ℤ) → to < from → from ≤ 17 → k ≤ 17 → RowCopied old new to from k → b ≡ bound_at new from k →
    RowCopied old (set new (18 * to + k) b) to from (k + 1)
row_more old new to from k b less few hk copied is =
    let inside : 18 * to + k < length new = omega (arith, copied.full) in
    let here = copied.rest from k (omega arith) (inl (omega arith)) in
    let reach : IsInReach b = rw is (copied.reach (18 * from + k)) in
    let is' : b ≡ bound_at old from k = is ∙ here in
    record {
      full = length-set new (18 * to + k) b ∙ copied.full;
      reach = reach_set new (18 * to + k) b inside copied.reach reach;
      row = λ j h. ⊎_elim
          (λ (same : j ≡ k). rw (same, get_or-set_same) is')
          (λ (other : j ≢ k). let ne : 18 * to + j ≢ 18 * to + k = omega arith in rw get_or-set_other (copied.row j (omega arith)))
          (cases_eq j k);
      rest = λ i j hj h.
          let ne : 18 * i + j ≢ 18 * to + k = λ same. ⊎_elim (λ (o : i ≢ to). omega arith) (λ (o : k + 1 ≤ j). omega arith) h in
          let was : i ≢ to ⊎ k ≤ j = ⊎_elim (λ (o : i ≢ to). inl o) (λ (o : k + 1 ≤ j). inr (omega arith)) h in
          rw get_or-set_other (copied.rest i j hj was);
    }

moved_at : (to last i : ℕ) → i ≡ to → moved to last i ≡ last
moved_at to last i h = grind arith

moved_off : (to last i : ℕ) → i ≢ to → moved to last i ≡ i
moved_off to last i h = grind arith

-- the column, then the row, each of the last variable in place of those of `to`
moved_column : (old a : List ℤ) (to last i j : ℕ) → last ≤ 17 → i ≤ last → j < last → ColumnCopied old a to last (last + 1) → bound_at a i j ≡ bound_at old i (moved to last j)
moved_column old a to last i j few hi hj column = ⊎_elim
    (λ (at : j ≡ to). let m = moved_at to last j at in rw (m, at) (column.column i (omega arith)))
    (λ (off : j ≢ to). let m = moved_off to last j off in rw m (column.rest i j (omega arith) (inl off)))
    (cases_eq j to)

moved_row : (old a b : List ℤ) (to last i j : ℕ) → last ≤ 17 → i < last → j < last → ColumnCopied old a to last (last + 1) → RowCopied a b to last last →
    bound_at b i j ≡ dropped_bound old to last i j
moved_row old a b to last i j few hi hj column row = ⊎_elim
    (λ (at : i ≡ to). let m = moved_at to last i at in rw (m, at) (row.row j hj ∙ moved_column old a to last last j few (omega arith) hj column))
    (λ (off : i ≢ to). let m = moved_off to last i off in rw m (row.rest i j (omega arith) (inl off) ∙ moved_column old a to last i j few (omega arith) hj column))
    (cases_eq i to)

pub dropped_done : (old a b new : List ℤ) (to last : ℕ) → last ≤ 17 → to < last → AreZeroOutside last old → ColumnCopied old a to last (last + 1) → RowCopied a b to last last →
    LineSet (λ i j. pos 0) b new last (last + 1) → IsTable (dropped_bound old to last) (last - 1) new
dropped_done old a b new to last few less outside column row line = record {
  full = line.full;
  reach = line.reach;
  at = λ i j hi hj. line.rest i j (omega arith) (inl (omega arith)) (inl (omega arith)) ∙ moved_row old a b to last i j few (omega arith) (omega arith) column row;
  outside = λ i j hi hj out. ⊎_elim
      (λ (past : last < i). line.rest i j hj (inl (omega arith)) (inr (omega arith)) ∙ row.rest i j hj (inl (omega arith)) ∙ column.rest i j hj (inr (omega arith)) ∙ outside i j hi hj (inl past))
      (λ (low : i ≤ last). ⊎_elim
      (λ (past : last < j). line.rest i j hj (inr (omega arith)) (inl (omega arith)) ∙ row.rest i j hj (inr (omega arith)) ∙ column.rest i j hj (inl (omega arith)) ∙ outside i j hi hj (inr past))
      (λ (low' : j ≤ last). ⊎_elim
      (λ (at : i ≡ last). rw at (line.row j (omega arith)))
      (λ (off : i ≢ last).
      let at : j ≡ last = ⊎_elim (λ (o : last - 1 < i). omega arith) (λ (o : last - 1 < j). omega arith) out in
      rw at (line.column i (omega arith)))
      (cases_eq i last))
      (cases_lt last j))
      (cases_lt last i);
}

-- the places below this one are 0, and the others are as they were
pub record Blanked (old new : List ℤ) (place : ℕ) : Type 0 where
  pub full : length new ≡ 324
  pub zeros : (k : ℕ) → k < place → get_or new k (pos 0) ≡ pos 0
  pub rest : (k : ℕ) → place ≤ k → get_or new k (pos 0) ≡ get_or old k (pos 0)

pub blanked_none : (old : List ℤ) → length old ≡ 324 → Blanked old old 0
blanked_none old full = record { full = full; zeros = λ k h. absurd (omega arith); rest = λ k h. refl }

pub blanked_more : (old new : List ℤ) (place : ℕ) → place < 324 → Blanked old new place → Blanked old (set new place (pos 0)) (place + 1)
blanked_more old new place h blanked =
    let inside : place < length new = omega (arith, blanked.full) in
    record {
      full = length-set new place (pos 0) ∙ blanked.full;
      zeros = λ k hk. ⊎_elim
          (λ (same : k ≡ place). rw (same, get_or-set_same) refl)
          (λ (other : k ≢ place). rw get_or-set_other (blanked.zeros k (omega arith)))
          (cases_eq k place);
      rest = λ k hk. let ne : k ≢ place = omega arith in rw get_or-set_other (blanked.rest k (omega arith));
    }

-- a place past those of the things has no bound
pub outside_at : (bs : List ℤ) (vars k : ℕ) → length bs ≡ 324 → AreZeroOutside vars bs → 18 * (vars + 1) ≤ k → get_or bs k (pos 0) ≡ pos 0
outside_at bs vars k full outside after = ⊎_elim
    (λ (inside : k < 324).
    let place : 18 * (k / 18) + k % 18 ≡ k = omega arith in
    let is = outside (k / 18) (k % 18) (omega arith) (omega arith) (inl (omega arith)) in
    rw place at is)
    (λ (past : 324 ≤ k). get_or_past bs k (pos 0) (omega (arith, full)))
    (cases_lt k 324)

pub blanked_done : (old new : List ℤ) (vars place : ℕ) → place ≡ 18 * (vars + 1) → length old ≡ 324 → AreZeroOutside vars old → Blanked old new place →
    (k : ℕ) → get_or new k (pos 0) ≡ pos 0
blanked_done old new vars place all full outside blanked k = ⊎_elim
    (λ (before : k < place). blanked.zeros k before)
    (λ (after : place ≤ k). blanked.rest k after ∙ outside_at old vars k full outside (omega arith))
    (cases_lt k place)
