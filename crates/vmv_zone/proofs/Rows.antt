-- Bounds lowered in place, row by row, to the paths over one bound.
use Rattle.std.proofs.Common.{◌≡◌, ◌≢◌, ◌⊎◌, ◌∙◌, ⊎_elim, inl, inr, ℕ, ◌+◌, ◌*◌, ◌-◌, ◌^◌, ◌<◌, ◌≤◌, ℤ, pos, negsuc, ◌+ℤ◌, ◌≤ℤ◌, List, set, length, length-set, arith, refl, get_or-set_same, get_or-set_other}
use Rattle.std.specs.Int.{int_min}
use Rattle.std.proofs.lemmas.Bool.{cases_eq, cases_lt}
use Rattle.std.proofs.lemmas.Int.{ints, clamps}
use Rattle.vmv_zone.specs.Bounds.{IsInReach, AreInReach, bound_at, through_bound, IsClosed, AreZeroOutside, IsTableBy}
use Rattle.vmv_zone.proofs.Places.{reach_set}
use Rattle.vmv_zone.proofs.Closing.{through_reach}

-- the bounds on p against the things before q are lowered to the paths to j and on, and the others are as they were
pub record RowLowered (old new : List ℤ) (j p : ℕ) (through : ℤ) (q : ℕ) : Type 0 where
  pub full : length new ≡ 324
  pub reach : AreInReach new
  pub done : (k : ℕ) → k < q → bound_at new p k ≡ int_min (bound_at old p k) (through +ℤ bound_at old j k)
  pub rest : (r k : ℕ) → k < 18 → (r ≢ p ⊎ q ≤ k) → bound_at new r k ≡ bound_at old r k

pub row_none : (old : List ℤ) (j p : ℕ) (through : ℤ) → length old ≡ 324 → AreInReach old → RowLowered old old j p through 0
row_none old j p through full reach = record { full = full; reach = reach; done = λ k h. absurd (omega arith); rest = λ r k hk h. refl }

pub row_more : (old new : List ℤ) (vars j p : ℕ) (through : ℤ) (q : ℕ) (b : ℤ) → vars ≤ 17 → p ≤ vars → q ≤ vars → AreInReach old →
    RowLowered old new j p through q → b ≡ int_min (through +ℤ bound_at new j q) (bound_at new p q) → negsuc (2 ^ 64 - 1) ≤ℤ b →
    RowLowered old (set new (18 * p + q) b) j p through (q + 1)
row_more old new vars j p through q b few hp hq all row is room =
    let inside : 18 * p + q < length new = omega (arith, row.full) in
    let there = row.rest j q (omega arith) (inr (omega arith)) in
    let here = row.rest p q (omega arith) (inr (omega arith)) in
    let was = all (18 * p + q) in
    let high = was.high in
    let value : b ≡ int_min (bound_at old p q) (through +ℤ bound_at old j q) = omega (arith, ints, clamps) in
    let reach : IsInReach b = record { low = room; high = omega (arith, ints, clamps) } in
    record {
      full = length-set new (18 * p + q) b ∙ row.full;
      reach = reach_set new (18 * p + q) b inside row.reach reach;
      done = λ k h. ⊎_elim
          (λ (same : k ≡ q). rw (same, get_or-set_same) value)
          (λ (other : k ≢ q). let ne : 18 * p + k ≢ 18 * p + q = omega arith in rw get_or-set_other (row.done k (omega arith)))
          (cases_eq k q);
      rest = λ r k hk h. ⊎_elim
          (λ (off : r ≢ p). let ne : 18 * r + k ≢ 18 * p + q = omega arith in rw get_or-set_other (row.rest r k hk (inl off)))
          (λ (past : q + 1 ≤ k). let ne : 18 * r + k ≢ 18 * p + q = omega arith in rw get_or-set_other (row.rest r k hk (inr (omega arith))))
          h;
    }

-- the rows before p are closed over the bound b on i - j, and the others are as they were
pub record RowsClosed (old new : List ℤ) (vars i j : ℕ) (b : ℤ) (p : ℕ) : Type 0 where
  pub full : length new ≡ 324
  pub reach : AreInReach new
  pub done : (r q : ℕ) → r < p → q ≤ vars → bound_at new r q ≡ through_bound old i j b r q
  pub rest : (r q : ℕ) → q < 18 → (p ≤ r ⊎ vars < q) → bound_at new r q ≡ bound_at old r q

pub rows_none : (old : List ℤ) (vars i j : ℕ) (b : ℤ) → length old ≡ 324 → AreInReach old → RowsClosed old old vars i j b 0
rows_none old vars i j b full reach = record { full = full; reach = reach; done = λ r q h hq. absurd (omega arith); rest = λ r q hq h. refl }

-- no path over the bound lowers a bound on j
pub row_stays : (old new : List ℤ) (vars i j : ℕ) (b : ℤ) (p q : ℕ) → vars ≤ 17 → q ≤ vars → pos 0 ≤ℤ (b +ℤ bound_at old j i) → RowsClosed old new vars i j b p →
    bound_at new j q ≡ bound_at old j q
row_stays old new vars i j b p q few hq cycle rows = ⊎_elim
    (λ (before : j < p). let e = rows.done j q before hq in omega (arith, ints, clamps))
    (λ (after : p ≤ j). rows.rest j q (omega arith) (inl after))
    (cases_lt j p)

-- no path over the bound is below -2^64
pub row_room : (old new : List ℤ) (vars i j : ℕ) (b : ℤ) (p q : ℕ) (through : ℤ) → vars ≤ 17 → i ≤ vars → j ≤ vars → p ≤ vars → q ≤ vars → AreInReach old → IsClosed (bound_at old) vars →
    pos 0 ≤ℤ (b +ℤ bound_at old j i) → RowsClosed old new vars i j b p → through ≡ bound_at new p i +ℤ b → negsuc (2 ^ 64 - 1) ≤ℤ (through +ℤ bound_at new j q)
row_room old new vars i j b p q through few hi hj hp hq all closed cycle rows is =
    let there = row_stays old new vars i j b p q few hq cycle rows in
    let from = rows.rest p i (omega arith) (inl (omega arith)) in
    let reach = through_reach old vars i j p q b hi hj hp hq all closed cycle in
    let low = reach.low in
    omega (arith, ints, clamps)

pub rows_more : (old new new' : List ℤ) (vars i j : ℕ) (b : ℤ) (p : ℕ) (through : ℤ) → vars ≤ 17 → i ≤ vars → p ≤ vars → pos 0 ≤ℤ (b +ℤ bound_at old j i) →
    RowsClosed old new vars i j b p → through ≡ bound_at new p i +ℤ b → length new' ≡ 324 → AreInReach new' →
    ((q : ℕ) → q ≤ vars → bound_at new' p q ≡ int_min (bound_at new p q) (through +ℤ bound_at new j q)) →
    ((r q : ℕ) → q < 18 → r ≢ p ⊎ vars < q → bound_at new' r q ≡ bound_at new r q) → RowsClosed old new' vars i j b (p + 1)
rows_more old new new' vars i j b p through few hi hp cycle rows is full reach row others = record {
  full = full;
  reach = reach;
  done = λ r q h hq. ⊎_elim
      (λ (same : r ≡ p).
      let value = row q hq in
      let here = rows.rest p q (omega arith) (inl (omega arith)) in
      let from = rows.rest p i (omega arith) (inl (omega arith)) in
      let there = row_stays old new vars i j b p q few hq cycle rows in
      let is' : bound_at new' p q ≡ through_bound old i j b p q = omega (arith, ints, clamps) in
      rw same is')
      (λ (other : r ≢ p). others r q (omega arith) (inl other) ∙ rows.done r q (omega arith) hq)
      (cases_eq r p);
  rest = λ r q hq h. ⊎_elim
      (λ (after : p + 1 ≤ r). let ne : r ≢ p = omega arith in others r q hq (inl ne) ∙ rows.rest r q hq (inl (omega arith)))
      (λ (past : vars < q). others r q hq (inr past) ∙ rows.rest r q hq (inr past))
      h;
}

-- where the bound makes no way from p to j shorter, it makes none shorter from there
pub rows_skip : (old new : List ℤ) (vars i j : ℕ) (b : ℤ) (p : ℕ) (through : ℤ) → vars ≤ 17 → i ≤ vars → j ≤ vars → p ≤ vars → IsClosed (bound_at old) vars →
    RowsClosed old new vars i j b p → through ≡ bound_at new p i +ℤ b → bound_at new p j ≤ℤ through → RowsClosed old new vars i j b (p + 1)
rows_skip old new vars i j b p through few hi hj hp closed rows is far = record {
  full = rows.full;
  reach = rows.reach;
  done = λ r q h hq. ⊎_elim
      (λ (same : r ≡ p).
      let here = rows.rest p q (omega arith) (inl (omega arith)) in
      let from = rows.rest p i (omega arith) (inl (omega arith)) in
      let to = rows.rest p j (omega arith) (inl (omega arith)) in
      let path = closed.paths p j q hp hj hq in
      let is' : bound_at new p q ≡ through_bound old i j b p q = omega (arith, ints, clamps) in
      rw same is')
      (λ (other : r ≢ p). rows.done r q (omega arith) hq)
      (cases_eq r p);
  rest = λ r q hq h. ⊎_elim
      (λ (after : p + 1 ≤ r). rows.rest r q hq (inl (omega arith)))
      (λ (past : vars < q). rows.rest r q hq (inr past))
      h;
}

pub rows_done : (old new : List ℤ) (vars i j : ℕ) (b : ℤ) (p : ℕ) → p ≡ vars + 1 → AreZeroOutside vars old → RowsClosed old new vars i j b p →
    IsTableBy (λ p q x. x ≡ through_bound old i j b p q) vars new
rows_done old new vars i j b p all outside rows = record {
  full = rows.full;
  reach = rows.reach;
  at = λ r q hr hq. rows.done r q (omega arith) hq;
  outside = λ r q hr hq out. ⊎_elim
      (λ (past : vars < r). rows.rest r q hq (inl (omega arith)) ∙ outside r q hr hq out)
      (λ (past : vars < q). rows.rest r q hq (inr past) ∙ outside r q hr hq out)
      out;
}
