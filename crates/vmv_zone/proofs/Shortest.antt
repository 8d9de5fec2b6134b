-- Bounds lowered to shortest paths, through one thing after the other.
use Rattle.std.proofs.Common.{◌≡◌, ◌≢◌, ◌∙◌, ⊎_elim, ℕ, ◌+◌, ◌*◌, ◌-◌, ◌^◌, ◌<◌, ◌≤◌, ℤ, pos, negsuc, ◌+ℤ◌, ◌≤ℤ◌, ◌<ℤ◌, List, [], ◌∷◌, suc, set, get_or, length, arith, refl, get_or-set_same, get_or-set_other}
use Rattle.std.specs.Int.{int_min}
use Rattle.std.proofs.lemmas.Bool.{cases_eq}
use Rattle.std.proofs.lemmas.Int.{ints, clamps}
use Rattle.vmv_zone.specs.Bounds.{IsInReach, AreInReach, bound_at, through_bound, HasPath, IsClosed, Below, height, weight}
use Rattle.vmv_zone.specs.declared.paths.Change.{Change}
use Rattle.vmv_zone.specs.Change.{Relaxes, Settles}
use Rattle.vmv_zone.proofs.Places.{reach_set, outside_set}
use Rattle.vmv_zone.proofs.Closing.{steps_through}

-- nothing lowered yet
pub settles_none : (Keep : (ℕ → ℕ → ℤ) → Type 0) (vars : ℕ) (bs : List ℤ) → AreInReach bs → Settles Keep vars bs bs
settles_none Keep vars bs reach = record { reach = reach; lower = λ k. omega (arith, ints); below = λ n keep below. below; outside = λ i j hi hj out. refl }

-- lowered further
pub settles_on : (Keep More Least : (ℕ → ℕ → ℤ) → Type 0) (vars : ℕ) (old mid new : List ℤ) → ((n : ℕ → ℕ → ℤ) → Least n → Keep n) → ((n : ℕ → ℕ → ℤ) → Least n → Below n vars mid → More n) →
    Settles Keep vars old mid → Settles More vars mid new → Settles Least vars old new
settles_on Keep More Least vars old mid new keeps more first next = record {
  reach = next.reach;
  lower = λ k. let one = first.lower k in let two = next.lower k in omega (arith, ints);
  below = λ n least below. let here = first.below n (keeps n least) below in next.below n (more n least here) here;
  outside = λ i j hi hj out. next.outside i j hi hj out ∙ first.outside i j hi hj out;
}

-- what one step lowers, in the words of many
pub relaxed : (change : Change) (Keep : (ℕ → ℕ → ℤ) → Type 0) (vars : ℕ) (old new : List ℤ) → Relaxes change Keep vars old new → Settles Keep vars old new
relaxed change Keep vars old new r = record { reach = r.reach; lower = r.lower; below = r.below; outside = r.outside }

-- a bound on p lowered to a path to j, of the length that is kept, and on
pub shortened : (vars : ℕ) (old bs : List ℤ) (j p q : ℕ) (through b : ℤ) → length bs ≡ 324 → vars ≤ 17 → j ≤ vars → p ≤ vars → q ≤ vars →
    b ≡ int_min (through +ℤ bound_at bs j q) (bound_at bs p q) → negsuc (2 ^ 64 - 1) ≤ℤ b →
    Settles (λ n. IsClosed n vars × (n p j ≤ℤ through)) vars old bs → Settles (λ n. IsClosed n vars × (n p j ≤ℤ through)) vars old (set bs (18 * p + q) b)
shortened vars old bs j p q through b full few hj hp hq is room settles =
    let inside : 18 * p + q < length bs = omega (arith, full) in
    let was = settles.reach (18 * p + q) in
    let high = was.high in
    let reach : IsInReach b = record { low = room; high = omega (arith, ints, clamps) } in
    record {
      reach = reach_set bs (18 * p + q) b inside settles.reach reach;
      lower = λ k. ⊎_elim
          (λ (same : k ≡ 18 * p + q). let less = settles.lower (18 * p + q) in rw (same, get_or-set_same) (omega (arith, ints, clamps)))
          (λ (other : k ≢ 18 * p + q). rw get_or-set_other (settles.lower k))
          (cases_eq k (18 * p + q));
      below = λ n keep below r s hr hs.
          let here = settles.below n keep below in
          ⊎_elim
          (λ (same : 18 * r + s ≡ 18 * p + q).
          let at_p : r ≡ p = omega arith in
          let at_q : s ≡ q = omega arith in
          let path = keep.0.paths p j q hp hj hq in
          let one = here p q hp hq in
          let two = here j q hj hq in
          let three = keep.1 in
          let least : n p q ≤ℤ b = omega (arith, ints, clamps) in
          rw (at_p, at_q, get_or-set_same) least)
          (λ (other : 18 * r + s ≢ 18 * p + q). rw get_or-set_other (here r s hr hs))
          (cases_eq (18 * r + s) (18 * p + q));
      outside = λ r s hr hs out. outside_set vars bs p q b few hp hq r s hr hs out ∙ settles.outside r s hr hs out;
    }

-- a path that comes back below 0 leaves no closed bounds below
pub none_short : (n : ℕ → ℕ → ℤ) (vars : ℕ) (bs : List ℤ) (j p q : ℕ) (through : ℤ) → j ≤ vars → p ≤ vars → q ≤ vars →
    ((through +ℤ bound_at bs j q) +ℤ bound_at bs q p) <ℤ pos 0 → n p j ≤ℤ through → IsClosed n vars → ¬ Below n vars bs
none_short n vars bs j p q through hj hp hq cycle kept closed below =
    let path = closed.paths p j q hp hj hq in
    let back = closed.paths p q p hp hq hp in
    let self = closed.self p hp in
    let two = below j q hj hq in
    let three = below q p hq hp in
    omega (arith, ints)

-- no path through the thing j, or one before it, is shorter than the bound
pub ways_more : (bs bs' : List ℤ) (vars j : ℕ) → j ≤ vars → pos 0 ≤ℤ bound_at bs j j →
    ((p q : ℕ) → p ≤ vars → q ≤ vars → bound_at bs' p q ≡ through_bound bs j j (pos 0) p q) →
    ((r : ℕ) → r < j → (p q : ℕ) → p ≤ vars → q ≤ vars → HasPath bs p r q) →
    (r : ℕ) → r < j + 1 → (p q : ℕ) → p ≤ vars → q ≤ vars → HasPath bs' p r q
ways_more bs bs' vars j hj cycle lowered ways r hr p q hp hq =
    let pq = lowered p q hp hq in
    let pr = lowered p r hp (omega arith) in
    let rq = lowered r q (omega arith) hq in
    ⊎_elim
    (λ (same : r ≡ j).
    let pj = lowered p j hp hj in
    let jq = lowered j q hj hq in
    let here : HasPath bs' p j q = omega (arith, ints, clamps) in
    rw same here)
    (λ (other : r ≢ j).
    let before : r < j = omega arith in
    rw (pq, pr, rq) (steps_through (bound_at bs p q) (bound_at bs p r) (bound_at bs r q) (bound_at bs p j) (bound_at bs j q) (bound_at bs j r) (bound_at bs r j) (bound_at bs j j) (pos 0)
    (omega (arith, ints)) (ways r before p q hp hq) (ways r before p j hp hj) (ways r before j q hj hq) (ways r before j j hj hj)))
    (cases_eq r j)

-- bounds through which no path is shorter are closed
pub ways_closed : (old bs : List ℤ) (vars : ℕ) → ((k : ℕ) → get_or bs k (pos 0) ≤ℤ get_or old k (pos 0)) → ((i : ℕ) → i ≤ vars → bound_at old i i ≤ℤ pos 0) →
    ((r : ℕ) → r < vars + 1 → (p q : ℕ) → p ≤ vars → q ≤ vars → HasPath bs p r q) → IsClosed (bound_at bs) vars
ways_closed old bs vars lower top ways = record {
  self = λ i hi. let high = top i hi in let low = ways i (omega arith) i i hi hi in let less = lower (18 * i + i) in omega (arith, ints);
  paths = λ i j k hi hj hk. ways j (omega arith) i k hi hk;
}

height_least : (a b : ℤ) → negsuc (2 ^ 64 - 1) ≤ℤ a → a ≤ℤ b → height a ≤ height b
height_least (pos a) (pos b) low less = omega (arith, ints)
height_least (pos a) (negsuc b) low less = absurd (omega (arith, ints))
height_least (negsuc a) (pos b) low less = omega (arith, ints)
height_least (negsuc a) (negsuc b) low less = omega (arith, ints)

-- lower bounds weigh no more
pub weight_least : (new old : List ℤ) → length new ≡ length old → AreInReach new → ((k : ℕ) → get_or new k (pos 0) ≤ℤ get_or old k (pos 0)) → weight new ≤ weight old
weight_least [] [] same reach lower = omega arith
weight_least [] (b ∷ bs) same reach lower = absurd (omega arith)
weight_least (a ∷ xs) [] same reach lower = absurd (omega arith)
weight_least (a ∷ xs) (b ∷ bs) same reach lower =
    let first = reach 0 in
    let h = height_least a b first.low (lower 0) in
    let t = weight_least xs bs (omega arith) (λ k. reach (suc k)) (λ k. lower (suc k)) in
    let g : height a + weight xs ≤ height b + weight bs = omega arith in g
