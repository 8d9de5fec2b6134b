-- One bound lowered.
use Rattle.std.proofs.Common.{◌≡◌, ◌≢◌, ℕ, zero, suc, ◌+◌, ◌*◌, ◌-◌, ◌^◌, ◌<◌, ◌≤◌, ℤ, pos, negsuc, ◌≤ℤ◌, ◌<ℤ◌, List, [], ◌∷◌, get_or, set, length, arith, ⊎_elim, get_or-set_same, get_or-set_other}
use Rattle.std.proofs.lemmas.Int.{ints}
use Rattle.std.proofs.lemmas.Bool.{cases_eq}
use Rattle.vmv_zone.specs.declared.paths.Change.TheVariants.{Lower}
use Rattle.vmv_zone.specs.Change.{Relaxes}
use Rattle.vmv_zone.specs.Bounds.{IsInReach, AreInReach, bound_at, SameOutside, height, weight, AreUnderTop, top_bound}

pub height_lower : (a b : ℤ) → negsuc (2 ^ 64 - 1) ≤ℤ a → a <ℤ b → height a < height b
height_lower (pos a) (pos b) low less = omega (arith, ints)
height_lower (pos a) (negsuc b) low less = absurd (omega (arith, ints))
height_lower (negsuc a) (pos b) low less = omega (arith, ints)
height_lower (negsuc a) (negsuc b) low less = omega (arith, ints)

pub weight_lower : (bs : List ℤ) (k : ℕ) (b : ℤ) → k < length bs → negsuc (2 ^ 64 - 1) ≤ℤ b → b <ℤ get_or bs k (pos 0) → weight (set bs k b) < weight bs
weight_lower [] k b inside low less = absurd (omega arith)
weight_lower (x ∷ xs) zero b inside low less = let h = height_lower b x low less in let g : height b + weight xs < height x + weight xs = omega arith in g
weight_lower (x ∷ xs) (suc k) b inside low less = let h = weight_lower xs k b (omega arith) low less in let g : height x + weight (set xs k b) < height x + weight xs = omega arith in g

pub reach_set : (bs : List ℤ) (k : ℕ) (b : ℤ) → k < length bs → AreInReach bs → IsInReach b → AreInReach (set bs k b)
reach_set bs k b inside reach here p =
    ⊎_elim
    (λ (same : p ≡ k). rw (same, get_or-set_same) here)
    (λ (other : p ≢ k). rw get_or-set_other (reach p))
    (cases_eq p k)

pub lower_set : (bs : List ℤ) (k : ℕ) (b : ℤ) → k < length bs → b <ℤ get_or bs k (pos 0) → (p : ℕ) → get_or (set bs k b) p (pos 0) ≤ℤ get_or bs p (pos 0)
lower_set bs k b inside less p =
    ⊎_elim
    (λ (same : p ≡ k). rw (same, get_or-set_same) (omega (arith, ints)))
    (λ (other : p ≢ k). rw get_or-set_other (omega (arith, ints)))
    (cases_eq p k)

-- a bound on two of the things is no bound on a thing past them
pub outside_set : (vars : ℕ) (bs : List ℤ) (i k : ℕ) (b : ℤ) → vars ≤ 17 → i ≤ vars → k ≤ vars → SameOutside vars bs (set bs (18 * i + k) b)
outside_set vars bs i k b few hi hk p q hp hq out =
    let ne : 18 * p + q ≢ 18 * i + k = λ same. ⊎_elim (λ (past : vars < p). omega arith) (λ (past : vars < q). omega arith) out in
    rw get_or-set_other

-- the bound from i to j, 0, lowered to -1 where no bounds to keep have 0 there
pub stepped_off : (Keep : (ℕ → ℕ → ℤ) → Type 0) (vars : ℕ) (bs : List ℤ) (i j : ℕ) → length bs ≡ 324 → vars ≤ 17 → i ≤ vars → j ≤ vars → AreInReach bs →
    bound_at bs i j ≡ pos 0 → ((n : ℕ → ℕ → ℤ) → Keep n → n i j ≢ pos 0) → Relaxes Lower Keep vars bs (set bs (18 * i + j) (negsuc 0))
stepped_off Keep vars bs i j full few hi hj reach zero_is off =
    let inside : 18 * i + j < length bs = omega arith in
    let here : IsInReach (negsuc 0) = record { low = omega (arith, ints); high = omega (arith, ints) } in
    let less : negsuc 0 <ℤ get_or bs (18 * i + j) (pos 0) = omega (arith, ints) in
    let falls = weight_lower bs (18 * i + j) (negsuc 0) inside here.low less in
    record {
      reach = reach_set bs (18 * i + j) (negsuc 0) inside reach here;
      lower = lower_set bs (18 * i + j) (negsuc 0) inside less;
      falls = omega (arith, falls);
      changes = falls;
      below = λ n keep below p q hp hq.
          ⊎_elim
          (λ (same : 18 * p + q ≡ 18 * i + j).
          let at_i : p ≡ i = omega arith in
          let at_j : q ≡ j = omega arith in
          let was = below i j hi hj in
          let not_zero = off n keep in
          let less_now : n i j ≤ℤ negsuc 0 = grind (arith, ints) in
          rw (at_i, at_j, get_or-set_same) less_now)
          (λ (other : 18 * p + q ≢ 18 * i + j). rw get_or-set_other (below p q hp hq))
          (cases_eq (18 * p + q) (18 * i + j));
      outside = outside_set vars bs i j (negsuc 0) few hi hj;
    }

pub under_top_set : (vars : ℕ) (bs : List ℤ) (i j : ℕ) (b : ℤ) → length bs ≡ 324 → vars ≤ 17 → i ≤ vars → j ≤ vars →
    AreUnderTop vars bs → b ≤ℤ top_bound i j → AreUnderTop vars (set bs (18 * i + j) b)
under_top_set vars bs i j b full few hi hj under here p q hp hq =
    ⊎_elim
    (λ (same : 18 * p + q ≡ 18 * i + j).
    let inside : 18 * i + j < length bs = omega arith in
    let at_i : p ≡ i = omega arith in
    let at_j : q ≡ j = omega arith in
    rw (at_i, at_j, get_or-set_same) here)
    (λ (other : 18 * p + q ≢ 18 * i + j). rw get_or-set_other (under p q hp hq))
    (cases_eq (18 * p + q) (18 * i + j))

pub top_bound_high : (i j : ℕ) → top_bound i j ≤ℤ pos (2 ^ 64 - 1)
top_bound_high i j = grind (arith, ints)
