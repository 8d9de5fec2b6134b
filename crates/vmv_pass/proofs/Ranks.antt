-- How often threshold states can have risen grows as they rise.
use Rattle.std.proofs.Common.{◌≡◌, ⊎_elim, ℕ, zero, suc, ◌+◌, ◌*◌, ◌<◌, ◌≤◌, ℤ, ◌≤ℤ◌, ◌<ℤ◌, Bool, true, false, cond, IsTrue, IsFalse, List, [], ◌∷◌, length, refl, sym, ap, subst, arith}
use Rattle.std.specs.Prelude.{if◌then◌else◌, int_lt, count_by}
use Rattle.std.specs.List.{Contains}
use Rattle.std.proofs.lemmas.Int.{ints}
use Rattle.std.proofs.lemmas.List.Sums.{sum_by-cons, count_by-le-length}
use Rattle.vmv_zone.specs.declared.zone.Zone.{Zone}
use Rattle.vmv_zone.specs.Zone.{bound_of, mark_of, IsBelow}
use Rattle.vmv_zone.specs.Round.{IsThresholdState}
use Rattle.vmv_zone.proofs.Equal.{by_truth}
use Rattle.vmv_pass.specs.Room.{total_to, pairs_to, rank}
use Rattle.vmv_pass.proofs.Sums.{total_le, total_tight, pairs_le, pairs_tight, ones_le, pairs_few}
use Rattle.vmv_pass.proofs.Rooms.{lower_or_not, one_unless, unless_most, unless_down, unless_back, mark_up}

less_true : (t b : ℤ) → int_lt t b ≡ true → t <ℤ b
less_true t b h = grind (arith, ints)

less_false : (t b : ℤ) → int_lt t b ≡ false → b ≤ℤ t
less_false t b h = grind (arith, ints)

less_of : (t b : ℤ) → t <ℤ b → int_lt t b ≡ true
less_of t b h = by_truth (int_lt t b) (λ e. e) (λ e. absurd (let n = less_false t b e in omega (arith, ints)))

not_less : (t b : ℤ) → b ≤ℤ t → int_lt t b ≡ false
not_less t b h = by_truth (int_lt t b) (λ e. absurd (let n = less_true t b e in omega (arith, ints))) (λ e. e)

-- how many thresholds are below a bound
abbrev count_below : List ℤ → ℤ → ℕ
count_below ts b = count_by (λ t. int_lt t b) ts

count_cons : (t : ℤ) (ts : List ℤ) (b : ℤ) → count_below (t ∷ ts) b ≡ cond (int_lt t b) 1 0 + count_below ts b
count_cons t ts b = sum_by-cons (λ t. cond (int_lt t b) 1 0) t ts

test_up : (p q : Bool) → (p ≡ true → q ≡ true) → cond p 1 0 ≤ cond q 1 0
test_up true true up = omega arith
test_up true false up = let e = up refl in absurd (cc)
test_up false true up = omega arith
test_up false false up = omega arith

test_no : (p : Bool) → p ≡ false → cond p 1 0 ≤ 0
test_no true e = absurd (cc)
test_no false e = omega arith

test_yes : (p : Bool) → p ≡ true → 1 ≤ cond p 1 0
test_yes true e = omega arith
test_yes false e = absurd (cc)

count_up : (ts : List ℤ) (a b : ℤ) → a ≤ℤ b → count_below ts a ≤ count_below ts b
count_up [] a b h = omega arith
count_up (t ∷ ts) a b h =
    let u = count_cons t ts a in
    let v = count_cons t ts b in
    let x = test_up (int_lt t a) (int_lt t b) (λ e. less_of t b (let n = less_true t a e in omega (arith, ints))) in
    let y = count_up ts a b h in
    omega arith

count_strict : (ts : List ℤ) (a b : ℤ) → a <ℤ b → Contains ts a → count_below ts a < count_below ts b
count_strict [] a b h (k, inside, e) = absurd (omega arith)
count_strict (t ∷ ts) a b h (zero, inside, e) =
    let u = count_cons t ts a in
    let v = count_cons t ts b in
    let x = test_no (int_lt t a) (not_less t a (subst (λ u. a ≤ℤ u) (sym e) (omega (arith, ints)))) in
    let y = test_yes (int_lt t b) (less_of t b (subst (λ u. u <ℤ b) (sym e) h)) in
    let z = count_up ts a b (omega (arith, ints)) in
    omega arith
count_strict (t ∷ ts) a b h (suc k, inside, e) =
    let u = count_cons t ts a in
    let v = count_cons t ts b in
    let x = test_up (int_lt t a) (int_lt t b) (λ e. less_of t b (let n = less_true t a e in omega (arith, ints))) in
    let y = count_strict ts a b h (k, omega (arith, inside), e) in
    omega arith

count_back : (ts : List ℤ) (a b : ℤ) → Contains ts a → count_below ts b ≤ count_below ts a → b ≤ℤ a
count_back ts a b has least =
    by_truth (int_lt a b) (λ e. absurd (let n = count_strict ts a b (less_true a b e) has in omega arith)) (λ e. less_false a b e)

-- the rank of a state that isn't Bottom
abbrev inner_rank : List ℤ → Zone → ℕ
inner_rank ts z = pairs_to z.vars (λ i j. count_below ts (bound_of z i j)) + total_to z.vars (λ i. one_unless (mark_of z (i + 1)))

rank_bottom : (ts : List ℤ) (z : Zone) → IsTrue z.bottom → rank ts z ≡ 0
rank_bottom ts z h = ap (λ (b : Bool). if b then 0 else 1 + inner_rank ts z) h

rank_other : (ts : List ℤ) (z : Zone) → IsFalse z.bottom → rank ts z ≡ 1 + inner_rank ts z
rank_other ts z h = ap (λ (b : Bool). if b then 0 else 1 + inner_rank ts z) h

mark_kept : (x y : Zone) (i : ℕ) → 1 ≤ i → i ≤ x.vars → ((i : ℕ) → i < x.vars → one_unless (mark_of y (i + 1)) ≤ one_unless (mark_of x (i + 1))) → IsTrue (mark_of x i) → IsTrue (mark_of y i)
mark_kept x y zero from hi tight marked = absurd (omega (arith, from))
mark_kept x y (suc i) from hi tight marked =
    let e : i + 1 ≡ suc i = omega arith in
    subst (λ k. IsTrue (mark_of x k) → IsTrue (mark_of y k)) e (unless_back (mark_of x (i + 1)) (mark_of y (i + 1)) (tight i (omega (arith, hi)))) marked

-- a threshold state that is above and has no greater rank is the same
rank_back : (ts : List ℤ) (x y : Zone) → y.vars ≡ x.vars → IsThresholdState ts x → IsBelow x y → rank ts y ≤ rank ts x → IsBelow y x
rank_back ts x y same threshold below least up =
    by_truth x.bottom (λ t. absurd (let a = rank_bottom ts x t in let b = rank_other ts y up in omega (arith, least)))
    (λ f.
    let t = below f in
    let low : (i j : ℕ) → i ≤ x.vars → j ≤ x.vars → count_below ts (bound_of x i j) ≤ count_below ts (bound_of y i j) =
    λ i j hi hj. count_up ts (bound_of x i j) (bound_of y i j) (t.bounds i j (omega (arith, same)) (omega (arith, same))) in
    let low' : (i : ℕ) → i < x.vars → one_unless (mark_of x (i + 1)) ≤ one_unless (mark_of y (i + 1)) =
    λ i h. unless_down (mark_of y (i + 1)) (mark_of x (i + 1)) (mark_up x y same t i h) in
    let u = pairs_le x.vars (λ i j. count_below ts (bound_of x i j)) (λ i j. count_below ts (bound_of y i j)) low in
    let v = total_le x.vars (λ i. one_unless (mark_of x (i + 1))) (λ i. one_unless (mark_of y (i + 1))) low' in
    let w : inner_rank ts y ≡ pairs_to x.vars (λ i j. count_below ts (bound_of y i j)) + total_to x.vars (λ i. one_unless (mark_of y (i + 1))) =
    ap (λ n. pairs_to n (λ i j. count_below ts (bound_of y i j)) + total_to n (λ i. one_unless (mark_of y (i + 1)))) same in
    let a = rank_other ts x f in
    let b = rank_other ts y up in
    let tight = pairs_tight x.vars (λ i j. count_below ts (bound_of x i j)) (λ i j. count_below ts (bound_of y i j)) low (omega (arith, least)) in
    let tight' = total_tight x.vars (λ i. one_unless (mark_of x (i + 1))) (λ i. one_unless (mark_of y (i + 1))) low' (omega (arith, least)) in
    record {
      not_bottom = f;
      bounds = λ i j hi hj. count_back ts (bound_of x i j) (bound_of y i j) (threshold f i j hi hj) (tight i j hi hj);
      marks = λ i from hi marked. mark_kept x y i from hi tight' marked;
    })

-- a threshold state that rises has a greater rank
pub rank_rises : (ts : List ℤ) (x y : Zone) → y.vars ≡ x.vars → IsThresholdState ts x → IsBelow x y → (IsBelow y x → ⊥) → rank ts x < rank ts y
rank_rises ts x y same threshold below other =
    ⊎_elim (λ (l : rank ts x < rank ts y). l) (λ (g : rank ts y ≤ rank ts x). absurd (other (rank_back ts x y same threshold below g))) (lower_or_not (rank ts x) (rank ts y))

pub rank_few : (ts : List ℤ) (z : Zone) → z.vars ≤ 16 → rank ts z ≤ 289 * length ts + 17
rank_few ts z few =
    by_truth z.bottom (λ t. (let a = rank_bottom ts z t in omega arith))
    (λ f.
    let a = rank_other ts z f in
    let b = pairs_few z.vars (length ts) (λ i j. count_below ts (bound_of z i j)) few (λ i j. count_by-le-length (λ t. int_lt t (bound_of z i j)) ts) in
    let c = ones_le z.vars (λ i. one_unless (mark_of z (i + 1))) (λ i. unless_most (mark_of z (i + 1))) in
    omega arith)
