-- How far states can rise falls as they rise.
use Rattle.std.proofs.Common.{◌≡◌, ◌⊎◌, inl, inr, ⊎_elim, ℕ, zero, suc, ◌+◌, ◌^◌, ◌*◌, ◌<◌, ◌≤◌, ℤ, pos, negsuc, ◌≤ℤ◌, Bool, true, false, IsTrue, IsFalse, refl, ap, subst, arith}
use Rattle.std.specs.Prelude.{if◌then◌else◌}
use Rattle.std.proofs.lemmas.Int.{ints}
use Rattle.vmv_zone.specs.declared.zone.Zone.{Zone}
use Rattle.vmv_zone.specs.Bounds.{IsInReach}
use Rattle.vmv_zone.specs.Zone.{bound_of, mark_of, IsBelow, IsTighter}
use Rattle.vmv_zone.proofs.Equal.{by_truth}
use Rattle.vmv_pass.specs.Room.{total_to, pairs_to, depth, room}
use Rattle.vmv_pass.proofs.Sums.{total_le, total_tight, pairs_le, pairs_tight, ones_le}

pub lower_or_not : (n m : ℕ) → (n < m) ⊎ (m ≤ n)
lower_or_not n zero = inr (omega arith)
lower_or_not zero (suc m) = inl (omega arith)
lower_or_not (suc n) (suc m) = ⊎_elim (λ (l : n < m). inl (omega arith)) (λ (g : m ≤ n). inr (omega arith)) (lower_or_not n m)

depth_anti : (a b : ℤ) → a ≤ℤ b → depth b ≤ depth a
depth_anti (pos a) (pos b) h = omega (arith, ints)
depth_anti (pos a) (negsuc b) h = absurd (omega (arith, ints))
depth_anti (negsuc a) (pos b) h = omega (arith, ints)
depth_anti (negsuc a) (negsuc b) h = omega (arith, ints)

depth_back : (a b : ℤ) → IsInReach b → depth a ≤ depth b → b ≤ℤ a
depth_back (pos a) (pos b) reach h = let r = reach.high in omega (arith, ints)
depth_back (pos a) (negsuc b) reach h = omega (arith, ints)
depth_back (negsuc a) (pos b) reach h = absurd (omega (arith, ints))
depth_back (negsuc a) (negsuc b) reach h = omega (arith, ints)

depth_most : (b : ℤ) → IsInReach b → depth b ≤ 2 ^ 65
depth_most (pos b) reach = omega arith
depth_most (negsuc b) reach = let r = reach.low in omega (arith, ints)

-- the one with a mark, and the other
abbrev one_if : Bool → ℕ
one_if b = if b then 1 else 0

abbrev pub one_unless : Bool → ℕ
one_unless b = if b then 0 else 1

one_most : (b : Bool) → one_if b ≤ 1
one_most true = omega arith
one_most false = omega arith

pub unless_most : (b : Bool) → one_unless b ≤ 1
unless_most true = omega arith
unless_most false = omega arith

one_up : (a b : Bool) → (IsTrue a → IsTrue b) → one_if a ≤ one_if b
one_up true true up = omega arith
one_up true false up = let e = up refl in absurd (cc)
one_up false true up = omega arith
one_up false false up = omega arith

one_back : (a b : Bool) → one_if a ≤ one_if b → IsTrue a → IsTrue b
one_back true true h t = refl
one_back true false h t = absurd (omega arith)
one_back false b h t = absurd (cc)

pub unless_down : (a b : Bool) → (IsTrue a → IsTrue b) → one_unless b ≤ one_unless a
unless_down true true up = omega arith
unless_down true false up = let e = up refl in absurd (cc)
unless_down false true up = omega arith
unless_down false false up = omega arith

pub unless_back : (a b : Bool) → one_unless b ≤ one_unless a → IsTrue a → IsTrue b
unless_back true true h t = refl
unless_back true false h t = absurd (omega arith)
unless_back false b h t = absurd (cc)

-- the room of Bottom, and of a state that isn't Bottom
abbrev most_room : Zone → ℕ
most_room z = pairs_to z.vars (λ i j. 2 ^ 65) + z.vars

abbrev inner_room : Zone → ℕ
inner_room z = pairs_to z.vars (λ i j. depth (bound_of z i j)) + total_to z.vars (λ i. one_if (mark_of z (i + 1)))

room_bottom : (z : Zone) → IsTrue z.bottom → room z ≡ 1 + most_room z
room_bottom z h = ap (λ (b : Bool). if b then 1 + most_room z else inner_room z) h

room_other : (z : Zone) → IsFalse z.bottom → room z ≡ inner_room z
room_other z h = ap (λ (b : Bool). if b then 1 + most_room z else inner_room z) h

inner_most : (z : Zone) → inner_room z ≤ most_room z
inner_most z =
    let a = pairs_le z.vars (λ i j. depth (bound_of z i j)) (λ i j. 2 ^ 65) (λ i j hi hj. depth_most (bound_of z i j) (z.reach (18 * i + j))) in
    let b = ones_le z.vars (λ i. one_if (mark_of z (i + 1))) (λ i. one_most (mark_of z (i + 1))) in
    omega arith

room_most : (z : Zone) → room z ≤ 1 + most_room z
room_most z = by_truth z.bottom (λ t. (let e = room_bottom z t in omega arith)) (λ f. (let e = room_other z f in let a = inner_most z in omega arith))

same_most : (x y : Zone) → y.vars ≡ x.vars → most_room y ≡ most_room x
same_most x y same = ap (λ n. pairs_to n (λ i j. 2 ^ 65) + n) same

-- where the one state is below the other, the parts of the rooms
record Parts (x y : Zone) : Type 0 where
  bounds : pairs_to x.vars (λ i j. depth (bound_of y i j)) ≤ pairs_to x.vars (λ i j. depth (bound_of x i j))
  marks : total_to x.vars (λ i. one_if (mark_of y (i + 1))) ≤ total_to x.vars (λ i. one_if (mark_of x (i + 1)))
  inner : inner_room y ≡ pairs_to x.vars (λ i j. depth (bound_of y i j)) + total_to x.vars (λ i. one_if (mark_of y (i + 1)))

pub mark_up : (x y : Zone) → y.vars ≡ x.vars → IsTighter x y → (i : ℕ) → i < x.vars → IsTrue (mark_of y (i + 1)) → IsTrue (mark_of x (i + 1))
mark_up x y same t i h marked = t.marks (i + 1) (omega arith) (omega (arith, same)) marked

parts : (x y : Zone) → y.vars ≡ x.vars → IsTighter x y → Parts x y
parts x y same t = record {
  bounds = pairs_le x.vars (λ i j. depth (bound_of y i j)) (λ i j. depth (bound_of x i j)) (λ i j hi hj. depth_anti (bound_of x i j) (bound_of y i j) (t.bounds i j (omega (arith, same)) (omega (arith, same))));
  marks = total_le x.vars (λ i. one_if (mark_of y (i + 1))) (λ i. one_if (mark_of x (i + 1))) (λ i h. one_up (mark_of y (i + 1)) (mark_of x (i + 1)) (mark_up x y same t i h));
  inner = ap (λ n. pairs_to n (λ i j. depth (bound_of y i j)) + total_to n (λ i. one_if (mark_of y (i + 1)))) same;
}

-- a state that is above has no more room
pub room_down : (x y : Zone) → y.vars ≡ x.vars → IsBelow x y → room y ≤ room x
room_down x y same below =
    by_truth x.bottom (λ t. (let a = room_bottom x t in let b = room_most y in let c = same_most x y same in omega arith))
    (λ f.
    let t = below f in
    let p = parts x y same t in
    let u = p.bounds in
    let v = p.marks in
    let w = p.inner in
    let a = room_other x f in
    let b = room_other y t.not_bottom in
    omega arith)

mark_back : (x y : Zone) → y.vars ≡ x.vars → IsTighter x y → total_to x.vars (λ i. one_if (mark_of x (i + 1))) ≤ total_to x.vars (λ i. one_if (mark_of y (i + 1))) → (i : ℕ) → 1 ≤ i → i ≤ x.vars → IsTrue (mark_of x i) → IsTrue (mark_of y i)
mark_back x y same t tight zero from hi marked = absurd (omega (arith, from))
mark_back x y same t tight (suc i) from hi marked =
    let e : i + 1 ≡ suc i = omega arith in
    subst (λ k. IsTrue (mark_of x k) → IsTrue (mark_of y k)) e
    (one_back (mark_of x (i + 1)) (mark_of y (i + 1))
    (total_tight x.vars (λ i. one_if (mark_of y (i + 1))) (λ i. one_if (mark_of x (i + 1))) (λ i h. one_up (mark_of y (i + 1)) (mark_of x (i + 1)) (mark_up x y same t i h)) tight i (omega (arith, hi)))) marked

-- a state that is above and has no less room is the same
room_back : (x y : Zone) → y.vars ≡ x.vars → IsBelow x y → room x ≤ room y → IsBelow y x
room_back x y same below least up =
    by_truth x.bottom (λ t. absurd (let a = room_bottom x t in let b = room_other y up in let c = inner_most y in let d = same_most x y same in omega (arith, least)))
    (λ f.
    let t = below f in
    let p = parts x y same t in
    let u = p.bounds in
    let v = p.marks in
    let w = p.inner in
    let a = room_other x f in
    let b = room_other y t.not_bottom in
    record {
      not_bottom = f;
      bounds = λ i j hi hj. depth_back (bound_of x i j) (bound_of y i j) (y.reach (18 * i + j))
          (pairs_tight x.vars (λ i j. depth (bound_of y i j)) (λ i j. depth (bound_of x i j))
          (λ i j hi hj. depth_anti (bound_of x i j) (bound_of y i j) (t.bounds i j (omega (arith, same)) (omega (arith, same)))) (omega (arith, least)) i j hi hj);
      marks = λ i from hi marked. mark_back x y same t (omega (arith, least)) i from hi marked;
    })

-- a state that is above and not the same has less room
pub room_falls : (x y : Zone) → y.vars ≡ x.vars → IsBelow x y → (IsBelow y x → ⊥) → room y < room x
room_falls x y same below other =
    ⊎_elim (λ (l : room y < room x). l) (λ (g : room x ≤ room y). absurd (other (room_back x y same below g))) (lower_or_not (room y) (room x))
