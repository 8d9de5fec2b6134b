-- The bounds that are below top's are a naming of a state that some bytes tell.
use Rattle.std.proofs.Common.{◌≡◌, ◌≢◌, ◌⊎◌, inl, inr, ℕ, zero, suc, ◌+◌, ◌<◌, ◌≤◌, Bool, true, false, not, ◌==◌, List, [], ◌∷◌, ◌++◌, refl, sym, ap, subst, ◌∙◌, arith}
use Rattle.std.specs.Prelude.{if◌then◌else◌, int_lt}
use Rattle.std.specs.List.{Contains}
use Rattle.std.proofs.lemmas.Bool.{and_cases, and_parts, cases_Bool, cases_eq, eq-eqb, eqb-true, false≢true, not-false}
use Rattle.std.proofs.lemmas.Int.{ints}
use Rattle.std.proofs.lemmas.List.Elements.{Contains-append_left, Contains-append_right, Contains-append_cases}
use Rattle.vmv_zone.specs.declared.zone.Zone.{Zone}
use Rattle.vmv_zone.specs.Bounds.{top_bound}
use Rattle.vmv_zone.specs.Zone.{vars_of, bound_of}
use Rattle.vmv_proof_text.specs.States.{Bound, is_named, named_bound, bounds_of_thing, bounds_of_things, bounds_below_top}
use Rattle.vmv_proof_text.specs.Naming.{Precedes, AreSorted, IsBoundOf, IsNaming}
use Rattle.vmv_proof_read.proofs.Marks.{only_member}

pub record IsNamedBound (z : Zone) (b : Bound) : Type 0 where
  pub named : is_named z b.0 b.1 ≡ true
  pub same : b.2 ≡ bound_of z b.0 b.1

-- a named bound on i minus one of the first m things
pub record IsNamedAt (z : Zone) (i m : ℕ) (b : Bound) : Type 0 where
  pub first : b.0 ≡ i
  pub second : b.1 < m
  pub bound : IsNamedBound z b

one_named : (z : Zone) (i j : ℕ) (b : Bound) (t : Bool) → is_named z i j ≡ t → Contains (if t then (i, j, bound_of z i j) ∷ [] else []) b → IsNamedAt z i (j + 1) b
one_named z i j b true named at =
    let e = only_member (i, j, bound_of z i j) b at in
    subst (IsNamedAt z i (j + 1)) e (record { first = refl; second = omega arith; bound = record { named = named; same = refl } })
one_named z i j b false named at = absurd (omega (arith, at.1))

widen : (z : Zone) (i m n : ℕ) (b : Bound) → m ≤ n → IsNamedAt z i m b → IsNamedAt z i n b
widen z i m n b le h = record { first = h.first; second = omega (arith, le, h.second); bound = h.bound }

thing_named : (z : Zone) (i m : ℕ) (b : Bound) → Contains (bounds_of_thing z i m) b → IsNamedAt z i m b
thing_named z i zero b at = absurd (omega (arith, at.1))
thing_named z i (suc j) b at = by (λ front. thing_named z i j b front) (Contains-append_cases (bounds_of_thing z i j) (named_bound z i j) b at)
  where
    by : (Contains (bounds_of_thing z i j) b → IsNamedAt z i j b) → Contains (bounds_of_thing z i j) b ⊎ Contains (named_bound z i j) b → IsNamedAt z i (suc j) b
    by before (inl front) = widen z i j (suc j) b (omega arith) (before front)
    by before (inr back) = widen z i (j + 1) (suc j) b (omega arith) (one_named z i j b (is_named z i j) refl back)

pub things_named : (z : Zone) (n : ℕ) (b : Bound) → Contains (bounds_of_things z n) b → (b.0 < n) × IsNamedAt z b.0 (vars_of z + 1) b
things_named z zero b at = absurd (omega (arith, at.1))
things_named z (suc i) b at = by (λ front. things_named z i b front) (Contains-append_cases (bounds_of_things z i) (bounds_of_thing z i (vars_of z + 1)) b at)
  where
    by : (Contains (bounds_of_things z i) b → (b.0 < i) × IsNamedAt z b.0 (vars_of z + 1) b) → Contains (bounds_of_things z i) b ⊎ Contains (bounds_of_thing z i (vars_of z + 1)) b
        → (b.0 < suc i) × IsNamedAt z b.0 (vars_of z + 1) b
    by before (inl front) = let r = before front in (omega (arith, r.0), r.1)
    by before (inr back) =
        let r = thing_named z i (vars_of z + 1) b back in
        (omega (arith, r.first), record { first = refl; second = r.second; bound = r.bound })

named_in_one : (z : Zone) (i j : ℕ) → is_named z i j ≡ true → Contains (named_bound z i j) (i, j, bound_of z i j)
named_in_one z i j named = subst (λ t. Contains {X = Bound} (if t then (i, j, bound_of z i j) ∷ [] else []) (i, j, bound_of z i j)) (sym named) (0, omega arith, refl)

named_in_thing : (z : Zone) (i j m : ℕ) → j < m → is_named z i j ≡ true → Contains (bounds_of_thing z i m) (i, j, bound_of z i j)
named_in_thing z i j zero less named = absurd (omega arith)
named_in_thing z i j (suc k) less named = by (λ lower. named_in_thing z i j k lower named) (cases_eq j k)
  where
    by : (j < k → Contains (bounds_of_thing z i k) (i, j, bound_of z i j)) → (j ≡ k) ⊎ (j ≡ k → ⊥) → Contains (bounds_of_thing z i (suc k)) (i, j, bound_of z i j)
    by before (inl same) =
        Contains-append_right (bounds_of_thing z i k) (named_bound z i k) (i, j, bound_of z i j)
        (subst (λ l. Contains (named_bound z i l) (i, j, bound_of z i j)) same (named_in_one z i j named))
    by before (inr other) = Contains-append_left (bounds_of_thing z i k) (named_bound z i k) (i, j, bound_of z i j) (before (omega (arith, other)))

named_in_things : (z : Zone) (i j n : ℕ) → i < n → j ≤ vars_of z → is_named z i j ≡ true → Contains (bounds_of_things z n) (i, j, bound_of z i j)
named_in_things z i j zero less last named = absurd (omega arith)
named_in_things z i j (suc k) less last named = by (λ lower. named_in_things z i j k lower last named) (cases_eq i k)
  where
    by : (i < k → Contains (bounds_of_things z k) (i, j, bound_of z i j)) → (i ≡ k) ⊎ (i ≡ k → ⊥) → Contains (bounds_of_things z (suc k)) (i, j, bound_of z i j)
    by before (inl same) =
        Contains-append_right (bounds_of_things z k) (bounds_of_thing z k (vars_of z + 1)) (i, j, bound_of z i j)
        (subst (λ l. Contains (bounds_of_thing z l (vars_of z + 1)) (i, j, bound_of z i j)) same (named_in_thing z i j (vars_of z + 1) (omega (arith, last)) named))
    by before (inr other) =
        Contains-append_left (bounds_of_things z k) (bounds_of_thing z k (vars_of z + 1)) (i, j, bound_of z i j) (before (omega (arith, other)))

sorted_append : (xs ys : List Bound) → AreSorted xs → AreSorted ys → ((x y : Bound) → Contains xs x → Contains ys y → Precedes x y) → AreSorted (xs ++ ys)
sorted_append [] ys s t h = t
sorted_append (x ∷ xs) ys s t h = (
  λ c at. by c (Contains-append_cases xs ys c at),
  sorted_append xs ys s.1 t (λ a b p q. h a b (suc p.0, omega (arith, p.1), p.2) q),
)
  where
    by : (c : Bound) → Contains xs c ⊎ Contains ys c → Precedes x c
    by c (inl front) = s.0 c front
    by c (inr back) = h x c (0, omega arith, refl) back

one_sorted : (b : Bound) (t : Bool) → AreSorted (if t then b ∷ [] else [])
one_sorted b true = (λ c at. absurd (omega (arith, at.1)), tt)
one_sorted b false = tt

thing_sorted : (z : Zone) (i m : ℕ) → AreSorted (bounds_of_thing z i m)
thing_sorted z i zero = tt
thing_sorted z i (suc j) = sorted_append (bounds_of_thing z i j) (named_bound z i j) (thing_sorted z i j) (one_sorted (i, j, bound_of z i j) (is_named z i j)) before
  where
    before : (x y : Bound) → Contains (bounds_of_thing z i j) x → Contains (named_bound z i j) y → Precedes x y
    before x y p q =
        let a = thing_named z i j x p in
        let c = by y (is_named z i j) q in
        inr (a.first ∙ c.0, omega (arith, a.second, c.1))
      where
        by : (y : Bound) (t : Bool) → Contains (if t then (i, j, bound_of z i j) ∷ [] else []) y → (i ≡ y.0) × (j ≡ y.1)
        by y true at = let e = only_member (i, j, bound_of z i j) y at in (ap (λ b. b.0) e, ap (λ b. b.1) e)
        by y false at = absurd (omega (arith, at.1))

pub things_sorted : (z : Zone) (n : ℕ) → AreSorted (bounds_of_things z n)
things_sorted z zero = tt
things_sorted z (suc i) = sorted_append (bounds_of_things z i) (bounds_of_thing z i (vars_of z + 1)) (things_sorted z i) (thing_sorted z i (vars_of z + 1)) before
  where
    before : (x y : Bound) → Contains (bounds_of_things z i) x → Contains (bounds_of_thing z i (vars_of z + 1)) y → Precedes x y
    before x y p q = inl (omega (arith, (things_named z i x p).0, (thing_named z i (vars_of z + 1) y q).first))

other_things : (z : Zone) (i j : ℕ) → is_named z i j ≡ true → i ≢ j
other_things z i j named e =
    let parts = and_parts (not (i == j)) (int_lt (bound_of z i j) (top_bound i j)) named in
    false≢true (sym (ap not (eq-eqb i j e)) ∙ parts.0)

below_named : (z : Zone) (b : Bound) → Contains (bounds_below_top z) b → IsBoundOf z b
below_named z b at =
    let r = things_named z (vars_of z + 1) b at in
    record {
      first = omega (arith, r.0);
      second = omega (arith, r.1.second);
      other = other_things z b.0 b.1 r.1.bound.named;
      same = r.1.bound.same;
    }

-- a thing against itself has top's bound where something names the state
self_bound : (z : Zone) (bs : List Bound) → IsNaming z bs → (i j : ℕ) → i ≡ j → i ≤ vars_of z → j ≤ vars_of z → bound_of z i j ≡ top_bound i j
self_bound z bs h i j e hi hj = h.others i j hi hj (λ b at p. (h.each b at).other (p.0 ∙ (e ∙ sym p.1)))

not_below : (z : Zone) (i j : ℕ) → i ≤ vars_of z → j ≤ vars_of z → int_lt (bound_of z i j) (top_bound i j) ≡ false → bound_of z i j ≡ top_bound i j
not_below z i j hi hj h = let most = z.topped i j hi hj in grind (arith, ints)

pub bounds_naming : (z : Zone) (bs : List Bound) → IsNaming z bs → IsNaming z (bounds_below_top z)
bounds_naming z bs h = record {
  sorted = things_sorted z (vars_of z + 1);
  each = below_named z;
  others = λ i j hi hj none. by i j hi hj none (cases_Bool (is_named z i j));
}
  where
    equal : (i j : ℕ) → i ≤ vars_of z → j ≤ vars_of z → (not (i == j) ≡ false) ⊎ (int_lt (bound_of z i j) (top_bound i j) ≡ false) → bound_of z i j ≡ top_bound i j
    equal i j hi hj (inl same) = self_bound z bs h i j (eqb-true i j (not-false (i == j) same)) hi hj
    equal i j hi hj (inr most) = not_below z i j hi hj most

    by : (i j : ℕ) → i ≤ vars_of z → j ≤ vars_of z → ((b : Bound) → Contains (bounds_below_top z) b → (b.0 ≡ i) × (b.1 ≡ j) → ⊥)
        → (is_named z i j ≡ true) ⊎ (is_named z i j ≡ false) → bound_of z i j ≡ top_bound i j
    by i j hi hj none (inl named) = absurd (none (i, j, bound_of z i j) (named_in_things z i j (vars_of z + 1) (omega (arith, hi)) hj named) (refl, refl))
    by i j hi hj none (inr out) = equal i j hi hj (and_cases (not (i == j)) (int_lt (bound_of z i j) (top_bound i j)) out)
