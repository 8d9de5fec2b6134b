-- The condition of the words of a range, perhaps without 0.
use Rattle.std.proofs.Common.{◌≡◌, ◌≢◌, ◌⊎◌, ◌↔◌, ◌^◌, ◌-◌, ℤ, pos, negsuc, ◌≤ℤ◌, ◌<ℤ◌, Bool, true, false, IsTrue, arith, rules, inl, inr, ⊎_elim, refl}
use Rattle.std.specs.Int.{int_min, int_max}
use Rattle.std.proofs.lemmas.Int.{ints, clamps}
use Rattle.vmv_cond.specs.declared.cond.Cond.{Cond}
use Rattle.vmv_cond.specs.Cond.{Holds, IsEmpty, IsMeet}
use Rattle.vmv_cond.specs.Normal.{InRange, IsNormal}
use Rattle.vmv_zone.proofs.Equal.{by_truth}
use Rattle.vmv_states_exist.proofs.Lists.{lt_cases}

int_same : (a b : ℤ) → (a ≡ b) ⊎ (a ≢ b)
int_same a b = grind (arith, ints)

nothing_is_normal : IsNormal (pos (2 ^ 63 - 1)) (negsuc (2 ^ 63 - 1)) true
nothing_is_normal = record {
  empty_lo = λ h. refl;
  empty_hi = λ h. refl;
  unmarked_lo = λ h. absurd (search rules);
  unmarked_hi = λ h. absurd (search rules);
  marked_lo = λ h e. omega (arith, ints);
  marked_hi = λ h e. omega (arith, ints);
}

-- the condition that holds no word
pub nothing : Cond
nothing = record { lo = pos (2 ^ 63 - 1); hi = negsuc (2 ^ 63 - 1); zero_out = true; normal = nothing_is_normal }

pub nothing_empty : IsEmpty nothing
unfolding nothing
nothing_empty w held = let a = held.above in let b = held.below in omega (arith, ints)

-- the words that are meant are those that the condition holds
abbrev IsOf : (ℤ → Type 0) → Type 0
IsOf Is = (c : Cond) × ((w : ℤ) → Holds c w ↔ Is w)

-- a range of which no end is a left-out 0
proper : (lo hi : ℤ) (out : Bool) → (IsTrue out → lo ≢ pos 0) → (IsTrue out → hi ≢ pos 0) → IsOf (InRange lo hi out)
proper lo hi out from to = ⊎_elim
    (λ (none : hi <ℤ lo). (nothing, λ w. ((λ h. absurd (nothing_empty w h)), (λ h. absurd (let a = h.above in let b = h.below in omega (arith, ints))))))
    (λ (some : lo ≤ℤ hi). ⊎_elim
    (λ (above : pos 0 <ℤ lo).
    let c : Cond = record {
      lo = lo;
      hi = hi;
      zero_out = true;
      normal = record {
        empty_lo = λ h. absurd (omega (arith, ints));
        empty_hi = λ h. absurd (omega (arith, ints));
        unmarked_lo = λ h. absurd (search rules);
        unmarked_hi = λ h. absurd (search rules);
        marked_lo = λ h e. omega (arith, ints);
        marked_hi = λ h e. omega (arith, ints);
      };
    } in
    (c, λ w. ((λ h. record { above = h.above; below = h.below; nonzero = λ t. h.nonzero refl }), (λ h. record { above = h.above; below = h.below; nonzero = λ t e. let a = h.above in omega (arith, ints) }))))
    (λ (from_zero : lo ≤ℤ pos 0). ⊎_elim
    (λ (below : hi <ℤ pos 0).
    let c : Cond = record {
      lo = lo;
      hi = hi;
      zero_out = true;
      normal = record {
        empty_lo = λ h. absurd (omega (arith, ints));
        empty_hi = λ h. absurd (omega (arith, ints));
        unmarked_lo = λ h. absurd (search rules);
        unmarked_hi = λ h. absurd (search rules);
        marked_lo = λ h e. omega (arith, ints);
        marked_hi = λ h e. omega (arith, ints);
      };
    } in
    (c, λ w. ((λ h. record { above = h.above; below = h.below; nonzero = λ t. h.nonzero refl }), (λ h. record { above = h.above; below = h.below; nonzero = λ t e. let a = h.below in omega (arith, ints) }))))
    (λ (to_zero : pos 0 ≤ℤ hi).
    let c : Cond = record {
      lo = lo;
      hi = hi;
      zero_out = out;
      normal = record {
        empty_lo = λ h. absurd (omega (arith, ints));
        empty_hi = λ h. absurd (omega (arith, ints));
        unmarked_lo = λ h. from_zero;
        unmarked_hi = λ h. to_zero;
        marked_lo = from;
        marked_hi = to;
      };
    } in
    (c, λ w. ((λ h. h), (λ h. h))))
    (lt_cases hi (pos 0)))
    (lt_cases (pos 0) lo))
    (lt_cases hi lo)

-- the words of a range that is the same as another are those of a condition
as_well : {Is Is' : ℤ → Type 0} → ((w : ℤ) → Is w → Is' w) → ((w : ℤ) → Is' w → Is w) → IsOf Is → IsOf Is'
as_well to from c = (c.0, λ w. ((λ h. to w ((c.1 w).0 h)), (λ h. (c.1 w).1 (from w h))))

-- where 0 is left out, an end that is 0 makes way for the next number
lo_moved : (lo hi : ℤ) → IsOf (InRange lo hi true)
lo_moved lo hi = ⊎_elim
    (λ (at : lo ≡ pos 0). ⊎_elim
    (λ (at' : hi ≡ pos 0). as_well (λ w h. absurd (let a = h.above in let b = h.below in omega (arith, ints)))
    (λ w h. absurd (let a = h.above in let b = h.below in h.nonzero refl (omega (arith, ints))))
    (proper (pos 1) (negsuc 0) true (λ t e. omega (arith, ints)) (λ t e. omega (arith, ints))))
    (λ (off : hi ≢ pos 0). as_well
    (λ w h. record { above = let a = h.above in omega (arith, ints); below = h.below; nonzero = h.nonzero })
    (λ w h. record { above = let a = h.above in let b = h.nonzero refl in grind (arith, ints); below = h.below; nonzero = h.nonzero })
    (proper (pos 1) hi true (λ t e. omega (arith, ints)) (λ t. off)))
    (int_same hi (pos 0)))
    (λ (off : lo ≢ pos 0). ⊎_elim
    (λ (at : hi ≡ pos 0). as_well
    (λ w h. record { above = h.above; below = let a = h.below in omega (arith, ints); nonzero = h.nonzero })
    (λ w h. record { above = h.above; below = let a = h.below in let b = h.nonzero refl in grind (arith, ints); nonzero = h.nonzero })
    (proper lo (negsuc 0) true (λ t. off) (λ t e. omega (arith, ints))))
    (λ (off' : hi ≢ pos 0). proper lo hi true (λ t. off) (λ t. off'))
    (int_same hi (pos 0)))
    (int_same lo (pos 0))

-- each range is that of a condition
pub range_of : (lo hi : ℤ) (out : Bool) → IsOf (InRange lo hi out)
range_of lo hi true = lo_moved lo hi
range_of lo hi false = proper lo hi false (λ t. absurd (search rules)) (λ t. absurd (search rules))

-- the words of both
both_of : (a b : Cond) (out : Bool) → (IsTrue out → IsTrue a.zero_out ⊎ IsTrue b.zero_out) → (IsTrue a.zero_out → IsTrue out) → (IsTrue b.zero_out → IsTrue out) → (c : Cond) × IsMeet a b c
both_of a b out either left right = as_well
    (λ w h.
    let p = h.above in
    let q = h.below in
    (record { above = omega (arith, ints, clamps); below = omega (arith, ints, clamps); nonzero = λ t. h.nonzero (left t) }, record { above = omega (arith, ints, clamps); below = omega (arith, ints, clamps); nonzero = λ t. h.nonzero (right t) }))
    (λ w h.
    let p = h.0.above in
    let q = h.0.below in
    let p' = h.1.above in
    let q' = h.1.below in
    record { above = omega (arith, ints, clamps); below = omega (arith, ints, clamps); nonzero = λ t. ⊎_elim h.0.nonzero h.1.nonzero (either t) })
    (range_of (int_max a.lo b.lo) (int_min a.hi b.hi) out)

pub meet_exists : (a b : Cond) → (c : Cond) × IsMeet a b c
meet_exists a b = by_truth a.zero_out
    (λ marked. both_of a b true (λ t. inl marked) (λ t. refl) (λ t. refl))
    (λ unmarked. both_of a b b.zero_out (λ t. inr t) (λ t. absurd (search rules)) (λ t. t))
