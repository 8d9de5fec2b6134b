-- Conditions exist for each range, and for what a piece keeps or leaves of a condition.
use Rattle.std.proofs.Common.{◌≡◌, ◌≢◌, ◌↔◌, inl, inr, ◌⊎◌, ◌^◌, ◌-◌, ℤ, pos, negsuc, ◌+ℤ◌, ◌-ℤ◌, ◌≤ℤ◌, ◌<ℤ◌, int_lt, Bool, true, false, IsTrue, refl, arith}
use Rattle.std.specs.Int.{int_max, int_min}
use Rattle.std.specs.Ordering.{int_eq}
use Rattle.std.proofs.lemmas.Int.{ints}
use Rattle.std.proofs.lemmas.Bool.Decides.{Decides-int_eq}
use Rattle.vmv_cond.specs.declared.cond.Cond.{Cond}
use Rattle.vmv_cond.specs.declared.cond.Piece.{Piece}
use Rattle.vmv_cond.specs.declared.cond.Piece.TheVariants.{Below, Above, Zero}
use Rattle.vmv_cond.specs.Normal.{InRange, IsNormal}
use Rattle.vmv_cond.specs.Cond.{Holds}
use Rattle.vmv_cond.specs.Piece.{IsInside, IsOutside}
use Rattle.vmv_cond.proofs.Ranges.{OffZero, iff_through, iff_second, in_range_off_zero, in_range_none, in_range_marked, in_range_from, in_range_to, in_range_nonzero, in_range_zero, not_less, less_is, more_is}

-- an end off a left-out 0
off_zero : (end : ℤ) (z : Bool) (next : ℤ) → (r : ℤ) × OffZero end z next r
off_zero end false next = (end, record { unmarked = λ h. refl; nonzero = λ h. refl; zero = λ h e. absurd (cc) })
off_zero end true next = by (int_eq end (pos 0)) refl
  where
    by : (b : Bool) → int_eq end (pos 0) ≡ b → (r : ℤ) × OffZero end true next r
    by true e =
        let same : end ≡ pos 0 = (Decides-int_eq end (pos 0)).0 e in
        (next, record { unmarked = λ h. absurd (cc); nonzero = λ n. absurd (n same); zero = λ h k. refl })
    by false e = (end, record { unmarked = λ h. refl; nonzero = λ h. refl; zero = λ h k. absurd (let t = (Decides-int_eq end (pos 0)).1 k in cc) })

empty_is_normal : IsNormal (pos (2 ^ 63 - 1)) (negsuc (2 ^ 63 - 1)) true
empty_is_normal = record {
  empty_lo = λ h. refl;
  empty_hi = λ h. refl;
  unmarked_lo = λ h. absurd (cc);
  unmarked_hi = λ h. absurd (cc);
  marked_lo = λ h e. absurd (omega (arith, ints, e));
  marked_hi = λ h e. absurd (omega (arith, ints, e));
}

abbrev HasRange : ℤ → ℤ → Bool → Type 0
HasRange lo hi z = (c : Cond) × ((w : ℤ) → Holds c w ↔ InRange lo hi z w)

-- a range that isn't empty, whose ends are off a left-out 0
ordered : (lo hi : ℤ) (z : Bool) → lo ≤ℤ hi → (IsTrue z → lo ≢ pos 0) → (IsTrue z → hi ≢ pos 0) → HasRange lo hi z
ordered lo hi true order low high = (
  record {
    lo = lo;
    hi = hi;
    zero_out = true;
    normal = record {
      empty_lo = λ h. absurd (omega (arith, ints));
      empty_hi = λ h. absurd (omega (arith, ints));
      unmarked_lo = λ h. absurd (cc);
      unmarked_hi = λ h. absurd (cc);
      marked_lo = low;
      marked_hi = high;
    };
  },
  λ w. ((λ h. h), (λ h. h)),
)
ordered lo hi false order low high = by (int_lt (pos 0) lo) (int_lt hi (pos 0)) refl refl
  where
    marked : (pos 0 <ℤ lo) ⊎ (hi <ℤ pos 0) → HasRange lo hi false
    marked out = (
      record {
        lo = lo;
        hi = hi;
        zero_out = true;
        normal = record {
          empty_lo = λ h. absurd (omega (arith, ints));
          empty_hi = λ h. absurd (omega (arith, ints));
          unmarked_lo = λ h. absurd (cc);
          unmarked_hi = λ h. absurd (cc);
          marked_lo = λ h e. grind (arith, ints);
          marked_hi = λ h e. grind (arith, ints);
        };
      },
      λ w. in_range_marked lo hi false w (inr out),
    )

    before : int_lt (pos 0) lo ≡ true → pos 0 <ℤ lo
    before e = grind (arith, ints)

    behind : int_lt hi (pos 0) ≡ true → hi <ℤ pos 0
    behind e = grind (arith, ints)

    not_before : int_lt (pos 0) lo ≡ false → lo ≤ℤ pos 0
    not_before e = grind (arith, ints)

    not_behind : int_lt hi (pos 0) ≡ false → pos 0 ≤ℤ hi
    not_behind e = grind (arith, ints)

    by : (a b : Bool) → int_lt (pos 0) lo ≡ a → int_lt hi (pos 0) ≡ b → HasRange lo hi false
    by true b e f = marked (inl (before e))
    by false true e f = marked (inr (behind f))
    by false false e f = (
      record {
        lo = lo;
        hi = hi;
        zero_out = false;
        normal = record {
          empty_lo = λ h. absurd (omega (arith, ints));
          empty_hi = λ h. absurd (omega (arith, ints));
          unmarked_lo = λ h. not_before e;
          unmarked_hi = λ h. not_behind f;
          marked_lo = λ h. absurd (cc);
          marked_hi = λ h. absurd (cc);
        };
      },
      λ w. ((λ h. h), (λ h. h)),
    )

off_low : (lo low : ℤ) (z : Bool) → OffZero lo z (pos 1) low → IsTrue z → low ≢ pos 0
off_low lo low true off t e = grind (arith, ints)
off_low lo low false off t e = absurd (cc)

off_high : (hi high : ℤ) (z : Bool) → OffZero hi z (negsuc 0) high → IsTrue z → high ≢ pos 0
off_high hi high true off t e = grind (arith, ints)
off_high hi high false off t e = absurd (cc)

-- a condition of the words from lo to hi, without 0 where that is left out
pub range_exists : (lo hi : ℤ) (z : Bool) → HasRange lo hi z
range_exists lo hi z =
    let low = off_zero lo z (pos 1) in
    let high = off_zero hi z (negsuc 0) in
    by low.0 high.0 low.1 high.1 (int_lt high.0 low.0) refl
  where
    none : (high low : ℤ) → int_lt high low ≡ true → high <ℤ low
    none high low e = grind (arith, ints)

    some : (high low : ℤ) → int_lt high low ≡ false → low ≤ℤ high
    some high low e = grind (arith, ints)

    by : (low high : ℤ) → OffZero lo z (pos 1) low → OffZero hi z (negsuc 0) high → (b : Bool) → int_lt high low ≡ b → HasRange lo hi z
    by low high a b true e = (
      record { lo = pos (2 ^ 63 - 1); hi = negsuc (2 ^ 63 - 1); zero_out = true; normal = empty_is_normal },
      λ w. iff_through (in_range_none (pos (2 ^ 63 - 1)) (negsuc (2 ^ 63 - 1)) low high true z w (omega (arith, ints)) (none high low e)) (in_range_off_zero lo hi low high z w a b),
    )
    by low high a b false e =
        let made = ordered low high z (some high low e) (off_low lo low z a) (off_high hi high z b) in
        (made.0, λ w. iff_through (made.1 w) (in_range_off_zero lo hi low high z w a b))

-- what the piece keeps of the condition
pub inside_exists : (c : Cond) (piece : Piece) → (d : Cond) × IsInside c piece d
inside_exists c (Below b) =
    let made = range_exists c.lo (int_min c.hi (b -ℤ pos 1)) c.zero_out in
    (made.0, λ w. iff_second (iff_through (made.1 w) (in_range_to c.lo c.hi (b -ℤ pos 1) (int_min c.hi (b -ℤ pos 1)) c.zero_out w refl)) (less_is b w (b -ℤ pos 1) (omega (arith, ints))))
inside_exists c (Above b) =
    let made = range_exists (int_max c.lo (b +ℤ pos 1)) c.hi c.zero_out in
    (made.0, λ w. iff_second (iff_through (made.1 w) (in_range_from c.lo c.hi (b +ℤ pos 1) (int_max c.lo (b +ℤ pos 1)) c.zero_out w refl)) (more_is b w (b +ℤ pos 1) (omega (arith, ints))))
inside_exists c Zero =
    let made = range_exists (int_max c.lo (pos 0)) (int_min c.hi (pos 0)) c.zero_out in
    (made.0, λ w. iff_through (made.1 w) (in_range_zero c.lo c.hi (int_max c.lo (pos 0)) (int_min c.hi (pos 0)) c.zero_out w refl refl))

-- what the piece leaves of the condition
pub outside_exists : (c : Cond) (piece : Piece) → (d : Cond) × IsOutside c piece d
outside_exists c (Below b) =
    let made = range_exists (int_max c.lo b) c.hi c.zero_out in
    (made.0, λ w. iff_second (iff_through (made.1 w) (in_range_from c.lo c.hi b (int_max c.lo b) c.zero_out w refl)) (not_less b w))
outside_exists c (Above b) =
    let made = range_exists c.lo (int_min c.hi b) c.zero_out in
    (made.0, λ w. iff_second (iff_through (made.1 w) (in_range_to c.lo c.hi b (int_min c.hi b) c.zero_out w refl)) (not_less w b))
outside_exists c Zero =
    let made = range_exists c.lo c.hi true in
    (made.0, λ w. iff_through (made.1 w) (in_range_nonzero c.lo c.hi c.zero_out w))
