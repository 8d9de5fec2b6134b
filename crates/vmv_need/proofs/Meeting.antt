-- How many candidates have a piece that meets what is assumed.
use Rattle.std.proofs.Common.{◌≡◌, ⊎_elim, ℕ, ◌+◌, ◌<◌, ◌≤◌, ℤ, pos, ◌≤ℤ◌, ◌<ℤ◌, int_le, int_lt, Bool, true, false, not, ◌&&◌, if◌then◌else◌, IsTrue, List, [], ◌∷◌, refl, sym, subst, arith}
use Rattle.std.specs.List.{Contains}
use Rattle.std.specs.Bool.{Decides}
use Rattle.std.proofs.lemmas.Int.{ints}
use Rattle.vmv_cond.specs.declared.cond.Cond.{Cond}
use Rattle.vmv_cond.specs.declared.cond.Piece.{Piece}
use Rattle.vmv_cond.specs.declared.cond.Piece.TheVariants.{Below, Above, Zero}
use Rattle.vmv_cond.proofs.Ranges.{ends_held}
use Rattle.vmv_assumption.specs.Assumed.{Assumed}
use Rattle.vmv_assumption.specs.Within.{IsBelow}
use Rattle.vmv_need.specs.declared.candidate.Candidate.{Candidate}
use Rattle.vmv_need.specs.Acts.{Meets}
use Rattle.vmv_need.proofs.Lists.{none_in, first_or_later}

-- whether some word of the condition is in the piece
abbrev pub meets : Cond → Piece → Bool
meets c (Below b) = int_le c.lo c.hi && int_lt c.lo b
meets c (Above b) = int_le c.lo c.hi && int_lt b c.hi
meets c Zero = not c.zero_out && (int_le c.lo (pos 0) && int_le (pos 0) c.hi)

both : (a b : Bool) → (a && b) ≡ true → (a ≡ true) × (b ≡ true)
both true b e = (refl, e)
both false b e = absurd (cc)

of_both : (a b : Bool) → a ≡ true → b ≡ true → (a && b) ≡ true
of_both true b e f = f
of_both false b e f = absurd (cc)

le_of : (x y : ℤ) → int_le x y ≡ true → x ≤ℤ y
le_of x y e = grind (arith, ints)

of_le : (x y : ℤ) → x ≤ℤ y → int_le x y ≡ true
of_le x y h = grind (arith, ints)

lt_of : (x y : ℤ) → int_lt x y ≡ true → x <ℤ y
lt_of x y e = grind (arith, ints)

of_lt : (x y : ℤ) → x <ℤ y → int_lt x y ≡ true
of_lt x y h = grind (arith, ints)

unmarked : (z : Bool) → not z ≡ true → IsTrue z → ⊥
unmarked true e t = absurd (cc)
unmarked false e t = absurd (cc)

not_marked : (z : Bool) → (IsTrue z → ⊥) → not z ≡ true
not_marked true n = absurd (n refl)
not_marked false n = refl

pub meets_is : (c : Cond) (piece : Piece) → Decides (meets c piece) (Meets c piece)
meets_is c (Below b) = (
  (λ e. let parts = both (int_le c.lo c.hi) (int_lt c.lo b) e in (c.lo, (ends_held c.lo c.hi c.zero_out c.normal (le_of c.lo c.hi parts.0)).0, lt_of c.lo b parts.1)),
  (λ (w, h, in'). let above = h.above in let below = h.below in of_both (int_le c.lo c.hi) (int_lt c.lo b) (of_le c.lo c.hi (omega (arith, ints))) (of_lt c.lo b (omega (arith, ints)))),
)
meets_is c (Above b) = (
  (λ e. let parts = both (int_le c.lo c.hi) (int_lt b c.hi) e in (c.hi, (ends_held c.lo c.hi c.zero_out c.normal (le_of c.lo c.hi parts.0)).1, lt_of b c.hi parts.1)),
  (λ (w, h, in'). let above = h.above in let below = h.below in of_both (int_le c.lo c.hi) (int_lt b c.hi) (of_le c.lo c.hi (omega (arith, ints))) (of_lt b c.hi (omega (arith, ints)))),
)
meets_is c Zero = (
  (λ e. let parts = both (not c.zero_out) (int_le c.lo (pos 0) && int_le (pos 0) c.hi) e in
      let sides = both (int_le c.lo (pos 0)) (int_le (pos 0) c.hi) parts.1 in
      (pos 0, record { above = le_of c.lo (pos 0) sides.0; below = le_of (pos 0) c.hi sides.1; nonzero = λ t. absurd (unmarked c.zero_out parts.0 t) }, refl)),
  (λ (w, h, in'). let above = h.above in let below = h.below in
      of_both (not c.zero_out) (int_le c.lo (pos 0) && int_le (pos 0) c.hi) (not_marked c.zero_out (λ t. h.nonzero t in'))
      (of_both (int_le c.lo (pos 0)) (int_le (pos 0) c.hi) (of_le c.lo (pos 0) (omega (arith, ints))) (of_le (pos 0) c.hi (omega (arith, ints))))),
)

abbrev pub meets_in : Assumed → Candidate → Bool
meets_in a c = meets (a c.name) c.piece

abbrev pub meeting : List Candidate → Assumed → ℕ
meeting [] a = 0
meeting (c ∷ cs) a = (if meets_in a c then 1 else 0) + meeting cs a

meets_above : (c : Candidate) (a b : Assumed) → IsBelow b a → meets_in b c ≡ true → meets_in a c ≡ true
meets_above c a b below e =
    let some = (meets_is (b c.name) c.piece).0 e in
    (meets_is (a c.name) c.piece).1 (some.0, below c.name some.0 some.1, some.2)

pub meeting_below : (cs : List Candidate) (a b : Assumed) → IsBelow b a → meeting cs b ≤ meeting cs a
meeting_below [] a b below = omega arith
meeting_below (c ∷ cs) a b below = by (meets_in a c) (meets_in b c) (meets_above c a b below) (meeting_below cs a b below)
  where
    by : (x y : Bool) → (y ≡ true → x ≡ true) → meeting cs b ≤ meeting cs a → (if y then 1 else 0) + meeting cs b ≤ (if x then 1 else 0) + meeting cs a
    by true true f rest = omega (arith, rest)
    by true false f rest = omega (arith, rest)
    by false true f rest = absurd (let e = f refl in cc)
    by false false f rest = omega (arith, rest)

-- where the piece of one of them doesn't meet any more, they are fewer
pub meeting_fewer : (cs : List Candidate) (a b : Assumed) (c : Candidate) → IsBelow b a → Contains cs c → Meets (a c.name) c.piece → (Meets (b c.name) c.piece → ⊥) → meeting cs b < meeting cs a
meeting_fewer [] a b c below there met gone = absurd (none_in c there)
meeting_fewer (d ∷ cs) a b c below there met gone =
    ⊎_elim (λ (e : d ≡ c). here (meets_in a d) (meets_in b d) (subst (λ (x : Candidate). meets_in a x ≡ true) (sym e) ((meets_is (a c.name) c.piece).1 met))
    (λ t. gone ((meets_is (b c.name) c.piece).0 (subst (λ (x : Candidate). meets_in b x ≡ true) e t))) (meeting_below cs a b below))
    (λ (later : Contains cs c). further (meets_in a d) (meets_in b d) (meets_above d a b below) (meeting_fewer cs a b c below later met gone))
    (first_or_later d cs c there)
  where
    here : (x y : Bool) → x ≡ true → (y ≡ true → ⊥) → meeting cs b ≤ meeting cs a → (if y then 1 else 0) + meeting cs b < (if x then 1 else 0) + meeting cs a
    here true true e f rest = absurd (f refl)
    here true false e f rest = omega (arith, rest)
    here false y e f rest = absurd (cc)

    further : (x y : Bool) → (y ≡ true → x ≡ true) → meeting cs b < meeting cs a → (if y then 1 else 0) + meeting cs b < (if x then 1 else 0) + meeting cs a
    further true true f rest = omega (arith, rest)
    further true false f rest = omega (arith, rest)
    further false true f rest = absurd (let e = f refl in cc)
    further false false f rest = omega (arith, rest)
