-- What a probe picks.
use Rattle.std.proofs.Common.{unsigned_abs, ◌≡◌, ◌↔◌, ◌⊎◌, inl, inr, ⊎_elim, ◌≤◌, ℤ, pos, negsuc, neg_ℤ, ◌≤ℤ◌, ◌<ℤ◌, Bool, true, false, Option, Some, None, nat_le, if◌then◌else◌, refl, sym, ap, subst, ◌∙◌, arith, unwrap_or, IsNone, IfSome, IfNone}
use Rattle.std.proofs.lemmas.Int.{ints, by_lt_z}
use Rattle.std.proofs.lemmas.Bool.{leb-true, leb-false}
use Rattle.vmv_cond.specs.declared.cond.Cond.{Cond}
use Rattle.vmv_cond.specs.declared.cond.Piece.{Piece}
use Rattle.vmv_cond.specs.declared.cond.Piece.TheVariants.{Below, Above}
use Rattle.vmv_cond.specs.Normal.{InRange}
use Rattle.vmv_cond.specs.Cond.{Holds, IsEmpty}
use Rattle.vmv_cond.specs.Piece.{IsInside}
use Rattle.vmv_cond.proofs.Ranges.{ends_held}
use Rattle.vmv_demands.specs.declared.demand.Demand.{Demand}
use Rattle.vmv_enough.specs.declared.probe.Mode.{Mode}
use Rattle.vmv_enough.specs.declared.probe.Mode.TheVariants.{Least, Greatest, Nearest}
use Rattle.vmv_enough.specs.Picks.{IsPick}
use Rattle.vmv_enough.specs.Probes.{IsInRange, Misses}
use Rattle.vmv_enough.specs.Nearer.{nearer_of}
use Rattle.vmv_enough.proofs.Room.{ordered}

pub least_pick : (c : Cond) → ¬ IsEmpty c → IsPick Least (Holds c) c.lo
least_pick c some = record { among = (ends_held c.lo c.hi c.zero_out c.normal (ordered c some)).0; first = λ v h. h.above }

pub greatest_pick : (c : Cond) → ¬ IsEmpty c → IsPick Greatest (Holds c) c.hi
greatest_pick c some = record { among = (ends_held c.lo c.hi c.zero_out c.normal (ordered c some)).1; first = λ v h. h.below }

-- the word nearest to 0 with this, where there is one
abbrev pub NearestIn : (ℤ → Type 0) → Option ℤ → Type 0
NearestIn P (Some n) = IsPick Nearest P n
NearestIn P None = (w : ℤ) → ¬ P w

-- what the condition's nearest word is told to be
pub nearest_in : (c : Cond) (o : Option ℤ) → IsNone o ↔ IsEmpty c → IfSome o (Holds c) → IfSome o (λ n. Holds c (neg_ℤ n) → pos 0 ≤ℤ n) → IfSome o (λ n. (w : ℤ) → Holds c w → unsigned_abs n ≤ unsigned_abs w) → NearestIn (Holds c) o
nearest_in c None none held tie near = λ w. none.0 refl w
nearest_in c (Some n) none held tie near = record { among = held; first = record { near = near; tie = tie } }

pub nearest_pick : (P : ℤ → Type 0) (o : Option ℤ) (w : ℤ) → NearestIn P o → ¬ ((v : ℤ) → ¬ P v) → w ≡ unwrap_or o (pos 0) → IsPick Nearest P w
nearest_pick P None w none some e = absurd (some none)
nearest_pick P (Some n) w pick some e = subst (λ x. IsPick Nearest P x) (sym e) pick

-- the same words are picked from the same words
pub pick_through : (mode : Mode) (P Q : ℤ → Type 0) (w : ℤ) → ((v : ℤ) → P v ↔ Q v) → IsPick mode P w → IsPick mode Q w
pick_through Least P Q w same p = record { among = (same w).0 p.among; first = λ v h. p.first v ((same v).1 h) }
pick_through Greatest P Q w same p = record { among = (same w).0 p.among; first = λ v h. p.first v ((same v).1 h) }
pick_through Nearest P Q w same p = record {
  among = (same w).0 p.among;
  first = record { near = λ v h. p.first.near v ((same v).1 h); tie = λ h. p.first.tie ((same (neg_ℤ w)).1 h) };
}

pub in_range_is : (range : ℤ × ℤ) (a b w : ℤ) → a ≡ range.0 → b ≡ range.1 → InRange a b false w ↔ IsInRange range w
in_range_is range a b w e f = (
  (λ h. let x = h.above in let y = h.below in (omega (arith, ints, x, e), omega (arith, ints, y, f))),
  (λ h. let x = h.0 in let y = h.1 in record { above = omega (arith, ints, x, e); below = omega (arith, ints, y, f); nonzero = λ t. absurd (cc) }),
)

both_ways : (a b : ℤ) → a ≤ℤ b → b ≤ℤ a → a ≡ b
both_ways a b h g = omega (arith, ints)

abs_neg : (w : ℤ) → unsigned_abs (neg_ℤ w) ≡ unsigned_abs w
abs_neg w = grind (arith, ints)

near_same : (m n : ℤ) → unsigned_abs m ≡ unsigned_abs n → (m ≡ n) ⊎ (neg_ℤ m ≡ n)
near_same (pos a) (pos b) e = inl (omega (arith, ints, e))
near_same (pos a) (negsuc b) e = inr (omega (arith, ints, e))
near_same (negsuc a) (pos b) e = inr (omega (arith, ints, e))
near_same (negsuc a) (negsuc b) e = inl (omega (arith, ints, e))

-- a mode picks one word
pub one_pick : (mode : Mode) (P : ℤ → Type 0) (m n : ℤ) → IsPick mode P m → IsPick mode P n → m ≡ n
one_pick Least P m n p q = both_ways m n (p.first n q.among) (q.first m p.among)
one_pick Greatest P m n p q = both_ways m n (q.first m p.among) (p.first n q.among)
one_pick Nearest P m n p q =
    let here = p.first.near n q.among in
    let there = q.first.near m p.among in
    ⊎_elim (λ e. e)
    (λ (e : neg_ℤ m ≡ n).
    let back : neg_ℤ n ≡ m = ap neg_ℤ (sym e) ∙ neg_neg m in
    let first = p.first.tie (subst P (sym e) q.among) in
    let second = q.first.tie (subst P (sym back) p.among) in
    omega (arith, ints, e))
    (near_same m n (omega (arith, here, there)))
  where
    neg_neg : (k : ℤ) → neg_ℤ (neg_ℤ k) ≡ k
    neg_neg k = omega (arith, ints)

-- a word that meets the condition and misses the demand is below the demand's range or above it, unless it is 0
below_or_above : (c : Cond) (d : Demand) (below above : Cond) (w : ℤ) → IsInside c (Below d.cond.lo) below → IsInside c (Above d.cond.hi) above → ¬ Misses c d (pos 0) → Misses c d w → Holds below w ⊎ Holds above w
below_or_above c d below above w b a zero h =
    by_lt_z w d.cond.lo
    (λ (l : w <ℤ d.cond.lo). inl ((b w).1 (h.0, l)))
    (λ (l : d.cond.lo ≤ℤ w). by_lt_z d.cond.hi w
    (λ (g : d.cond.hi <ℤ w). inr ((a w).1 (h.0, g)))
    (λ (g : w ≤ℤ d.cond.hi). absurd (h.1 (record { above = l; below = g; nonzero = λ t e. zero (subst (λ v. Misses c d v) e h) }))))

missed_below : (c : Cond) (d : Demand) (below : Cond) (w : ℤ) → IsInside c (Below d.cond.lo) below → Holds below w → Misses c d w
missed_below c d below w b h = let p = (b w).0 h in (p.0, λ q. let above = q.above in let less = p.1 in omega (arith, ints))

missed_above : (c : Cond) (d : Demand) (above : Cond) (w : ℤ) → IsInside c (Above d.cond.hi) above → Holds above w → Misses c d w
missed_above c d above w a h = let p = (a w).0 h in (p.0, λ q. let below = q.below in let more = p.1 in omega (arith, ints))

-- where 0 isn't the one, the nearer of the nearest on both sides is
pub nearer_is : (c : Cond) (d : Demand) (below above : Cond) (o p : Option ℤ) → IsInside c (Below d.cond.lo) below → IsInside c (Above d.cond.hi) above → ¬ Misses c d (pos 0) → NearestIn (Holds below) o → NearestIn (Holds above) p →
    NearestIn (Misses c d) (nearer_of o p)
nearer_is c d below above None None b a zero h g = λ w m. ⊎_elim (h w) (g w) (below_or_above c d below above w b a zero m)
nearer_is c d below above None (Some n) b a zero h g = record {
  among = missed_above c d above n a g.among;
  first = record {
    near = λ v m. ⊎_elim (λ x. absurd (h v x)) (λ x. g.first.near v x) (below_or_above c d below above v b a zero m);
    tie = λ m. ⊎_elim (λ x. absurd (h (neg_ℤ n) x)) (λ x. g.first.tie x) (below_or_above c d below above (neg_ℤ n) b a zero m);
  };
}
nearer_is c d below above (Some n) None b a zero h g = record {
  among = missed_below c d below n b h.among;
  first = record {
    near = λ v m. ⊎_elim (λ x. h.first.near v x) (λ x. absurd (g v x)) (below_or_above c d below above v b a zero m);
    tie = λ m. ⊎_elim (λ x. h.first.tie x) (λ x. absurd (g (neg_ℤ n) x)) (below_or_above c d below above (neg_ℤ n) b a zero m);
  };
}
nearer_is c d below above (Some low) (Some high) b a zero h g = by (nat_le (unsigned_abs high) (unsigned_abs low)) refl
  where
    by : (t : Bool) → nat_le (unsigned_abs high) (unsigned_abs low) ≡ t → NearestIn (Misses c d) (if t then Some high else Some low)
    by true e =
        let nearer = leb-true (unsigned_abs high) (unsigned_abs low) e in
        record {
          among = missed_above c d above high a g.among;
          first = record {
            near = λ v m. ⊎_elim (λ x. let far = h.first.near v x in omega (arith, nearer, far)) (λ x. g.first.near v x) (below_or_above c d below above v b a zero m);
            tie = λ m. by_lt_z high (pos 0)
                (λ (l : high <ℤ pos 0). let over = ((a high).0 g.among).1 in g.first.tie ((a (neg_ℤ high)).1 (m.0, omega (arith, ints, over))))
                (λ (l : pos 0 ≤ℤ high). l);
          };
        }
    by false e =
        let nearer = leb-false (unsigned_abs high) (unsigned_abs low) e in
        record {
          among = missed_below c d below low b h.among;
          first = record {
            near = λ v m. ⊎_elim (λ x. h.first.near v x) (λ x. let far = g.first.near v x in omega (arith, nearer, far)) (below_or_above c d below above v b a zero m);
            tie = λ m. ⊎_elim (λ x. h.first.tie x) (λ x. let far = g.first.near (neg_ℤ low) x in let same = abs_neg low in absurd (omega (arith, nearer, far, same))) (below_or_above c d below above (neg_ℤ low) b a zero m);
          };
        }

pub iff_through : {P Q R : Type 0} → P ↔ Q → Q ↔ R → P ↔ R
iff_through a b = ((λ p. b.0 (a.0 p)), (λ r. a.1 (b.1 r)))

-- what the nearer of two is told to be
pub nearer_some : (P : ℤ → Type 0) (o : Option ℤ) → NearestIn P o → IfSome o (IsPick Nearest P)
nearer_some P None h = tt
nearer_some P (Some n) h = h

pub nearer_none : (P : ℤ → Type 0) (o : Option ℤ) → NearestIn P o → IfNone o ((w : ℤ) → ¬ P w)
nearer_none P None h = h
nearer_none P (Some n) h = tt

-- the ends of what is wanted are told by their words
pub inside_along : (c : Cond) (a b : Piece) (d : Cond) → a ≡ b → IsInside c a d → IsInside c b d
inside_along c a b d e h = subst (λ p. IsInside c p d) e h
