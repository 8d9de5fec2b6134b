-- The bounds that a state gets from those that are read.
use Rattle.std.proofs.Common.{◌≡◌, ◌≢◌, ◌⊎◌, inl, inr, ℕ, ◌+◌, ◌*◌, ◌<◌, ◌≤◌, ◌^◌, ℤ, ◌≤ℤ◌, ◌<ℤ◌, List, [], ◌∷◌, ◌++◌, length, refl, sym, ◌∙◌, subst, arith}
use Rattle.std.specs.List.{Contains}
use Rattle.std.specs.Fmt.{decimal, signed_decimal}
use Rattle.std.proofs.lemmas.Int.{ints}
use Rattle.std.proofs.lemmas.Bool.{cases_lt, cases_eq}
use Rattle.std.proofs.lemmas.List.Elements.{Contains-push_cases, Contains-append_left, Contains-push}
use Rattle.vmv_zone.specs.declared.zone.Zone.{Zone}
use Rattle.vmv_zone.specs.Bounds.{top_bound}
use Rattle.vmv_zone.specs.Zone.{vars_of, bound_of, ChangesBound, IsTop}
use Rattle.vmv_proof_words.specs.Words.{Word}
use Rattle.vmv_proof_words.specs.Taking.{IsBetween, IsBoundWord}
use Rattle.vmv_proof_words.proofs.Digits.{natural_once, bound_once}
use Rattle.vmv_proof_text.specs.States.{Bound}
use Rattle.vmv_proof_text.specs.Naming.{Precedes, AreSorted, IsBoundOf, IsNaming}
use Rattle.vmv_proof_line.specs.StateWords.{IsThingWord, IsUnderTop, Climb, IsNext, IsNextMark, place_of, bound_triple, mark_word, AreBounds, AreMarks}
use Rattle.vmv_proof_line.proofs.Climbing.{IsOnce, same_number, few, has_head, has_tail, climb_has}

-- the state has these bounds, and top's where none of them is
pub record HasBounds (z : Zone) (read : List Bound) : Type 0 where
  pub each : (b : Bound) → Contains read b → IsBoundOf z b
  pub others : (i j : ℕ) → i ≤ vars_of z → j ≤ vars_of z → ((b : Bound) → Contains read b → (b.0 ≡ i) × (b.1 ≡ j) → ⊥) → bound_of z i j ≡ top_bound i j

pub top_has_none : (z : Zone) → IsTop z → HasBounds z []
top_has_none z t = record { each = λ b h. absurd (omega (arith, h.1)); others = λ i j h k none. t.bounds i j h k }

differ : (last : ℕ) (b c : Bound) → place_of c ≤ last → last < place_of b → (c.0 ≢ b.0) ⊎ (c.1 ≢ b.1)
differ last b c h k = by (cases_eq c.0 b.0)
  where
    by : (c.0 ≡ b.0) ⊎ (c.0 ≡ b.0 → ⊥) → (c.0 ≢ b.0) ⊎ (c.1 ≢ b.1)
    by (inl e) = inr (λ f. omega (arith, h, k, e, f))
    by (inr n) = inl n

pub bounds_more : (old new : Zone) (read : List Bound) (last : ℕ) (b : Bound) → HasBounds old read → IsNext (vars_of old) last b → ((c : Bound) → Contains read c → place_of c ≤ last) → ChangesBound old new b.0 b.1 b.2
    → HasBounds new (read ++ b ∷ [])
bounds_more old new read last b h n up ch = record { each = λ c k. each c (Contains-push_cases read b c k); others = others }
  where
    each : (c : Bound) → Contains read c ⊎ (b ≡ c) → IsBoundOf new c
    each c (inl k) =
        let was = h.each c k in
        record {
          first = omega (arith, was.first, ch.vars);
          second = omega (arith, was.second, ch.vars);
          other = was.other;
          same = was.same ∙ sym (ch.others c.0 c.1 was.first was.second (differ last b c (up c k) n.behind));
        }
    each c (inr e) = subst (IsBoundOf new) e (record { first = omega (arith, n.first, ch.vars); second = omega (arith, n.second, ch.vars); other = n.other; same = sym ch.changed })

    others : (i j : ℕ) → i ≤ vars_of new → j ≤ vars_of new → ((c : Bound) → Contains (read ++ b ∷ []) c → (c.0 ≡ i) × (c.1 ≡ j) → ⊥) → bound_of new i j ≡ top_bound i j
    others i j p q none = by (cases_eq i b.0) (cases_eq j b.1)
      where
        kept : (i ≢ b.0) ⊎ (j ≢ b.1) → bound_of new i j ≡ top_bound i j
        kept other =
            let i_in : i ≤ vars_of old = omega (arith, p, ch.vars) in
            let j_in : j ≤ vars_of old = omega (arith, q, ch.vars) in
            ch.others i j i_in j_in other ∙ h.others i j i_in j_in (λ c k e. none c (Contains-append_left read (b ∷ []) c k) e)

        by : (i ≡ b.0) ⊎ (i ≡ b.0 → ⊥) → (j ≡ b.1) ⊎ (j ≡ b.1 → ⊥) → bound_of new i j ≡ top_bound i j
        by (inl e) (inl f) = absurd (none b (Contains-push read b) (sym e, sym f))
        by (inl e) (inr f) = kept (inr f)
        by (inr e) f = kept (inl e)

pub up : (vars p : ℕ) (b : Bound) → IsNext vars p b → p < place_of b
up vars p b h = h.behind

precedes : (vars q : ℕ) (b c : Bound) → vars ≤ 16 → b.1 ≤ vars → place_of b ≤ q → IsNext vars q c → Precedes b c
precedes vars q b c few h k n = by (cases_lt b.0 c.0)
  where
    by : (b.0 < c.0) ⊎ (c.0 ≤ b.0) → Precedes b c
    by (inl less) = inl less
    by (inr most) = inr (omega (arith, few, h, k, n.behind, n.second, most), omega (arith, few, h, k, n.behind, n.second, most))

pub to_sorted : (vars p : ℕ) (bounds : List Bound) → vars ≤ 16 → Climb (IsNext vars) place_of p bounds → AreSorted bounds
to_sorted vars p [] few c = tt
to_sorted vars p (b ∷ bounds) few c = (
  λ x h. let r = climb_has (IsNext vars) place_of (up vars) (place_of b) bounds x c.1 h in precedes vars r.0 b x few c.0.second r.1 r.2,
  to_sorted vars (place_of b) bounds few c.1,
)

-- read bounds are named
pub named : (z : Zone) (vars : ℕ) (bounds : List Bound) → vars ≤ 16 → AreBounds vars bounds → HasBounds z bounds → IsNaming z bounds
named z vars bounds few c h = record { sorted = to_sorted vars 0 bounds few c; each = h.each; others = h.others }

behind : (vars : ℕ) (b c : Bound) → vars ≤ 16 → b.1 ≤ vars → Precedes b c → place_of b < place_of c
behind vars b c few h (inl less) = omega (arith, few, h, less)
behind vars b c few h (inr both) = omega (arith, both.0, both.1)

from_sorted : (z : Zone) (p : ℕ) (bounds : List Bound) → vars_of z ≤ 16 → ((b : Bound) → Contains bounds b → p < place_of b) → AreSorted bounds → ((b : Bound) → Contains bounds b → IsBoundOf z b)
    → Climb (IsNext (vars_of z)) place_of p bounds
from_sorted z p [] few past s h = tt
from_sorted z p (b ∷ bounds) few past s h =
    let one = h b (has_head b bounds) in (
      record {
        first = one.first;
        second = one.second;
        other = one.other;
        behind = past b (has_head b bounds);
        between = let r = z.reach (18 * b.0 + b.1) in subst IsBetween (sym one.same) (record { low = r.low; high = r.high });
        high = subst (λ t. t ≤ℤ top_bound b.0 b.1) (sym one.same) (z.topped b.0 b.1 one.first one.second);
      },
      from_sorted z (place_of b) bounds few (λ c k. behind (vars_of z) b c few one.second (s.0 c k)) s.1 (λ c k. h c (has_tail b bounds c k)),
    )

-- named bounds can be read
pub naming_climbs : (z : Zone) (bounds : List Bound) → vars_of z ≤ 16 → IsNaming z bounds → AreBounds (vars_of z) bounds
naming_climbs z bounds few n = from_sorted z 0 bounds few (λ b h. past b (n.each b h)) n.sorted n.each
  where
    past : (b : Bound) → IsBoundOf z b → 0 < place_of b
    past b h = by (cases_lt 0 (place_of b))
      where
        by : (0 < place_of b) ⊎ (place_of b ≤ 0) → 0 < place_of b
        by (inl some) = some
        by (inr none) = absurd (h.other (omega (arith, none)))

place_top : (vars : ℕ) → vars ≤ 16 → (p : ℕ) (b : Bound) → IsNext vars p b → (p < place_of b) × (place_of b ≤ 528)
place_top vars few p b h = (h.behind, omega (arith, few, h.first, h.second))

pub bounds_few : (vars : ℕ) (bounds : List Bound) → vars ≤ 16 → AreBounds vars bounds → length bounds ≤ 528
bounds_few vars bounds small c = omega (arith, few (IsNext vars) place_of 528 (place_top vars small) 0 bounds (omega arith) c)

pub marks_few : (vars : ℕ) (marks : List ℕ) → vars ≤ 16 → AreMarks vars marks → length marks ≤ 16
marks_few vars marks small c = omega (arith, few (IsNextMark vars) (λ m. m) 16 (λ p m h. (h.0, omega (arith, h.1, small))) 0 marks (omega arith) c)

-- the number of a thing
pub same_thing : (old new rest : List Word) (w : Word) (vars n m : ℕ) → vars < 2 ^ 8 → IsThingWord vars n w → old ≡ w ∷ new → m ≤ vars → old ≡ decimal m ∷ rest → (m ≡ n) × (new ≡ rest)
same_thing old new rest w vars n m small h e k f = same_number old new rest w n m (omega (arith, small, h.0), h.1) e (omega (arith, small, k)) f

pub same_things : (old mid new : List Word) (v w : Word) (vars i j : ℕ) → vars < 2 ^ 8 → IsThingWord vars i v → old ≡ v ∷ mid → IsThingWord vars j w → mid ≡ w ∷ new
    → (b : Bound) (rest : List Word) → b.0 ≤ vars → b.1 ≤ vars → old ≡ bound_triple b ++ rest → (b.0 ≡ i) × (b.1 ≡ j) × (new ≡ signed_decimal b.2 ∷ rest)
same_things old mid new v w vars i j small h e k f b rest p q g =
    let one = same_thing old mid (decimal b.1 ∷ signed_decimal b.2 ∷ rest) v vars i b.0 small h e p g in
    let two = same_thing mid new (signed_decimal b.2 ∷ rest) w vars j b.1 small k f q one.1 in
    (one.0, two.0, two.1)

above : (t c x b : ℤ) → t ≡ b → t <ℤ c → c ≡ x → x ≤ℤ b → ⊥
above t c x b e less f most = grind (arith, ints)

pub not_under : (old new : List Word) (w : Word) (c t : ℤ) (i j : ℕ) → IsBoundWord c w → old ≡ w ∷ new → t ≡ top_bound i j → t <ℤ c → (x : ℤ) (word : Word) (words : List Word) → IsUnderTop i j x word → old ≡ word ∷ words → ⊥
not_under old new w c t i j h e s less x word words k f =
    let both : w ∷ new ≡ word ∷ words = sym e ∙ f in
    let one : w ≡ word = cc in
    above t c x (top_bound i j) s less (bound_once c x w h (k.0.0, one ∙ k.0.1)) k.1

tell_same : (b c : Bound) → b.0 ≡ c.0 → b.1 ≡ c.1 → b.2 ≡ c.2 → b ≡ c
tell_same b c e f g = λ i. (e i, f i, g i)

-- the words of a bound tell it alone
pub bound_told_once : (vars : ℕ) → vars ≤ 16 → IsOnce (IsNext vars) bound_triple
bound_told_once vars small p q x y us vs h k e =
    let one : decimal x.0 ≡ decimal y.0 = cc in
    let two : decimal x.1 ≡ decimal y.1 = cc in
    let three : signed_decimal x.2 ≡ signed_decimal y.2 = cc in
    let rest : us ≡ vs = cc in (
      tell_same x y (natural_once x.0 y.0 (decimal y.0) (omega (arith, small, h.first), sym one) (omega (arith, small, k.first), refl))
          (natural_once x.1 y.1 (decimal y.1) (omega (arith, small, h.second), sym two) (omega (arith, small, k.second), refl))
          (bound_once x.2 y.2 (signed_decimal y.2) (h.between, sym three) (k.between, refl)),
      rest,
    )

pub mark_told_once : (vars : ℕ) → vars ≤ 16 → IsOnce (IsNextMark vars) mark_word
mark_told_once vars small p q x y us vs h k e =
    let one : decimal x ≡ decimal y = cc in
    let rest : us ≡ vs = cc in
    (natural_once x y (decimal y) (omega (arith, small, h.1), sym one) (omega (arith, small, k.1), refl), rest)
