-- Conditions kept to a level, one name after another.
use Rattle.std.proofs.Common.{◌≡◌, ◌≢◌, ◌⊎◌, inl, inr, ⊎_elim, ℕ, ◌+◌, ◌<◌, ◌≤◌, List, [], ◌∷◌, ◌++◌, length, take, get_or, refl, sym, ap, subst, ◌∙◌, arith, Bool, true, false, ℤ, pos, neg_ℤ, ◌^◌, ◌*◌, ◌%◌, ◌-ℤ◌, ◌≤ℤ◌, ◌<ℤ◌, w64, ◌↔◌, to_z}
use Rattle.std.specs.List.{Contains}
use Rattle.std.specs.Str.{bytes_eq}
use Rattle.std.proofs.Math.Pow.{pow-lt}
use Rattle.std.proofs.lemmas.Int.{ints, to_z_pos}
use Rattle.std.proofs.lemmas.List.{take_all}
use Rattle.std.proofs.lemmas.List.Elements.{Contains-append_left, Contains-append_right, Contains-push_cases}
use Rattle.vmv_tree.specs.declared.name.Name.{Name}
use Rattle.vmv_cond.specs.declared.cond.Cond.{Cond}
use Rattle.vmv_cond.specs.Normal.{InRange}
use Rattle.vmv_cond.specs.Cond.{Holds, IsEmpty, IsMeet}
use Rattle.vmv_cond.proofs.Same.{same_words}
use Rattle.vmv_snapshot.specs.Procs.{outsides}
use Rattle.vmv_snapshot.specs.Resolution.{Resolution, tree_of}
use Rattle.vmv_snapshot.proofs.Zips.{take_one_more}
use Rattle.vmv_assumption.specs.Assumed.{Assumed}
use Rattle.vmv_assumption.specs.Change.{IsSet}
use Rattle.vmv_assumption.proofs.Names.{same_bytes, bytes_same}
use Rattle.vmv_enough.specs.Levels.{InLevel, IsLevelMeet, IsKeptTo, IsLevelled}
use Rattle.vmv_enough.proofs.Lists.{none_in, first_in, further, first_or_further}

-- kept to a level twice is kept to it once
twice : (k : ℕ) (a b c : Cond) → IsKeptTo k a b → IsKeptTo k b c → IsKeptTo k a c
twice k a b c h g = record {
  met = h.met;
  meet = h.meet;
  choice = ⊎_elim one other h.choice;
}
  where
    one : ¬ IsEmpty h.met × (b ≡ h.met) → (¬ IsEmpty h.met × (c ≡ h.met)) ⊎ (IsEmpty h.met × (c ≡ a))
    one (some, e) =
        let same : g.met ≡ h.met = same_words g.met h.met
        (λ w p. subst (λ x. Holds x w) e ((g.meet w).0 p).0)
        (λ w p. (g.meet w).1 (subst (λ x. Holds x w) (sym e) p, ((h.meet w).0 p).1)) in
        inl (some, ⊎_elim (λ p. p.1 ∙ same) (λ p. p.1 ∙ e) g.choice)

    other : IsEmpty h.met × (b ≡ a) → (¬ IsEmpty h.met × (c ≡ h.met)) ⊎ (IsEmpty h.met × (c ≡ a))
    other (none, e) =
        let same : g.met ≡ h.met = same_words g.met h.met
        (λ w p. (h.meet w).1 (subst (λ x. Holds x w) e ((g.meet w).0 p).0, ((g.meet w).0 p).1))
        (λ w p. absurd (none w p)) in
        ⊎_elim (λ p. absurd (p.0 (subst IsEmpty (sym same) none))) (λ p. inr (none, p.1 ∙ e)) g.choice

-- the first so many names are kept to the level, and the others are as they were
pub record IsLevelledUpto (k : ℕ) (names : List Name) (a b : Assumed) (i : ℕ) : Type 0 where
  pub there : (name : Name) → Contains (take i names) name → IsKeptTo k (a name) (b name)
  pub elsewhere : (name : Name) → ¬ Contains (take i names) name → b name ≡ a name

take_none : {A : Type 0} (xs : List A) → take 0 xs ≡ []
take_none [] = refl
take_none (x ∷ xs) = refl

pub levelled_start : (k : ℕ) (names : List Name) (a : Assumed) → IsLevelledUpto k names a a 0
levelled_start k names a = record {
  there = λ name h. absurd (none_in name (subst (λ xs. Contains xs name) (take_none names) h));
  elsewhere = λ name h. refl;
}

in_or_not : (names : List Name) (name : Name) → Contains names name ⊎ ¬ Contains names name
in_or_not [] name = inr (λ h. none_in name h)
in_or_not (x ∷ names) name = by (bytes_eq x name) refl (in_or_not names name)
  where
    by : (t : Bool) → bytes_eq x name ≡ t → Contains names name ⊎ ¬ Contains names name → Contains (x ∷ names) name ⊎ ¬ Contains (x ∷ names) name
    by true e rest = inl (subst (λ y. Contains (x ∷ names) y) (same_bytes x name e) (first_in x names))
    by false e (inl h) = inl (further x names name h)
    by false e (inr n) = inr (λ h. ⊎_elim (λ (same : x ≡ name). let t = bytes_same x name same in absurd (cc)) (λ h. n h) (first_or_further x names name h))

pub levelled_more : (k : ℕ) (names : List Name) (a b c : Assumed) (i : ℕ) (x : Name) (cond : Cond) → i < length names → x ≡ get_or names i x → IsLevelledUpto k names a b i → IsKeptTo k (b x) cond → IsSet b x cond c → IsLevelledUpto k names a c (i + 1)
levelled_more k names a b c i x cond h is up kept set = record {
  there = λ name t. there name (bytes_eq x name) refl t;
  elsewhere = λ name n.
      let apart : name ≢ x = λ e. n (subst (λ xs. Contains xs name) (sym front) (Contains-append_right (take i names) (x ∷ []) name (subst (λ y. Contains (x ∷ []) y) (sym e) (first_in x [])))) in
      set.elsewhere name apart ∙ up.elsewhere name (λ t. n (subst (λ xs. Contains xs name) (sym front) (Contains-append_left (take i names) (x ∷ []) name t)));
}
  where
    front : take (i + 1) names ≡ take i names ++ x ∷ []
    front = take_one_more names i x h is

    here : IsKeptTo k (a x) (c x)
    here = ⊎_elim
        (λ (t : Contains (take i names) x). subst (λ y. IsKeptTo k (a x) y) (sym set.there) (twice k (a x) (b x) cond (up.there x t) kept))
        (λ (n : ¬ Contains (take i names) x). subst (λ y. IsKeptTo k (a x) y) (sym set.there) (subst (λ y. IsKeptTo k y cond) (up.elsewhere x n) kept))
        (in_or_not (take i names) x)

    there : (name : Name) (t : Bool) → bytes_eq x name ≡ t → Contains (take (i + 1) names) name → IsKeptTo k (a name) (c name)
    there name true e t = subst (λ y. IsKeptTo k (a y) (c y)) (same_bytes x name e) here
    there name false e t =
        let apart : x ≢ name = λ same. let u = bytes_same x name same in absurd (cc) in
        ⊎_elim
        (λ (old : Contains (take i names) name). subst (λ y. IsKeptTo k (a name) y) (sym (set.elsewhere name (λ same. apart (sym same)))) (up.there name old))
        (λ (same : x ≡ name). absurd (apart same))
        (Contains-push_cases (take i names) x name (subst (λ xs. Contains xs name) front t))

pub levelled_end : (program : Resolution) (k : ℕ) (names : List Name) (a b : Assumed) (i : ℕ) → names ≡ outsides (tree_of program) → length names ≤ i → IsLevelledUpto k names a b i → IsLevelled program k a b
levelled_end program k names a b i same all up =
    let front : take i names ≡ outsides (tree_of program) = take_all i names all ∙ same in
    record {
      there = λ name t. up.there name (subst (λ xs. Contains xs name) (sym front) t);
      elsewhere = λ name n. up.elsewhere name (λ t. n (subst (λ xs. Contains xs name) front t));
    }

-- the power that a level is told by
pub level_size : (k : ℕ) → k < 63 → 2 ^ k < 2 ^ 63
level_size k h = pow-lt h

pub shifted : (p : ℕ) → p < 2 ^ 63 → to_z w64 (1 * p % 18446744073709551616) ≡ pos p
shifted p h = ap (λ n. to_z w64 n) (small p h) ∙ to_z_pos w64 p h
  where
    small : (p : ℕ) → p < 2 ^ 63 → 1 * p % 18446744073709551616 ≡ p
    small p h = grind arith

pub level_words : (lo hi : ℤ) (p : ℕ) (c : Cond) → lo ≡ neg_ℤ (pos p) → hi ≡ pos p -ℤ pos 1 → ((w : ℤ) → Holds c w ↔ InRange lo hi false w) → (w : ℤ) → Holds c w ↔ ((neg_ℤ (pos p) ≤ℤ w) × (w <ℤ pos p))
level_words lo hi p c low high is w = (
  (λ h. let r = (is w).0 h in let above = r.above in let below = r.below in (omega (arith, ints, low, above), omega (arith, ints, high, below))),
  (λ h. let x = h.0 in let y = h.1 in (is w).1 (record { above = omega (arith, ints, low, x); below = omega (arith, ints, high, y); nonzero = λ t. absurd (cc) })),
)

-- what is met with the words of a level
pub level_meet : (k : ℕ) (had level met : Cond) → ((w : ℤ) → Holds level w ↔ InLevel k w) → IsMeet had level met → IsLevelMeet k had met
level_meet k had level met is meet w = (
  (λ h. let p = (meet w).0 h in (p.0, (is w).0 p.1)),
  (λ h. (meet w).1 (h.0, (is w).1 h.1)),
)
