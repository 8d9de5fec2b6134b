-- States that tell the same are equal.
use Rattle.std.proofs.Common.{◌≡◌, ℕ, ◌+◌, ◌*◌, ◌/◌, ◌%◌, ◌<◌, ◌≤◌, ℤ, pos, Bool, true, false, IsTrue, IsFalse, List, length, get_or, refl, sym, ◌∙◌, subst, ap, arith, rules, inl, inr, ⊎_elim}
use Rattle.std.proofs.Props.{props}
use Rattle.std.proofs.lemmas.Int.{ints}
use Rattle.std.proofs.lemmas.List.{same_lists, get_or_default}
use Rattle.std.proofs.lemmas.Bool.{cases_lt}
use Rattle.vmv_zone.specs.declared.zone.Zone.{Zone}
use Rattle.vmv_zone.specs.Bounds.{bound_at, IsMarkedIn, AreInReach, AreUnderTop, AreZeroOutside, AreOnVariables, AreBlank}
use Rattle.vmv_zone.specs.Zone.{IsTighter, IsBelow, IsNormOf}

-- what is kept of every state
record AreKept (vars : ℕ) (bottom : Bool) (bounds : List ℤ) (marks : List Bool) : Type 0 where
  pub few : vars ≤ 17
  pub full : length bounds ≡ 324
  pub reach : AreInReach bounds
  pub topped : AreUnderTop vars bounds
  pub outside : AreZeroOutside vars bounds
  pub sized : length marks ≡ 18
  pub variables : AreOnVariables vars marks
  pub emptied : IsTrue bottom → AreBlank bounds marks

are_kept_once : (vars : ℕ) (bottom : Bool) (bounds : List ℤ) (marks : List Bool) → IsProp (AreKept vars bottom bounds marks)
are_kept_once vars bottom bounds marks = hlevel props

abbrev zone_of : (vars : ℕ) (bottom : Bool) (bounds : List ℤ) (marks : List Bool) → AreKept vars bottom bounds marks → Zone
zone_of vars bottom bounds marks k = record {
  vars = vars;
  bottom = bottom;
  bounds = bounds;
  marks = marks;
  few = k.few;
  full = k.full;
  reach = k.reach;
  topped = k.topped;
  outside = k.outside;
  sized = k.sized;
  variables = k.variables;
  emptied = k.emptied;
}

abbrev kept_of : (z : Zone) → AreKept z.vars z.bottom z.bounds z.marks
kept_of z = record {
  few = z.few;
  full = z.full;
  reach = z.reach;
  topped = z.topped;
  outside = z.outside;
  sized = z.sized;
  variables = z.variables;
  emptied = z.emptied;
}

same_parts : (v v' : ℕ) (b b' : Bool) (bs bs' : List ℤ) (ms ms' : List Bool) (k : AreKept v b bs ms) (k' : AreKept v' b' bs' ms') →
    v ≡ v' → b ≡ b' → bs ≡ bs' → ms ≡ ms' → zone_of v b bs ms k ≡ zone_of v' b' bs' ms' k'
same_parts v v' b b' bs bs' ms ms' k k' e f g h =
    let P : ℕ → Type 0 = λ w. (c : Bool) (cs : List ℤ) (ns : List Bool) (l : AreKept w c cs ns) → b ≡ c → bs ≡ cs → ms ≡ ns → zone_of v b bs ms k ≡ zone_of w c cs ns l in
    let Q : Bool → Type 0 = λ c. (cs : List ℤ) (ns : List Bool) (l : AreKept v c cs ns) → bs ≡ cs → ms ≡ ns → zone_of v b bs ms k ≡ zone_of v c cs ns l in
    let R : List ℤ → Type 0 = λ cs. (ns : List Bool) (l : AreKept v b cs ns) → ms ≡ ns → zone_of v b bs ms k ≡ zone_of v b cs ns l in
    let S : List Bool → Type 0 = λ ns. (l : AreKept v b bs ns) → zone_of v b bs ms k ≡ zone_of v b bs ns l in
    subst P e
    (λ c cs ns l f g h. subst Q f (λ cs ns l g h. subst R g (λ ns l h. subst S h (λ l. ap (zone_of v b bs ms) (are_kept_once v b bs ms k l)) l) ns l h) cs ns l g h)
    b' bs' ms' k' f g h

pub same_fields : (a b : Zone) → a.vars ≡ b.vars → a.bottom ≡ b.bottom → a.bounds ≡ b.bounds → a.marks ≡ b.marks → a ≡ b
same_fields a b e f g h = same_parts a.vars b.vars a.bottom b.bottom a.bounds b.bounds a.marks b.marks (kept_of a) (kept_of b) e f g h

-- two facts that give one another are told by one Bool
same_truth : (a b : Bool) → (IsTrue a → IsTrue b) → (IsTrue b → IsTrue a) → a ≡ b
same_truth true true f g = refl
same_truth true false f g = absurd (let h = f (search rules) in search rules)
same_truth false true f g = absurd (let h = g (search rules) in search rules)
same_truth false false f g = refl

-- a bound in reach of no thing past the last one is that of two things
in_a_row : (P : ℕ → Type 0) → ((i j : ℕ) → i < 18 → j < 18 → P (18 * i + j)) → (k : ℕ) → k < 324 → P k
in_a_row P at k inside =
    let whole : 18 * (k / 18) + k % 18 ≡ k = omega arith in
    subst P whole (at (k / 18) (k % 18) (omega arith) (omega arith))

same_bound : (a b : Zone) → a.vars ≡ b.vars → IsTighter a b → IsTighter b a → (i j : ℕ) → i < 18 → j < 18 → bound_at a.bounds i j ≡ bound_at b.bounds i j
same_bound a b e one two i j hi hj =
    ⊎_elim
    (λ (past : a.vars < i). a.outside i j hi hj (inl past) ∙ sym (b.outside i j hi hj (inl (omega (arith, e)))))
    (λ (hi' : i ≤ a.vars).
    ⊎_elim
    (λ (past : a.vars < j). a.outside i j hi hj (inr past) ∙ sym (b.outside i j hi hj (inr (omega (arith, e)))))
    (λ (hj' : j ≤ a.vars). let x = one.bounds i j (omega (arith, e)) (omega (arith, e)) in let y = two.bounds i j hi' hj' in omega (arith, ints))
    (cases_lt a.vars j))
    (cases_lt a.vars i)

same_bounds : (a b : Zone) → ((k : ℕ) → k < 324 → get_or a.bounds k (pos 0) ≡ get_or b.bounds k (pos 0)) → a.bounds ≡ b.bounds
same_bounds a b at = same_lists a.bounds b.bounds (a.full ∙ sym b.full)
    (λ k d inside. get_or_default a.bounds k d (pos 0) (omega (arith, a.full)) ∙ at k (omega (arith, a.full)) ∙ get_or_default b.bounds k (pos 0) d (omega (arith, a.full, b.full)))

same_marks : (a b : Zone) → ((i : ℕ) → IsMarkedIn a.marks i → IsMarkedIn b.marks i) → ((i : ℕ) → IsMarkedIn b.marks i → IsMarkedIn a.marks i) → a.marks ≡ b.marks
same_marks a b sub sup = same_lists a.marks b.marks (a.sized ∙ sym b.sized)
    (λ k d inside. get_or_default a.marks k d false (omega (arith, a.sized)) ∙ same_truth (get_or a.marks k false) (get_or b.marks k false) (sub k) (sup k) ∙ get_or_default b.marks k false d (omega (arith, a.sized, b.sized)))

-- a mark of b, on the variables of both, is one of a
marks_along : (a b : Zone) → a.vars ≡ b.vars → IsTighter a b → (i : ℕ) → IsMarkedIn b.marks i → IsMarkedIn a.marks i
marks_along a b e below i marked = let at = b.variables i marked in below.marks i at.0 at.1 marked

both_bottom : (a b : Zone) → a.vars ≡ b.vars → IsTrue a.bottom → IsTrue b.bottom → a ≡ b
both_bottom a b e t u =
    let x = a.emptied t in
    let y = b.emptied u in
    same_fields a b e (same_truth a.bottom b.bottom (λ h. u) (λ h. t))
    (same_bounds a b (λ k inside. x.zeros k ∙ sym (y.zeros k)))
    (same_marks a b (λ i marked. absurd (x.unmarked i marked)) (λ i marked. absurd (y.unmarked i marked)))

neither_bottom : (a b : Zone) → a.vars ≡ b.vars → IsTighter a b → IsTighter b a → a ≡ b
neither_bottom a b e one two =
    same_fields a b e (two.not_bottom ∙ sym one.not_bottom)
    (same_bounds a b (in_a_row (λ k. get_or a.bounds k (pos 0) ≡ get_or b.bounds k (pos 0)) (same_bound a b e one two)))
    (same_marks a b (marks_along b a (sym e) two) (marks_along a b e one))

-- what holds in both cases holds
pub by_truth : {P : Type 0} (z : Bool) → (IsTrue z → P) → (IsFalse z → P) → P
by_truth true f g = f refl
by_truth false f g = g refl

pub clash : {P : Type 0} (z : Bool) → IsTrue z → IsFalse z → P
clash true t f = absurd (search rules)
clash false t f = absurd (search rules)

-- states that are below one another are equal
pub below_both : (a b : Zone) → a.vars ≡ b.vars → IsBelow a b → IsBelow b a → a ≡ b
below_both a b e one two =
    by_truth a.bottom
    (λ t. by_truth b.bottom (λ u. both_bottom a b e t u) (λ g. clash a.bottom t (two g).not_bottom))
    (λ f. neither_bottom a b e (one f) (two (one f).not_bottom))

-- a state has one norm
pub norm_once : (z m n : Zone) → IsNormOf z m → IsNormOf z n → m ≡ n
norm_once z m n one two =
    below_both m n (one.vars ∙ sym two.vars) (two.greatest m one.vars one.normal one.below) (one.greatest n two.vars two.normal two.below)
