-- Bytes tell one state.
use Rattle.std.proofs.Common.{◌≡◌, ◌⊎◌, inl, inr, ℕ, zero, suc, ◌+◌, ◌*◌, ◌≤◌, List, [], ◌∷◌, ◌++◌, map, refl, sym, subst, ◌∙◌, arith}
use Rattle.std.specs.Prelude.{codes}
use Rattle.std.specs.Fmt.{decimal}
use Rattle.std.specs.List.{All, Contains}
use Rattle.std.proofs.lemmas.Bool.{cases_eq}
use Rattle.std.proofs.lemmas.Fmt.{decimal_injective}
use Rattle.std.proofs.lemmas.Int.{ints}
use Rattle.std.proofs.lemmas.List.{append_cancel_left}
use Rattle.std.proofs.lemmas.List.Elements.{All-contains_itself, All-weaker}
use Rattle.vmv_zone.specs.declared.zone.Zone.{Zone}
use Rattle.vmv_zone.specs.Zone.{vars_of, bound_of, IsBottom, NotBottom, IsTighter}
use Rattle.vmv_zone.specs.Bounds.{IsInReach}
use Rattle.vmv_zone.proofs.Equal.{below_both, clash}
use Rattle.vmv_proof_text.specs.States.{Bound, marked_variables}
use Rattle.vmv_proof_text.specs.Naming.{IsNaming}
use Rattle.vmv_proof_text.specs.Lines.{IsState, IsTold}
use Rattle.vmv_proof_read.proofs.WordLists.{same_words}
use Rattle.vmv_proof_read.proofs.StateWords.{bound_list, marks_list, told_words, state_spelled, state_words, IsFit, bounds_once, marks_once}
use Rattle.vmv_proof_read.proofs.Marks.{named_marked, marked_named, marks_are_counts}

-- a bound on these things stands in the list
pub record HasBoundOn (bs : List Bound) (i j : ℕ) : Type 0 where
  pub bound : Bound
  pub at : Contains bs bound
  pub first : bound.0 ≡ i
  pub second : bound.1 ≡ j

abbrev pub LacksBoundOn : List Bound → ℕ → ℕ → Type 0
LacksBoundOn bs i j = (b : Bound) → Contains bs b → (b.0 ≡ i) × (b.1 ≡ j) → ⊥

pub either_bound : (bs : List Bound) (i j : ℕ) → HasBoundOn bs i j ⊎ LacksBoundOn bs i j
either_bound [] i j = inr (λ b h e. absurd (omega (arith, h.1)))
either_bound (c ∷ bs) i j = by (cases_eq c.0 i) (cases_eq c.1 j) (either_bound bs i j)
  where
    lacks : ((c.0 ≡ i) × (c.1 ≡ j) → ⊥) → LacksBoundOn bs i j → LacksBoundOn (c ∷ bs) i j
    lacks other none b (zero, few, same) e = other (subst (λ d. (d.0 ≡ i) × (d.1 ≡ j)) (sym same) e)
    lacks other none b (suc k, few, same) e = none b (k, omega arith, same) e

    behind : ((c.0 ≡ i) × (c.1 ≡ j) → ⊥) → HasBoundOn bs i j ⊎ LacksBoundOn bs i j → HasBoundOn (c ∷ bs) i j ⊎ LacksBoundOn (c ∷ bs) i j
    behind other (inl r) = inl (record { bound = r.bound; at = (suc r.at.0, omega (arith, r.at.1), r.at.2); first = r.first; second = r.second })
    behind other (inr none) = inr (lacks other none)

    by : (c.0 ≡ i) ⊎ (c.0 ≡ i → ⊥) → (c.1 ≡ j) ⊎ (c.1 ≡ j → ⊥) → HasBoundOn bs i j ⊎ LacksBoundOn bs i j → HasBoundOn (c ∷ bs) i j ⊎ LacksBoundOn (c ∷ bs) i j
    by (inl e) (inl f) rest = inl (record { bound = c; at = (0, omega arith, refl); first = e; second = f })
    by (inl e) (inr f) rest = behind (λ p. f p.1) rest
    by (inr e) f rest = behind (λ p. e p.0) rest

-- states with one naming have the same bounds
same_bound : (x y : Zone) (bs : List Bound) → IsNaming x bs → IsNaming y bs → vars_of x ≡ vars_of y → (i j : ℕ) → i ≤ vars_of x → j ≤ vars_of x → bound_of x i j ≡ bound_of y i j
same_bound x y bs h k e i j hi hj = by (either_bound bs i j)
  where
    by : HasBoundOn bs i j ⊎ LacksBoundOn bs i j → bound_of x i j ≡ bound_of y i j
    by (inl r) =
        let p = (h.each r.bound r.at).same in
        let q = (k.each r.bound r.at).same in
        sym (λ t. bound_of x (r.first t) (r.second t)) ∙ (sym p ∙ (q ∙ (λ t. bound_of y (r.first t) (r.second t))))
    by (inr none) = h.others i j hi hj none ∙ sym (k.others i j (omega (arith, e, hi)) (omega (arith, e, hj)) none)

-- bounds that are named are fit to be told
naming_fit : (z : Zone) (bs : List Bound) → vars_of z ≤ 16 → IsNaming z bs → All IsFit bs
naming_fit z bs few h = All-weaker (Contains bs) IsFit fit bs (All-contains_itself bs)
  where
    fit : (b : Bound) → Contains bs b → IsFit b
    fit b at =
        let r = h.each b at in
        record { first = omega (arith, few, r.first); second = omega (arith, few, r.second); reach = subst IsInReach (sym r.same) (z.reach (18 * b.0 + b.1)) }

tighter : (x y : Zone) → NotBottom y → ((i j : ℕ) → i ≤ vars_of y → j ≤ vars_of y → bound_of x i j ≡ bound_of y i j) → vars_of x ≡ vars_of y → marked_variables x ≡ marked_variables y → IsTighter x y
tighter x y not_bottom same vars marks = record {
  not_bottom = not_bottom;
  bounds = λ i j hi hj. omega (arith, ints, same i j hi hj);
  marks = λ i low high m. (named_marked x (vars_of x) i (subst (λ ms. Contains ms i) (sym marks) (marked_named y (vars_of y) i low high m))).marked;
}

-- what the words of two told states share
record AreSame (x y : Zone) (bs cs : List Bound) : Type 0 where
  vars : vars_of x ≡ vars_of y
  bounds : bs ≡ cs
  marks : marked_variables x ≡ marked_variables y

same_told : (x y : Zone) (bytes : List ℕ) → vars_of x ≤ 16 → vars_of y ≤ 16 → (h : IsTold x bytes) (k : IsTold y bytes) → AreSame x y h.bounds k.bounds
same_told x y bytes few less h k =
    let words = same_words (told_words (vars_of x) h.bounds (marked_variables x)) (told_words (vars_of y) k.bounds (marked_variables y))
    (state_words (vars_of x) h.bounds (marked_variables x)) (state_words (vars_of y) k.bounds (marked_variables y))
    (sym (state_spelled (vars_of x) h.bounds (marked_variables x)) ∙ (sym h.same ∙ (k.same ∙ state_spelled (vars_of y) k.bounds (marked_variables y)))) in
    let vars : decimal (vars_of x) ≡ decimal (vars_of y) = cc in
    let tail : bound_list h.bounds ++ codes "nonzero" ∷ marks_list (marked_variables x) ≡ bound_list k.bounds ++ codes "nonzero" ∷ marks_list (marked_variables y) = cc in
    let both = bounds_once h.bounds k.bounds (marks_list (marked_variables x)) (marks_list (marked_variables y)) (naming_fit x h.bounds few h.naming) (naming_fit y k.bounds less k.naming) tail in
    let behind = both.1 in
    let marks : map decimal (marked_variables x) ≡ map decimal (marked_variables y) = cc in
    record {
      vars = decimal_injective (vars_of x) (vars_of y) (omega (arith, few)) (omega (arith, less)) vars;
      bounds = both.0;
      marks = marks_once (marked_variables x) (marked_variables y) (marks_are_counts x few) (marks_are_counts y less) marks;
    }

told_once : (x y : Zone) (bytes : List ℕ) → vars_of x ≤ 16 → vars_of y ≤ 16 → IsTold x bytes → IsTold y bytes → x ≡ y
told_once x y bytes few less h k =
    let s = same_told x y bytes few less h k in
    let named = subst (IsNaming x) s.bounds h.naming in
    let same = same_bound x y k.bounds named k.naming s.vars in
    below_both x y s.vars
    (λ f. tighter x y k.not_bottom (λ i j hi hj. same i j (omega (arith, s.vars, hi)) (omega (arith, s.vars, hj))) s.vars s.marks)
    (λ f. tighter y x h.not_bottom (λ i j hi hj. sym (same i j hi hj)) (sym s.vars) (sym s.marks))

bottom_once : (x y : Zone) (bytes : List ℕ) → vars_of x ≤ 16 → vars_of y ≤ 16 → IsBottom x → IsBottom y → bytes ≡ codes " bottom " ++ decimal (vars_of x) → bytes ≡ codes " bottom " ++ decimal (vars_of y) → x ≡ y
bottom_once x y bytes few less b c e f =
    let vars = decimal_injective (vars_of x) (vars_of y) (omega (arith, few)) (omega (arith, less)) (append_cancel_left (codes " bottom ") (decimal (vars_of x)) (decimal (vars_of y)) (sym e ∙ f)) in
    below_both x y vars (λ n. clash x.bottom b n) (λ n. clash y.bottom c n)

bottom_not_told : (x y : Zone) (bytes : List ℕ) → bytes ≡ codes " bottom " ++ decimal (vars_of x) → IsTold y bytes → ⊥
bottom_not_told x y bytes e k =
    let f = sym e ∙ k.same in
    let s : ◌≡◌ {A = ℕ} 98 118 = cc in
    omega arith

pub one_state_told : (x y : Zone) (bytes : List ℕ) → IsState x bytes → IsState y bytes → x ≡ y
one_state_told x y bytes (few, inl (b, e)) (less, inl (c, f)) = bottom_once x y bytes few less b c e f
one_state_told x y bytes (few, inl (b, e)) (less, inr k) = absurd (bottom_not_told x y bytes e k)
one_state_told x y bytes (few, inr h) (less, inl (c, f)) = absurd (bottom_not_told y x bytes f h)
one_state_told x y bytes (few, inr h) (less, inr k) = told_once x y bytes few less h k
