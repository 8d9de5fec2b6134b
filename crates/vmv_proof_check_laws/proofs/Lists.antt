-- Two places in a list, and lists that are told by what they have.
use Rattle.std.proofs.Common.{◌≡◌, ⊎_elim, suc, List, [], ◌∷◌, ◌++◌, refl, sym, ap, subst, arith, ◌∙◌}
use Rattle.std.specs.List.{AllPairs, Contains}
use Rattle.vmv_proof_check.proofs.Lists.{none_in, first_in, later_in, first_or_later, append_right}

-- the places of two items of a list are the same, or the one stands before the other
pub by_place : {X P : Type 0} (xs ys xs' ys' : List X) (x y : X) → xs ++ x ∷ xs' ≡ ys ++ y ∷ ys' → (xs ≡ ys → x ≡ y → P) → ((rest : List X) → ys ≡ xs ++ x ∷ rest → P) → ((rest : List X) → xs ≡ ys ++ y ∷ rest → P) → P
by_place [] [] xs' ys' x y e same before behind = same refl (cc)
by_place [] (b ∷ ys) xs' ys' x y e same before behind = let h : b ≡ x = cc in before ys (ap (λ z. z ∷ ys) h)
by_place (a ∷ xs) [] xs' ys' x y e same before behind = let h : a ≡ y = cc in behind xs (ap (λ z. z ∷ xs) h)
by_place (a ∷ xs) (b ∷ ys) xs' ys' x y e same before behind =
    let head : a ≡ b = cc in
    let tail : xs ++ x ∷ xs' ≡ ys ++ y ∷ ys' = cc in
    by_place xs ys xs' ys' x y tail (λ f g. same (λ i. head i ∷ f i) g) (λ rest f. before rest (λ i. sym head i ∷ f i)) (λ rest f. behind rest (λ i. head i ∷ f i))

-- an item of a list with others around it is one of the list
pub part_in : {X : Type 0} (all before after : List X) (x : X) → all ≡ before ++ x ∷ after → Contains all x
part_in all before after x e = subst (λ zs. Contains zs x) (sym e) (append_right before (x ∷ after) x (first_in x after))

-- each stands before all later ones
abbrev pub Ordered : {X : Type 0} → (X → X → Type 0) → List X → Type 0
Ordered R [] = Unit {0}
Ordered R (x ∷ xs) = ((y : _) → Contains xs y → R x y) × Ordered R xs

pub ordered_of : {X : Type 0} (R : X → X → Type 0) (xs : List X) → AllPairs R xs → Ordered R xs
ordered_of R [] h = tt
ordered_of R (x ∷ xs) h = (
  (λ y there. subst (R x) there.2 (let k = there.1 in h 0 (suc there.0) y (omega arith) (omega (arith, k)))),
  ordered_of R xs (λ i j d less within. h (suc i) (suc j) d (omega (arith, less)) (omega (arith, within))),
)

module _ {X : Type 0} (R : X → X → Type 0) (apart : (a b : X) → R a b → R b a → ⊥) where
  abbrev pub AreAmong : List X → List X → Type 0
  AreAmong xs ys = (x : X) → Contains xs x → Contains ys x

  -- behind equal first items the rest of the one list is in the rest of the other
  rest_among : (x y : X) (xs ys : List X) → x ≡ y → ((z : X) → Contains xs z → R x z) → AreAmong (x ∷ xs) (y ∷ ys) → AreAmong xs ys
  rest_among x y xs ys same later among z there =
      ⊎_elim
      (λ (e : y ≡ z). let self : R z z = subst (λ v. R v z) (same ∙ e) (later z there) in absurd (apart z z self self))
      (λ (t : Contains ys z). t)
      (first_or_later y ys z (among z (later_in x xs z there)))

  -- two lists in order that have the same are the same
  pub one_order : (xs ys : List X) → Ordered R xs → Ordered R ys → AreAmong xs ys → AreAmong ys xs → xs ≡ ys
  one_order [] [] p q f g = refl
  one_order [] (y ∷ ys) p q f g = absurd (none_in y (g y (first_in y ys)))
  one_order (x ∷ xs) [] p q f g = absurd (none_in x (f x (first_in x xs)))
  one_order (x ∷ xs) (y ∷ ys) p q f g =
      let same : x ≡ y =
      ⊎_elim
      (λ (e : y ≡ x). sym e)
      (λ (later : Contains ys x).
      ⊎_elim (λ (e : x ≡ y). e) (λ (later' : Contains xs y). absurd (apart x y (p.0 y later') (q.0 x later))) (first_or_later x xs y (g y (first_in y ys))))
      (first_or_later y ys x (f x (first_in x xs))) in
      let rest = one_order xs ys p.1 q.1 (rest_among x y xs ys same p.0 f) (rest_among y x ys xs (sym same) q.0 g) in
      λ i. same i ∷ rest i
