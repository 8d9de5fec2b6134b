-- The names among places of which some have none.
use Rattle.std.proofs.Common.{◌≡◌, ◌⊎◌, inl, inr, ⊎_elim, ℕ, zero, suc, ◌+◌, ◌<◌, Bool, true, false, Option, Some, None, List, [], ◌∷◌, ◌++◌, length, map, slice_get, refl, sym, ap, subst, arith, ◌∙◌}
use Rattle.std.specs.List.{Contains, list_any}
use Rattle.std.proofs.lemmas.List.Elements.{Contains-append_left, Contains-append_right}
use Rattle.vmv_tree.specs.declared.name.Name.{Name}
use Rattle.vmv_snapshot.specs.Resolves.{loop_names}
use Rattle.vmv_snapshot.proofs.NameEq.{name_eq}
use Rattle.vmv_snapshot.proofs.Helpers.{named_in, in_names}
use Rattle.vmv_snapshot.proofs.Lookups.{contains_at, at_contains, past_first}

by_test : {P : Type 0} (b : Bool) → (b ≡ true → P) → (P → b ≡ true) → P ⊎ (P → ⊥)
by_test true f g = inl (f refl)
by_test false f g = inr (λ p. let e = g p in cc)

pub contains_or_not : (xs : List Name) (x : Name) → Contains xs x ⊎ (Contains xs x → ⊥)
contains_or_not xs x = by_test (list_any (name_eq x) xs) (named_in xs x) (in_names xs x)

abbrev pub named : List (Option Name) → List Name
named [] = []
named (None ∷ places) = named places
named (Some name ∷ places) = name ∷ named places

pub named_at : (places : List (Option Name)) (n : ℕ) (x : Name) → slice_get places n ≡ Some (Some x) → Contains (named places) x
named_at [] n x e = absurd (cc)
named_at (None ∷ places) zero x e = absurd (cc)
named_at (None ∷ places) (suc n) x e = named_at places n x e
named_at (Some y ∷ places) zero x e = (0, omega arith, cc)
named_at (Some y ∷ places) (suc n) x e = Contains-append_right (y ∷ []) (named places) x (named_at places n x e)

by_place : (y : Name) (ys : List Name) (x : Name) (k : ℕ) → slice_get (y ∷ ys) k ≡ Some x → (y ≡ x) ⊎ Contains ys x
by_place y ys x zero e = inl (cc)
by_place y ys x (suc k) e = inr (at_contains ys k x e)

pub first_or_further : (y : Name) (ys : List Name) (x : Name) → Contains (y ∷ ys) x → (y ≡ x) ⊎ Contains ys x
first_or_further y ys x h = let at = contains_at (y ∷ ys) x h in by_place y ys x at.0 at.1

pub at_named : (places : List (Option Name)) (x : Name) → Contains (named places) x → (n : ℕ) × (slice_get places n ≡ Some (Some x))
at_named [] x (k, h, e) = absurd (omega arith)
at_named (None ∷ places) x h = let at = at_named places x h in (suc at.0, at.1)
at_named (Some y ∷ places) x h =
    ⊎_elim (λ (e : y ≡ x). (0, ap (λ (z : Name). Some (Some z)) e)) (λ (g : Contains (named places) x). let at = at_named places x g in (suc at.0, at.1)) (first_or_further y (named places) x h)

pub place_or_not : (places : List (Option Name)) (x : Name) → Contains places (Some x) ⊎ (Contains places (Some x) → ⊥)
place_or_not places x =
    ⊎_elim (λ (h : Contains (named places) x). let at = at_named places x h in inl (at_contains places at.0 (Some x) at.1))
    (λ (none : Contains (named places) x → ⊥). inr (λ h. let at = contains_at places (Some x) h in none (named_at places at.0 x at.1)))
    (contains_or_not (named places) x)

pub named-append : (xs ys : List (Option Name)) → named (xs ++ ys) ≡ named xs ++ named ys
named-append [] ys = refl
named-append (None ∷ xs) ys = named-append xs ys
named-append (Some x ∷ xs) ys = ap (λ t. x ∷ t) (named-append xs ys)

pub named-some : (xs : List Name) → named (map (λ x. Some x) xs) ≡ xs
named-some [] = refl
named-some (x ∷ xs) = ap (λ t. x ∷ t) (named-some xs)

pub named-loops : (indexes : List Name) → named (loop_names indexes) ≡ indexes
named-loops [] = refl
named-loops (x ∷ indexes) = ap (λ t. x ∷ t) (named-loops indexes)
