-- Which names have an answer under sufficient conditions.
use Rattle.std.proofs.Common.{◌≡◌, ◌⊎◌, inl, inr, ⊎_elim, suc, pos, Bool, true, false, if◌then◌else◌, Option, Some, None, IfSome, List, [], ◌∷◌, refl, subst, arith, ◌∙◌}
use Rattle.std.specs.List.{Contains}
use Rattle.std.specs.Str.{bytes_eq}
use Rattle.std.proofs.lemmas.Int.{ints}
use Rattle.vmv_tree.specs.declared.name.Name.{Name}
use Rattle.vmv_cond.specs.declared.cond.Cond.{Cond}
use Rattle.vmv_cond.specs.Cond.{IsEmpty}
use Rattle.vmv_snapshot.specs.Procs.{outsides}
use Rattle.vmv_snapshot.specs.Resolution.{Resolution, tree_of}
use Rattle.vmv_assumption.specs.Whole.{whole}
use Rattle.vmv_assumption.specs.Assumed.{names_of, is_for, cond_of}
use Rattle.vmv_assumption.proofs.Names.{same_bytes}
use Rattle.vmv_need.specs.declared.cut.Cut.{Cut}
use Rattle.vmv_need.specs.declared.needed.Needed.{Needed}
use Rattle.vmv_need.specs.declared.needed.Needed.TheVariants.{Conditions}
use Rattle.vmv_need.specs.Needed.{IsNeeded}
use Rattle.vmv_enough.specs.Enough.{NoneEmpty}

-- a fact of the value, where there is one
pub of_some : {A : Type 0} (P : A → Type 0) (o : Option A) (a : A) → IfSome o P → o ≡ Some a → P a
of_some P (Some b) a h e = let s : b ≡ a = cc in subst P s h
of_some P None a h e = absurd (cc)

-- a name is held, or has the whole condition
held_or_whole : (held : List (Name × Cond)) (name : Name) → Contains (names_of held) name ⊎ (cond_of held name ≡ whole)
held_or_whole [] name = inr refl
held_or_whole (p ∷ held) name = by (bytes_eq p.0 name) refl (held_or_whole held name)
  where
    picked : (b : Bool) (x y : Cond) → b ≡ false → (if b then x else y) ≡ y
    picked true x y e = absurd (cc)
    picked false x y e = refl

    by : (b : Bool) → bytes_eq p.0 name ≡ b → Contains (names_of held) name ⊎ (cond_of held name ≡ whole) → Contains (names_of (p ∷ held)) name ⊎ (cond_of (p ∷ held) name ≡ whole)
    by true e rest = inl (0, omega arith, same_bytes p.0 name e)
    by false e rest = ⊎_elim
        (λ (c : Contains (names_of held) name). inl (suc c.0, (let h = c.1 in omega (arith, h)), c.2))
        (λ (w : cond_of held name ≡ whole). inr (picked (is_for name p) p.1 (cond_of held name) e ∙ w))
        rest

whole_has_words : IsEmpty whole → ⊥
whole_has_words none = none (pos 0) (record { above = omega (arith, ints); below = omega (arith, ints); nonzero = λ t. absurd (cc) })

-- where each name of the base has an answer, so has each of another program
pub answers_everywhere : (base revision : Resolution) (conds : List (Name × Cond)) → names_of conds ≡ outsides (tree_of base) → NoneEmpty base (cond_of conds) → NoneEmpty revision (cond_of conds)
answers_everywhere base revision conds names nonempty name there empty =
    ⊎_elim
    (λ (c : Contains (names_of conds) name). nonempty name (subst (λ (ns : List Name). Contains ns name) names c) empty)
    (λ (w : cond_of conds name ≡ whole). whole_has_words (subst IsEmpty w empty))
    (held_or_whole conds name)

-- the necessary conditions of a base that isn't vacuous hold its names, each of which has an answer
pub needed_names : (base : Resolution) (needed : Needed) (held : List (Name × Cond)) (cuts : List Cut) → IsNeeded base needed → needed ≡ Conditions held cuts → names_of held ≡ outsides (tree_of base)
needed_names base needed held cuts is e =
    let P : Needed → Type 0 = λ it. IsNeeded base it in
    let found = subst P e is in
    (found.2).names

pub needed_nonempty : (base : Resolution) (needed : Needed) (held : List (Name × Cond)) (cuts : List Cut) → IsNeeded base needed → needed ≡ Conditions held cuts → NoneEmpty base (cond_of held)
needed_nonempty base needed held cuts is e =
    let P : Needed → Type 0 = λ it. IsNeeded base it in
    let found = subst P e is in
    λ name there empty. (found.2).not_vacuous (inl (name, there, empty))
