-- The project of an owner and a name, in rows that an act changed.
use Rattle.std.proofs.Common.{◌≡◌, ℕ, Bool, true, false, cond, ◌&&◌, List, [], ◌∷◌, ◌++◌, find, Option, Some, None, IsSomeAnd, refl, ap, sym, ◌∙◌, subst}
use Rattle.std.specs.Option.{option_or}
use Rattle.std.specs.Cmp.Lexicographic.{same_text}
use Rattle.std.proofs.lemmas.List.Folds.{find-append}
use Rattle.vmv_keeper.specs.declared.project.Project.{Project}
use Rattle.vmv_keeper.specs.declared.act.Act.{Act}
use Rattle.vmv_keeper.specs.Tables.{is_same, is_named}
use Rattle.vmv_keeper.specs.Changes.{changed, project_after}
use Rattle.vmv_keeper.proofs.FormedReads.{and-true_both}
use Rattle.vmv_keeper.proofs.FormedAfter.{owner_after, name_after}

pub not_true : (b : Bool) → (b ≡ true → ⊥) → b ≡ false
not_true true h = absurd (h refl)
not_true false h = refl

-- a project has one owner and one name
pub named_is : (owner name : List ℕ) (p : Project) → is_named owner name p ≡ true → (p.owner ≡ owner) × (p.name ≡ name)
named_is owner name p e =
    let both = and-true_both (is_same p.owner owner) (is_same p.name name) e in (same_text p.owner owner (sym both.0), same_text p.name name (sym both.1))

-- an act leaves a project its owner and name
pub named_after : (owner name caller : List ℕ) (act : Act) (p : Project) → is_named owner name (project_after caller act p) ≡ is_named owner name p
named_after owner name caller act p =
    ap (λ o. is_same o owner && is_same (project_after caller act p).name name) (owner_after caller act p)
    ∙ ap (λ n. is_same p.owner owner && is_same n name) (name_after caller act p)

-- what is found among rows of which one other is changed

others_found_step : {X : Type 0} (p : X → Bool) (x y : X) (rest later : List X) (b : Bool) → p y ≡ p x → (b ≡ true → p x ≡ false) → find p later ≡ find p rest
    → find p (cond b (y ∷ rest) (x ∷ later)) ≡ find p (x ∷ rest)
others_found_step p x y rest later true same other h =
    ap (λ c. cond c (Some y) (find p rest)) (same ∙ other refl) ∙ sym (ap (λ c. cond c (Some x) (find p rest)) (other refl))
others_found_step p x y rest later false same other h = ap (λ found. cond (p x) (Some x) found) h

pub others_found : {X : Type 0} (p test : X → Bool) (f : X → X) → ((x : X) → p (f x) ≡ p x) → ((x : X) → test x ≡ true → p x ≡ false) → (xs : List X)
    → find p (changed test f xs) ≡ find p xs
others_found p test f same other [] = refl
others_found p test f same other (x ∷ xs) =
    others_found_step p x (f x) xs (changed test f xs) (test x) (same x) (other x) (others_found p test f same other xs)

unpushed : {X : Type 0} (found : Option X) (x : X) (b : Bool) → b ≡ false → option_or found (cond b (Some x) None) ≡ found
unpushed found x true e = absurd (cc e)
unpushed None x false e = refl
unpushed (Some y) x false e = refl

pub others_found_push : {X : Type 0} (p : X → Bool) (xs : List X) (x : X) → p x ≡ false → find p (xs ++ x ∷ []) ≡ find p xs
others_found_push p xs x e = find-append p xs (x ∷ []) ∙ unpushed (find p xs) x (p x) e

-- what was found is found, changed or not

found_at : {X : Type 0} (E : X → X → Type 0) (p : X → Bool) (x y z : X) (rest later : List X) (b c : Bool) → p x ≡ c → p y ≡ p x
    → ((w : X) → E w w) → E x y → cond c (Some x) (find p rest) ≡ Some z → (find p rest ≡ Some z → IsSomeAnd (find p later) (E z))
    → IsSomeAnd (find p (cond b (y ∷ rest) (x ∷ later))) (E z)
found_at E p x y z rest later true true at same self to e h =
    let is : x ≡ z = cc e in
    let P : Option _ → Type 0 = λ found. IsSomeAnd found (E z) in
    let Q : _ → Type 0 = λ w. E w y in
    subst P (sym (ap (λ d. cond d (Some y) (find p rest)) (same ∙ at))) (subst Q is to)
found_at E p x y z rest later true false at same self to e h =
    let P : Option _ → Type 0 = λ found. IsSomeAnd found (E z) in
    subst P (sym (ap (λ d. cond d (Some y) (find p rest)) (same ∙ at) ∙ e)) (self z)
found_at E p x y z rest later false true at same self to e h =
    let P : Option _ → Type 0 = λ found. IsSomeAnd found (E z) in
    subst P (sym (ap (λ d. cond d (Some x) (find p later)) at ∙ e)) (self z)
found_at E p x y z rest later false false at same self to e h =
    let P : Option _ → Type 0 = λ found. IsSomeAnd found (E z) in
    subst P (sym (ap (λ d. cond d (Some x) (find p later)) at)) (h e)

pub found_changed : {X : Type 0} (E : X → X → Type 0) (p test : X → Bool) (f : X → X) → ((x : X) → p (f x) ≡ p x) → ((x : X) → E x x) → ((x : X) → E x (f x))
    → (xs : List X) (z : X) → find p xs ≡ Some z → IsSomeAnd (find p (changed test f xs)) (E z)
found_changed E p test f same self to [] z e = absurd (cc e)
found_changed E p test f same self to (x ∷ xs) z e =
    found_at E p x (f x) z xs (changed test f xs) (test x) (p x) refl (same x) self (to x) e (found_changed E p test f same self to xs z)

pub found_push : {X : Type 0} (p : X → Bool) (xs : List X) (x z : X) → find p xs ≡ Some z → find p (xs ++ x ∷ []) ≡ Some z
found_push p xs x z e = find-append p xs (x ∷ []) ∙ ap (λ found. option_or found (find p (x ∷ []))) e

pushed : {X : Type 0} (x : X) (b : Bool) → b ≡ true → cond b (Some x) None ≡ Some x
pushed x true e = refl
pushed x false e = absurd (cc e)

pub new_found_push : {X : Type 0} (p : X → Bool) (xs : List X) (x : X) → find p xs ≡ None → p x ≡ true → find p (xs ++ x ∷ []) ≡ Some x
new_found_push p xs x none e = find-append p xs (x ∷ []) ∙ ap (λ found. option_or found (find p (x ∷ []))) none ∙ pushed x (p x) e

changed_found_step : {X : Type 0} (p : X → Bool) (x y z fz : X) (rest later : List X) (b : Bool) → p x ≡ b → p y ≡ p x → (x ≡ z → y ≡ fz) → cond b (Some x) (find p rest) ≡ Some z
    → (find p rest ≡ Some z → find p later ≡ Some fz) → find p (cond b (y ∷ rest) (x ∷ later)) ≡ Some fz
changed_found_step p x y z fz rest later true at same to e h = let is : x ≡ z = cc e in ap (λ c. cond c (Some y) (find p rest)) (same ∙ at) ∙ ap Some (to is)
changed_found_step p x y z fz rest later false at same to e h = ap (λ c. cond c (Some x) (find p later)) at ∙ h e

-- the one that is changed is found, changed
pub changed_found : {X : Type 0} (test : X → Bool) (f : X → X) → ((x : X) → test (f x) ≡ test x) → (xs : List X) (z : X) → find test xs ≡ Some z
    → find test (changed test f xs) ≡ Some (f z)
changed_found test f same [] z e = absurd (cc e)
changed_found test f same (x ∷ xs) z e =
    changed_found_step test x (f x) z (f z) xs (changed test f xs) (test x) refl (same x) (ap f) e (changed_found test f same xs z)
