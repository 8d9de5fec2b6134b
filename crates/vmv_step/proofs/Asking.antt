-- In a valid program a call of an outside name means that outside name.
use Rattle.std.proofs.Common.{◌∙◌, ◌≡◌, ◌⊎◌, inl, inr, ⊎_elim, ℕ, suc, ◌+◌, ℤ, Bool, true, false, MatchBool, List, [], ◌∷◌, ◌++◌, map, reverse, refl, sym, ap, subst, arith, append_assoc, append-nil}
use Rattle.std.specs.Bool.{⊤}
use Rattle.std.specs.List.{Contains}
use Rattle.std.specs.Str.{bytes_eq}
use Rattle.std.proofs.lemmas.List.{reverse-append}
use Rattle.std.proofs.lemmas.Slice.Eq.{bytes_eq-Decides}
use Rattle.vmv_tree.specs.declared.defect.Defect.TheVariants.{Repeated}
use Rattle.vmv_tree.specs.declared.name.Name.{Name}
use Rattle.vmv_tree.specs.Words.{IsWord}
use Rattle.vmv_tree.specs.Tree.{Item, outside, helper, entry}
use Rattle.vmv_tree.specs.Mentions.{item_mentions}
use Rattle.vmv_tree.specs.Run.{Answers, Outcome, done, RunsItem, RunsAbove, name_of}
use Rattle.vmv_tree.specs.Valid.{InItem, InItems, Valid}
use Rattle.vmv_snapshot.specs.Procs.{outsides}
use Rattle.vmv_snapshot.proofs.Known.{Clean}
use Rattle.vmv_snapshot.proofs.Named.{first_or_further}
use Rattle.vmv_step.specs.Agree.{AreAsked}

-- each item has a name of its own among those above it
abbrev pub AreApart : List Item → Type 0
AreApart [] = ⊤
AreApart (item ∷ above) = (Contains (map name_of above) (name_of item) → ⊥) × AreApart above

-- some item is this outside name
abbrev pub HasOutside : List Item → Name → Type 0
HasOutside [] name = ⊥
HasOutside (outside f arity ∷ above) name = (f ≡ name) ⊎ HasOutside above name
HasOutside (helper f params body ∷ above) name = HasOutside above name
HasOutside (entry f params body ∷ above) name = HasOutside above name

later : (x : Name) (xs : List Name) (y : Name) → Contains xs y → Contains (x ∷ xs) y
later x xs y (k, h, e) = (suc k, omega (arith, h), e)

outside_named : (above : List Item) (name : Name) → HasOutside above name → Contains (map name_of above) name
outside_named [] name h = absurd h
outside_named (outside f arity ∷ above) name h =
    ⊎_elim (λ (e : f ≡ name). (0, omega arith, e)) (λ (g : HasOutside above name). later f (map name_of above) name (outside_named above name g)) h
outside_named (helper f params body ∷ above) name h = later f (map name_of above) name (outside_named above name h)
outside_named (entry f params body ∷ above) name h = later f (map name_of above) name (outside_named above name h)

-- what a call of an outside name may do
abbrev pub Asks : Name → Answers → Outcome → Type 0
Asks name answers outcome = (word : ℤ) × IsWord word × (answers ≡ (name, word) ∷ []) × (outcome ≡ done word)

by_name : (b : Bool) (P Q R : Type 0) → (b ≡ true → P → R) → (b ≡ false → Q → R) → MatchBool b P Q → R
by_name true P Q R f g h = f refl h
by_name false P Q R f g h = g refl h

same_of : (x y : Name) → bytes_eq x y ≡ true → x ≡ y
same_of x y t = (bytes_eq-Decides x y).0 t

apart_of : (x y : Name) → bytes_eq x y ≡ false → x ≡ y → ⊥
apart_of x y f e = let t = (bytes_eq-Decides x y).1 e in absurd (cc)

-- an item that has the name of an outside name above it has no name of its own
not_again : (item : Item) (above : List Item) (name : Name) → AreApart (item ∷ above) → HasOutside above name → name_of item ≡ name → ⊥
not_again item above name apart h e = apart.0 (subst (Contains (map name_of above)) (sym e) (outside_named above name h))

pub asked : (above : List Item) (name : Name) (words : List ℤ) (answers : Answers) (outcome : Outcome) → AreApart above → HasOutside above name → RunsAbove above name words answers outcome → Asks name answers outcome
asked [] name words answers outcome apart h run = absurd run
asked (outside f arity ∷ above) name words answers outcome apart h run =
    by_name (bytes_eq f name) (RunsItem (RunsAbove above) (outside f arity) words answers outcome) (RunsAbove above name words answers outcome) (Asks name answers outcome)
    (λ t r. let P : Name → Type 0 = λ x. Asks x answers outcome in subst P (same_of f name t) r)
    (λ n r. asked above name words answers outcome apart.1 (⊎_elim (λ (e : f ≡ name). absurd (apart_of f name n e)) (λ (g : HasOutside above name). g) h) r)
    run
asked (helper f params body ∷ above) name words answers outcome apart h run =
    by_name (bytes_eq f name) (RunsItem (RunsAbove above) (helper f params body) words answers outcome) (RunsAbove above name words answers outcome) (Asks name answers outcome)
    (λ t r. absurd (not_again (helper f params body) above name apart h (same_of f name t)))
    (λ n r. asked above name words answers outcome apart.1 h r)
    run
asked (entry f params body ∷ above) name words answers outcome apart h run =
    by_name (bytes_eq f name) (RunsItem (RunsAbove above) (entry f params body) words answers outcome) (RunsAbove above name words answers outcome) (Asks name answers outcome)
    (λ t r. absurd (not_again (entry f params body) above name apart h (same_of f name t)))
    (λ n r. asked above name words answers outcome apart.1 h r)
    run

alone : (program above : List Item) (k : ℕ) (item : Item) → Clean (InItem program above k item) → Contains (map name_of above) (name_of item) → ⊥
alone program above k (outside f arity) clean h = clean k Repeated (inl (refl, refl, h))
alone program above k (helper f params body) clean h = clean k Repeated (inl (refl, refl, h))
alone program above k (entry f params body) clean h = clean k Repeated (inl (refl, refl, h))

-- a list turned round, in front of another
turned : (item : Item) (before above : List Item) → reverse (item ∷ before) ++ above ≡ reverse before ++ (item ∷ above)
turned item before above =
    let joined : reverse (item ∷ before) ≡ reverse before ++ item ∷ [] = reverse-append (item ∷ []) before in
    ap (λ (x : List Item). x ++ above) joined ∙ append_assoc (reverse before) (item ∷ []) above

apart_from : (program above : List Item) (k : ℕ) (before rest : List Item) → AreApart above → Clean (InItems program above k (before ++ rest)) → AreApart (reverse before ++ above)
apart_from program above k [] rest apart clean = apart
apart_from program above k (item ∷ before) rest apart clean =
    subst AreApart (sym (turned item before above))
    (apart_from program (item ∷ above) (k + item_mentions item) before rest (alone program above k item (λ m d h. clean m d (inl h)), apart) (λ m d h. clean m d (inr h)))

-- the outside names of a list are there when it is turned round
onto_has : (before above : List Item) (name : Name) → HasOutside above name → HasOutside (reverse before ++ above) name
onto_has [] above name h = h
onto_has (outside f arity ∷ before) above name h = let P : List Item → Type 0 = λ items. HasOutside items name in subst P (sym (turned (outside f arity) before above)) (onto_has before (outside f arity ∷ above) name (inr h))
onto_has (helper f params body ∷ before) above name h = let P : List Item → Type 0 = λ items. HasOutside items name in subst P (sym (turned (helper f params body) before above)) (onto_has before (helper f params body ∷ above) name h)
onto_has (entry f params body ∷ before) above name h = let P : List Item → Type 0 = λ items. HasOutside items name in subst P (sym (turned (entry f params body) before above)) (onto_has before (entry f params body ∷ above) name h)

turned_has : (before above : List Item) (name : Name) → Contains (outsides before) name → HasOutside (reverse before ++ above) name
turned_has [] above name (k, h, e) = absurd (omega arith)
turned_has (outside f arity ∷ before) above name h =
    let P : List Item → Type 0 = λ items. HasOutside items name in
    subst P (sym (turned (outside f arity) before above))
    (⊎_elim (λ (e : f ≡ name). onto_has before (outside f arity ∷ above) name (inl e)) (λ (g : Contains (outsides before) name). turned_has before (outside f arity ∷ above) name g) (first_or_further f (outsides before) name h))
turned_has (helper f params body ∷ before) above name h =
    let P : List Item → Type 0 = λ items. HasOutside items name in subst P (sym (turned (helper f params body) before above)) (turned_has before (helper f params body ∷ above) name h)
turned_has (entry f params body ∷ before) above name h =
    let P : List Item → Type 0 = λ items. HasOutside items name in subst P (sym (turned (entry f params body) before above)) (turned_has before (entry f params body ∷ above) name h)

pub outside_calls : (before : List Item) (item : Item) (after : List Item) → Valid (before ++ item ∷ after) → AreAsked (reverse before) (outsides before)
outside_calls before item after valid name words answers outcome there run =
    let program : List Item = before ++ item ∷ after in
    let none : reverse before ++ [] ≡ reverse before = append-nil (reverse before) in
    let apart : AreApart (reverse before) = subst AreApart none (apart_from program [] 0 before (item ∷ after) tt valid) in
    let P : List Item → Type 0 = λ items. HasOutside items name in
    asked (reverse before) name words answers outcome apart (subst P none (turned_has before [] name there)) run
