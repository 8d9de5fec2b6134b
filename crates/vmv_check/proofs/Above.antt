-- What stands above an item of a valid program: names are distinct, and a call has as many arguments as its callee takes.
use Rattle.std.proofs.Common.{◌≡◌, ◌⊎◌, inl, inr, ⊎_elim, ℕ, zero, suc, ◌+◌, ◌<◌, ◌≤◌, min, Some, List, [], ◌∷◌, ◌++◌, length, map, slice_get, refl, sym, ap, subst, arith, ◌∙◌}
use Rattle.std.specs.Bool.{⊤}
use Rattle.std.specs.List.{Contains}
use Rattle.std.proofs.lemmas.Bool.{cases_eq}
use Rattle.vmv_tree.specs.declared.name.Name.{Name}
use Rattle.vmv_tree.specs.declared.defect.Defect.TheVariants.{Repeated, ArityWrong, Limit}
use Rattle.vmv_tree.specs.Tree.{Body, Item, outside, helper, entry}
use Rattle.vmv_tree.specs.Run.{name_of}
use Rattle.vmv_tree.specs.Mentions.{item_mentions}
use Rattle.vmv_tree.specs.Limits.{block_statements}
use Rattle.vmv_tree.specs.Valid.{Scope, Takes, InCallee, InProcedure, InItem, InItems, Valid}
use Rattle.vmv_snapshot.specs.Procs.{procs}
use Rattle.vmv_snapshot.proofs.Known.{Clean}

-- the items of a list put onto those above, so that the last one is the nearest
abbrev pub onto : List Item → List Item → List Item
onto [] above = above
onto (item ∷ items) above = onto items (item ∷ above)

-- a name among these
abbrev pub IsAmong : List Item → Name → Type 0
IsAmong [] name = ⊥
IsAmong (item ∷ items) name = (name_of item ≡ name) ⊎ IsAmong items name

among_contains : (items : List Item) (name : Name) → IsAmong items name → Contains (map name_of items) name
among_contains [] name h = absurd h
among_contains (item ∷ items) name (inl e) = (0, omega arith, e)
among_contains (item ∷ items) name (inr h) =
    let c = among_contains items name h in
    (suc c.0, omega (arith, c.1), c.2)

-- no two items have one name
abbrev pub AreDistinct : List Item → Type 0
AreDistinct [] = ⊤
AreDistinct (item ∷ items) = (IsAmong items (name_of item) → ⊥) × AreDistinct items

item_alone : (program above : List Item) (k : ℕ) (item : Item) → Clean (InItem program above k item) → IsAmong above (name_of item) → ⊥
item_alone program above k (outside f arity) clean h = clean k Repeated (inl (refl, refl, among_contains above f h))
item_alone program above k (helper f params body) clean h = clean k Repeated (inl (refl, refl, among_contains above f h))
item_alone program above k (entry f params body) clean h = clean k Repeated (inl (refl, refl, among_contains above f h))

-- the item without a defect
pub record Split (program above : List Item) (item : Item) : Type 0 where
  pub place : ℕ
  pub distinct : AreDistinct above
  pub clean : Clean (InItem program above place item)

split_onto : (program above : List Item) (k : ℕ) (front : List Item) (item : Item) (back : List Item) → AreDistinct above → Clean (InItems program above k (front ++ item ∷ back)) → Split program (onto front above) item
split_onto program above k [] item back distinct clean = record { place = k; distinct = distinct; clean = λ m d h. clean m d (inl h) }
split_onto program above k (first ∷ front) item back distinct clean =
    split_onto program (first ∷ above) (k + item_mentions first) front item back (item_alone program above k first (λ m d h. clean m d (inl h)), distinct) (λ m d h. clean m d (inr h))

pub split : (program front : List Item) (item : Item) (back : List Item) → Valid program → program ≡ front ++ item ∷ back → Split program (onto front []) item
split program front item back valid is =
    split_onto program [] 0 front item back tt (subst (λ (items : List Item). Clean (InItems program [] 0 items)) is valid)

-- no procedure further down has a name that stands above
fresh_below : (program above : List Item) (k : ℕ) (items : List Item) → Clean (InItems program above k items) → (x : Name) → IsAmong above x → (n : ℕ) → slice_get (map name_of (procs items)) n ≡ Some x → ⊥
fresh_below program above k [] clean x among n e = absurd (cc)
fresh_below program above k (outside f arity ∷ items) clean x among n e =
    fresh_below program (outside f arity ∷ above) (k + item_mentions (outside f arity)) items (λ m d h. clean m d (inr h)) x (inr among) n e
fresh_below program above k (helper f params body ∷ items) clean x among zero e =
    let same : x ≡ f = cc in
    item_alone program above k (helper f params body) (λ m d h. clean m d (inl h)) (subst (IsAmong above) same among)
fresh_below program above k (helper f params body ∷ items) clean x among (suc n) e =
    fresh_below program (helper f params body ∷ above) (k + item_mentions (helper f params body)) items (λ m d h. clean m d (inr h)) x (inr among) n e
fresh_below program above k (entry f params body ∷ items) clean x among zero e =
    let same : x ≡ f = cc in
    item_alone program above k (entry f params body) (λ m d h. clean m d (inl h)) (subst (IsAmong above) same among)
fresh_below program above k (entry f params body ∷ items) clean x among (suc n) e =
    fresh_below program (entry f params body ∷ above) (k + item_mentions (entry f params body)) items (λ m d h. clean m d (inr h)) x (inr among) n e

abbrev Once : List Item → Type 0
Once items = (m n : ℕ) (x : Name) → slice_get (map name_of (procs items)) m ≡ Some x → slice_get (map name_of (procs items)) n ≡ Some x → m ≡ n

once_first : (items : List Item) (f x : Name) (m n : ℕ) → ((y : Name) → f ≡ y → (n : ℕ) → slice_get (map name_of (procs items)) n ≡ Some y → ⊥) → Once items →
    slice_get (f ∷ map name_of (procs items)) m ≡ Some x → slice_get (f ∷ map name_of (procs items)) n ≡ Some x → m ≡ n
once_first items f x zero zero fresh once a b = refl
once_first items f x zero (suc n) fresh once a b = let same : f ≡ x = cc in absurd (fresh x same n b)
once_first items f x (suc m) zero fresh once a b = let same : f ≡ x = cc in absurd (fresh x same m a)
once_first items f x (suc m) (suc n) fresh once a b = ap suc (once m n x a b)

once_below : (program above : List Item) (k : ℕ) (items : List Item) → Clean (InItems program above k items) → Once items
once_below program above k [] clean m n x a b = absurd (cc)
once_below program above k (outside f arity ∷ items) clean m n x a b =
    once_below program (outside f arity ∷ above) (k + item_mentions (outside f arity)) items (λ m d h. clean m d (inr h)) m n x a b
once_below program above k (helper f params body ∷ items) clean m n x a b =
    let up : List Item = helper f params body ∷ above in
    let at : ℕ = k + item_mentions (helper f params body) in
    let rest : Clean (InItems program up at items) = λ m d h. clean m d (inr h) in
    once_first items f x m n (λ y e. fresh_below program up at items rest y (inl e)) (once_below program up at items rest) a b
once_below program above k (entry f params body ∷ items) clean m n x a b =
    let up : List Item = entry f params body ∷ above in
    let at : ℕ = k + item_mentions (entry f params body) in
    let rest : Clean (InItems program up at items) = λ m d h. clean m d (inr h) in
    once_first items f x m n (λ y e. fresh_below program up at items rest y (inl e)) (once_below program up at items rest) a b

-- no two procedures have one name
pub procs_once : (program : List Item) → Valid program → (m n : ℕ) (x : Name) → slice_get (map name_of (procs program)) m ≡ Some x → slice_get (map name_of (procs program)) n ≡ Some x → m ≡ n
procs_once program valid = once_below program [] 0 program valid

-- a helper with these parameters stands above
abbrev HasHelper : List Item → Name → List Name → Type 0
HasHelper [] callee params = ⊥
HasHelper (outside f arity ∷ above) callee params = HasHelper above callee params
HasHelper (helper f ps body ∷ above) callee params = ((f ≡ callee) × (ps ≡ params)) ⊎ HasHelper above callee params
HasHelper (entry f ps body ∷ above) callee params = HasHelper above callee params

takes_among : (above : List Item) (callee : Name) (n : ℕ) → Takes above callee n → IsAmong above callee
takes_among [] callee n t = absurd t
takes_among (outside f arity ∷ above) callee n (inl t) = inl t.0
takes_among (outside f arity ∷ above) callee n (inr t) = inr (takes_among above callee n t)
takes_among (helper f params body ∷ above) callee n (inl t) = inl t.0
takes_among (helper f params body ∷ above) callee n (inr t) = inr (takes_among above callee n t)
takes_among (entry f params body ∷ above) callee n t = inr (takes_among above callee n t)

helper_takes : (above : List Item) (callee : Name) (params : List Name) → HasHelper above callee params → Takes above callee (length params)
helper_takes [] callee params h = absurd h
helper_takes (outside f arity ∷ above) callee params h = inr (helper_takes above callee params h)
helper_takes (helper f ps body ∷ above) callee params (inl h) = inl (h.0, ap length h.1)
helper_takes (helper f ps body ∷ above) callee params (inr h) = inr (helper_takes above callee params h)
helper_takes (entry f ps body ∷ above) callee params h = helper_takes above callee params h

takes_once : (above : List Item) (callee : Name) (params : List Name) (n : ℕ) → AreDistinct above → HasHelper above callee params → Takes above callee n → n ≡ length params
takes_once [] callee params n distinct h t = absurd h
takes_once (outside f arity ∷ above) callee params n distinct h (inl t) =
    absurd (distinct.0 (subst (IsAmong above) (sym t.0) (takes_among above callee (length params) (helper_takes above callee params h))))
takes_once (outside f arity ∷ above) callee params n distinct h (inr t) = takes_once above callee params n distinct.1 h t
takes_once (helper f ps body ∷ above) callee params n distinct (inl h) (inl t) = sym t.1 ∙ ap length h.1
takes_once (helper f ps body ∷ above) callee params n distinct (inl h) (inr t) = absurd (distinct.0 (subst (IsAmong above) (sym h.0) (takes_among above callee n t)))
takes_once (helper f ps body ∷ above) callee params n distinct (inr h) (inl t) =
    absurd (distinct.0 (subst (IsAmong above) (sym t.0) (takes_among above callee (length params) (helper_takes above callee params h))))
takes_once (helper f ps body ∷ above) callee params n distinct (inr h) (inr t) = takes_once above callee params n distinct.1 h t
takes_once (entry f ps body ∷ above) callee params n distinct h t = takes_once above callee params n distinct.1 h t

kept_onto : (items above : List Item) (callee : Name) (params : List Name) → HasHelper above callee params → HasHelper (onto items above) callee params
kept_onto [] above callee params h = h
kept_onto (outside f arity ∷ items) above callee params h = kept_onto items (outside f arity ∷ above) callee params h
kept_onto (helper f ps body ∷ items) above callee params h = kept_onto items (helper f ps body ∷ above) callee params (inr h)
kept_onto (entry f ps body ∷ items) above callee params h = kept_onto items (entry f ps body ∷ above) callee params h

helper_same : (f callee : Name) (ps params : List Name) (body other : Body) → helper f ps body ≡ helper callee params other → (f ≡ callee) × (ps ≡ params)
helper_same f callee ps params body other e = (cc, cc)

helper_onto : (items above : List Item) (c : ℕ) (callee : Name) (params : List Name) (body : Body) → slice_get (procs items) c ≡ Some (helper callee params body) → HasHelper (onto items above) callee params
helper_onto [] above c callee params body e = absurd (cc)
helper_onto (outside f arity ∷ items) above c callee params body e = helper_onto items (outside f arity ∷ above) c callee params body e
helper_onto (helper f ps b ∷ items) above zero callee params body e =
    let same : helper f ps b ≡ helper callee params body = cc in
    kept_onto items (helper f ps b ∷ above) callee params (inl (helper_same f callee ps params b body same))
helper_onto (helper f ps b ∷ items) above (suc c) callee params body e = helper_onto items (helper f ps b ∷ above) c callee params body e
helper_onto (entry f ps b ∷ items) above zero callee params body e = absurd (cc)
helper_onto (entry f ps b ∷ items) above (suc c) callee params body e = helper_onto items (entry f ps b ∷ above) c callee params body e

-- a call has as many arguments as its helper has parameters
pub right_count : (front : List Item) (sight : Scope) (c k : ℕ) (callee : Name) (params : List Name) (body : Body) (count : ℕ) → sight.above ≡ onto front [] → AreDistinct (onto front []) →
    slice_get (procs front) c ≡ Some (helper callee params body) → Clean (InCallee sight k callee count) → count ≡ length params
right_count front sight c k callee params body count same distinct at clean =
    let has : HasHelper (onto front []) callee params = helper_onto front [] c callee params body at in
    ⊎_elim (λ (e : count ≡ length params). e)
    (λ (other : count ≡ length params → ⊥). absurd (clean k ArityWrong (inr (
      refl,
      refl,
      (
        (length params, subst (λ above. Takes above callee (length params)) (sym same) (helper_takes (onto front []) callee params has)),
        λ t. other (takes_once (onto front []) callee params count distinct has (subst (λ above. Takes above callee count) same t)),
      ),
    ))))
    (cases_eq count (length params))

at_most : (n m : ℕ) → (m < n → ⊥) → n ≤ m
at_most n m h = omega arith

pub few_statements : (k : ℕ) (params : List Name) (body : Body) → Clean (InProcedure k params body) → block_statements body.block ≤ 2000
few_statements k params body clean = at_most (block_statements body.block) 2000 (λ h. clean k (Limit 6 (min (block_statements body.block) 1000000000) 2000) (inr (inl (refl, refl, h))))
