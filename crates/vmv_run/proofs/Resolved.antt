-- In a valid program each callee is declared above, and names are distinct.
use Rattle.std.proofs.Common.{◌≡◌, ◌⊎◌, inl, inr, ⊎_elim, ℕ, suc, ◌+◌, pos, Bool, true, false, MatchBool, List, [], ◌∷◌, ◌++◌, length, map, reverse, refl, sym, ap, subst, arith, ◌∙◌, append_assoc}
use Rattle.std.specs.Bool.{⊤}
use Rattle.std.specs.List.{Contains}
use Rattle.std.specs.Str.{bytes_eq}
use Rattle.std.proofs.lemmas.List.{reverse-append}
use Rattle.std.proofs.lemmas.Slice.Eq.{bytes_eq-Decides}
use Rattle.vmv_tree.specs.declared.name.Name.{Name}
use Rattle.vmv_tree.specs.Tree.{Stmt, copy, compute, call, assert, choose, repeat, Block, [], ◌⨾◌, Body, Item, outside, helper, entry}
use Rattle.vmv_tree.specs.Run.{name_of}
use Rattle.vmv_tree.specs.Mentions.{operand_mentions, test_mentions, mentions, block_mentions, item_mentions}
use Rattle.vmv_tree.specs.Limits.{indexes_of, block_indexes}
use Rattle.vmv_tree.specs.declared.defect.Defect.{Defect}
use Rattle.vmv_tree.specs.declared.defect.Defect.TheVariants.{UnknownName, Repeated}
use Rattle.vmv_tree.specs.Valid.{Scope, Finds, Takes, InStmt, InBlock, InBody, InItem, InItems, Valid}
use Rattle.vmv_run.proofs.Callees.{Callees, BlockCallees, ItemCallees, Declares, IsResolved}

-- the items of a list put onto those above, so that the last one is the nearest
abbrev pub onto : List Item → List Item → List Item
onto [] above = above
onto (item ∷ items) above = onto items (item ∷ above)

pub onto-append : (front back above : List Item) → onto (front ++ back) above ≡ onto back (onto front above)
onto-append [] back above = refl
onto-append (item ∷ front) back above = onto-append front back (item ∷ above)

pub onto-reverse : (items above : List Item) → onto items above ≡ reverse items ++ above
onto-reverse [] above = refl
onto-reverse (item ∷ items) above =
    let joined : reverse (item ∷ items) ≡ reverse items ++ item ∷ [] = reverse-append (item ∷ []) items in
    onto-reverse items (item ∷ above) ∙ (sym (append_assoc (reverse items) (item ∷ []) above) ∙ ap (λ (x : List Item). x ++ above) (sym joined))

-- a name among these
abbrev pub IsAmong : List Item → Name → Type 0
IsAmong [] name = ⊥
IsAmong (item ∷ items) name = (name_of item ≡ name) ⊎ IsAmong items name

pub among_contains : (items : List Item) (name : Name) → IsAmong items name → Contains (map name_of items) name
among_contains [] name h = absurd h
among_contains (item ∷ items) name (inl e) = (0, omega arith, e)
among_contains (item ∷ items) name (inr h) =
    let c = among_contains items name h in
    (suc c.0, omega (arith, c.1), c.2)

-- no two items have one name
abbrev pub AreDistinct : List Item → Type 0
AreDistinct [] = ⊤
AreDistinct (item ∷ items) = (IsAmong items (name_of item) → ⊥) × AreDistinct items

takes_among : (above : List Item) (callee : Name) (n : ℕ) → Takes above callee n → IsAmong above callee
takes_among [] callee n t = absurd t
takes_among (outside f arity ∷ above) callee n (inl t) = inl t.0
takes_among (outside f arity ∷ above) callee n (inr t) = inr (takes_among above callee n t)
takes_among (helper f params body ∷ above) callee n (inl t) = inl t.0
takes_among (helper f params body ∷ above) callee n (inr t) = inr (takes_among above callee n t)
takes_among (entry f params body ∷ above) callee n t = inr (takes_among above callee n t)

abbrev NoTake : List Item → Name → Type 0
NoTake above callee = (n : ℕ) → Takes above callee n → ⊥

apart : (f callee : Name) → bytes_eq f callee ≡ false → f ≡ callee → ⊥
apart f callee e same = let t = (bytes_eq-Decides f callee).1 same in cc

here_or_further : (b : Bool) (f callee : Name) (above : List Item) (T : ℕ → Type 0) → bytes_eq f callee ≡ b → (Declares above callee ⊎ NoTake above callee) →
    MatchBool b ⊤ (Declares above callee) ⊎ ((n : ℕ) → ((f ≡ callee) × T n) ⊎ Takes above callee n → ⊥)
here_or_further true f callee above T e further = inl tt
here_or_further false f callee above T e (inl d) = inl d
here_or_further false f callee above T e (inr none) = inr (λ n. ⊎_elim (λ (t : (f ≡ callee) × T n). apart f callee e t.0) (λ (t : Takes above callee n). none n t))

entry_or_further : (b : Bool) (f callee : Name) (above : List Item) → bytes_eq f callee ≡ b → (IsAmong above f → ⊥) → (Declares above callee ⊎ NoTake above callee) →
    MatchBool b ⊥ (Declares above callee) ⊎ NoTake above callee
entry_or_further true f callee above e alone further =
    inr (λ n t. alone (subst (IsAmong above) (sym ((bytes_eq-Decides f callee).0 e)) (takes_among above callee n t)))
entry_or_further false f callee above e alone further = further

-- some item above is called so, or none is
declared_or_not : (above : List Item) (callee : Name) → AreDistinct above → Declares above callee ⊎ NoTake above callee
declared_or_not [] callee distinct = inr (λ n t. t)
declared_or_not (outside f arity ∷ above) callee distinct =
    here_or_further (bytes_eq f callee) f callee above (λ n. arity ≡ pos n) refl (declared_or_not above callee distinct.1)
declared_or_not (helper f params body ∷ above) callee distinct =
    here_or_further (bytes_eq f callee) f callee above (λ n. length params ≡ n) refl (declared_or_not above callee distinct.1)
declared_or_not (entry f params body ∷ above) callee distinct =
    entry_or_further (bytes_eq f callee) f callee above refl distinct.0 (declared_or_not above callee distinct.1)

-- nothing is found
abbrev pub Clean : Finds → Type 0
Clean finds = (m : ℕ) (d : Defect) → finds m d → ⊥

mutual
  stmt_callees : (scope : Scope) (k : ℕ) (s : Stmt) → AreDistinct scope.above → Clean (InStmt scope k s) → Callees (Declares scope.above) s
  stmt_callees scope k (copy to from) distinct clean = tt
  stmt_callees scope k (compute to op left right) distinct clean = tt
  stmt_callees scope k (call to callee args) distinct clean =
      ⊎_elim (λ (d : Declares scope.above callee). d)
      (λ (none : NoTake scope.above callee). absurd (clean (k + 1) UnknownName (inr (inl (inl (refl, refl, none))))))
      (declared_or_not scope.above callee distinct)
  stmt_callees scope k (assert test) distinct clean = tt
  stmt_callees scope k (choose test first second) distinct clean = (
    block_callees scope (k + test_mentions test) first distinct (λ m d h. clean m d (inr (inl h))),
    block_callees (record scope { declared = scope.declared ++ block_indexes first }) (k + test_mentions test + block_mentions first) second distinct (λ m d h. clean m d (inr (inr h))),
  )
  stmt_callees scope k (repeat index bound most body) distinct clean =
      block_callees (record scope { visible = index ∷ scope.visible; indexes = index ∷ scope.indexes; declared = scope.declared ++ index ∷ [] }) (k + 1 + operand_mentions bound) body distinct
      (λ m d h. clean m d (inr (inr h)))

  block_callees : (scope : Scope) (k : ℕ) (b : Block) → AreDistinct scope.above → Clean (InBlock scope k b) → BlockCallees (Declares scope.above) b
  block_callees scope k [] distinct clean = tt
  block_callees scope k (s ⨾ rest) distinct clean = (
    stmt_callees scope k s distinct (λ m d h. clean m d (inl h)),
    block_callees (record scope { declared = scope.declared ++ indexes_of s }) (k + mentions s) rest distinct (λ m d h. clean m d (inr h)),
  )

body_callees : (above : List Item) (k : ℕ) (params : List Name) (body : Body) → AreDistinct above → Clean (InBody above k params body) → BlockCallees (Declares above) body.block
body_callees above k params body distinct clean =
    block_callees (record { above = above; visible = params ++ body.vars; indexes = []; declared = params ++ body.vars }) (k + length body.vars) body.block distinct
    (λ m d h. clean m d (inr (inl h)))

-- an item without a defect
pub item_resolved : (program above : List Item) (k : ℕ) (item : Item) → AreDistinct above → Clean (InItem program above k item) → ItemCallees (Declares above) item
item_resolved program above k (outside f arity) distinct clean = tt
item_resolved program above k (helper f params body) distinct clean =
    body_callees above (k + 1 + length params) params body distinct (λ m d h. clean m d (inr (inr (inr (inr (inr h))))))
item_resolved program above k (entry f params body) distinct clean =
    body_callees above (k + 1 + length params) (map (λ p. p.name) params) body distinct (λ m d h. clean m d (inr (inr (inr (inr (inr h))))))

pub item_alone : (program above : List Item) (k : ℕ) (item : Item) → Clean (InItem program above k item) → IsAmong above (name_of item) → ⊥
item_alone program above k (outside f arity) clean h = clean k Repeated (inl (refl, refl, among_contains above f h))
item_alone program above k (helper f params body) clean h = clean k Repeated (inl (refl, refl, among_contains above f h))
item_alone program above k (entry f params body) clean h = clean k Repeated (inl (refl, refl, among_contains above f h))

-- what is above an item of a valid program
pub record Above (program above : List Item) : Type 0 where
  pub resolved : IsResolved above
  pub distinct : AreDistinct above

pub record Split (program : List Item) (front : List Item) (item : Item) (back : List Item) : Type 0 where
  pub place : ℕ
  pub above : Above program (onto front [])
  pub clean : Clean (InItem program (onto front []) place item)
  pub rest : Clean (InItems program (item ∷ onto front []) (place + item_mentions item) back)

record SplitOnto (program above front : List Item) (item : Item) (back : List Item) : Type 0 where
  place : ℕ
  up : Above program (onto front above)
  clean : Clean (InItem program (onto front above) place item)
  rest : Clean (InItems program (item ∷ onto front above) (place + item_mentions item) back)

split_onto : (program above : List Item) (k : ℕ) (front : List Item) (item : Item) (back : List Item) → Above program above → Clean (InItems program above k (front ++ item ∷ back)) →
    SplitOnto program above front item back
split_onto program above k [] item back up clean = record {
  place = k;
  up = up;
  clean = λ m d h. clean m d (inl h);
  rest = λ m d h. clean m d (inr h);
}
split_onto program above k (first ∷ front) item back up clean =
    let here : Clean (InItem program above k first) = λ m d h. clean m d (inl h) in
    let up' : Above program (first ∷ above) = record {
      resolved = (item_resolved program above k first up.distinct here, up.resolved);
      distinct = (item_alone program above k first here, up.distinct);
    } in
    let s = split_onto program (first ∷ above) (k + item_mentions first) front item back up' (λ m d h. clean m d (inr h)) in
    record { place = s.place; up = s.up; clean = s.clean; rest = s.rest }

pub split : (program front : List Item) (item : Item) (back : List Item) → Valid program → program ≡ front ++ item ∷ back → Split program front item back
split program front item back valid is =
    let clean : Clean (InItems program [] 0 (front ++ item ∷ back)) = subst (λ (items : List Item). Clean (InItems program [] 0 items)) is valid in
    let s = split_onto program [] 0 front item back (record { resolved = tt; distinct = tt }) clean in
    record { place = s.place; above = s.up; clean = s.clean; rest = s.rest }

-- no item further down has the name of one above
pub none_below : (program above : List Item) (k : ℕ) (back : List Item) (name : Name) → Above program above → Clean (InItems program above k back) → IsAmong above name →
    IsAmong back name → ⊥
none_below program above k [] name up clean there h = h
none_below program above k (item ∷ back) name up clean there (inl e) =
    item_alone program above k item (λ m d g. clean m d (inl g)) (subst (IsAmong above) (sym e) there)
none_below program above k (item ∷ back) name up clean there (inr h) =
    let here : Clean (InItem program above k item) = λ m d g. clean m d (inl g) in
    let up' : Above program (item ∷ above) = record {
      resolved = (item_resolved program above k item up.distinct here, up.resolved);
      distinct = (item_alone program above k item here, up.distinct);
    } in
    none_below program (item ∷ above) (k + item_mentions item) back name up' (λ m d g. clean m d (inr g)) (inr there) h
