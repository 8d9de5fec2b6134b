-- How many procedures a valid program has, and how many sites each.
use Rattle.std.proofs.Common.{◌≡◌, inl, inr, ℕ, zero, suc, ◌+◌, ◌<◌, ◌≤◌, Some, List, [], ◌∷◌, length, map, slice_get, refl, subst, arith}
use Rattle.vmv_tree.specs.declared.name.Name.{Name}
use Rattle.vmv_tree.specs.Tree.{Stmt, copy, compute, call, assert, choose, repeat, Block, [], ◌⨾◌, Body, Item, outside, helper, entry}
use Rattle.vmv_tree.specs.Run.{sites, block_sites}
use Rattle.vmv_tree.specs.Limits.{statements, block_statements, helper_count, entry_count}
use Rattle.vmv_tree.specs.Mentions.{item_mentions}
use Rattle.vmv_tree.specs.Valid.{Valid, InItems, InProcedure}
use Rattle.vmv_snapshot.specs.Procs.{procs}
use Rattle.vmv_snapshot.specs.Tables.{body_sites}
use Rattle.vmv_snapshot.proofs.Known.{Clean}
use Rattle.vmv_check.proofs.Above.{few_statements}
use Rattle.vmv_check.proofs.Lists.{some_same}

mutual
  sites_few : (s : Stmt) → sites s ≤ statements s
  sites_few (copy to from) = omega arith
  sites_few (compute to op left right) = omega arith
  sites_few (call to callee args) = omega arith
  sites_few (assert test) = omega arith
  sites_few (choose test first second) = let a = block_sites_few first in let b = block_sites_few second in omega arith
  sites_few (repeat index bound most body) = let a = block_sites_few body in omega arith

  block_sites_few : (b : Block) → block_sites b ≤ block_statements b
  block_sites_few [] = omega arith
  block_sites_few (s ⨾ rest) = let a = sites_few s in let b = block_sites_few rest in omega arith

few_in_body : (k : ℕ) (params : List Name) (body : Body) → Clean (InProcedure k params body) → block_sites body.block ≤ 2000
few_in_body k params body clean = let a = few_statements k params body clean in let b = block_sites_few body.block in omega (arith, a, b)

items_few : (program above items : List Item) (k : ℕ) → Clean (InItems program above k items) → (n : ℕ) (item : Item) → slice_get (procs items) n ≡ Some item → body_sites item ≤ 2000
items_few program above [] k clean n item e = absurd (cc)
items_few program above (outside name arity ∷ items) k clean n item e =
    items_few program (outside name arity ∷ above) items (k + item_mentions (outside name arity)) (λ m d h. clean m d (inr h)) n item e
items_few program above (helper name params body ∷ items) k clean zero item e =
    subst (λ (x : Item). body_sites x ≤ 2000) (some_same e) (few_in_body k params body (λ m d h. clean m d (inl (inr (inr (inl h))))))
items_few program above (helper name params body ∷ items) k clean (suc n) item e =
    items_few program (helper name params body ∷ above) items (k + item_mentions (helper name params body)) (λ m d h. clean m d (inr h)) n item e
items_few program above (entry name params body ∷ items) k clean zero item e =
    subst (λ (x : Item). body_sites x ≤ 2000) (some_same e) (few_in_body k (map (λ p. p.name) params) body (λ m d h. clean m d (inl (inr (inr (inl h))))))
items_few program above (entry name params body ∷ items) k clean (suc n) item e =
    items_few program (entry name params body ∷ above) items (k + item_mentions (entry name params body)) (λ m d h. clean m d (inr h)) n item e

-- a procedure has at most 2,000 sites
pub few_sites : (program : List Item) (n : ℕ) (item : Item) → Valid program → slice_get (procs program) n ≡ Some item → body_sites item ≤ 2000
few_sites program n item valid e = items_few program [] program 0 valid n item e

fewer : (n : ℕ) → n ≤ 64 → (n ≡ 64 → ⊥) → n < 64
fewer n h g = grind arith

items_short : (program above items : List Item) (k : ℕ) → Clean (InItems program above k items) → helper_count above ≤ 64 → entry_count above ≤ 64 → length (procs items) + (helper_count above + entry_count above) ≤ 128
items_short program above [] k clean hs es = omega arith
items_short program above (outside name arity ∷ items) k clean hs es =
    items_short program (outside name arity ∷ above) items (k + item_mentions (outside name arity)) (λ m d h. clean m d (inr h)) hs es
items_short program above (helper name params body ∷ items) k clean hs es =
    let less : helper_count above < 64 = fewer (helper_count above) hs (λ h. clean k _ (inl (inr (inl (refl, refl, h))))) in
    let rest = items_short program (helper name params body ∷ above) items (k + item_mentions (helper name params body)) (λ m d h. clean m d (inr h)) (omega (arith, less)) es in
    omega (arith, rest)
items_short program above (entry name params body ∷ items) k clean hs es =
    let less : entry_count above < 64 = fewer (entry_count above) es (λ h. clean k _ (inl (inr (inl (refl, refl, h))))) in
    let rest = items_short program (entry name params body ∷ above) items (k + item_mentions (entry name params body)) (λ m d h. clean m d (inr h)) hs (omega (arith, less)) in
    omega (arith, rest)

-- there are at most 128 procedures
pub few_procs : (program : List Item) → Valid program → length (procs program) ≤ 128
few_procs program valid = let h = items_short program [] program 0 valid (omega arith) (omega arith) in omega (arith, h)
