-- In a valid program each body can be resolved.
use Rattle.std.proofs.Common.{◌≡◌, ◌⊎◌, inl, inr, ⊎_elim, ℕ, zero, suc, ◌+◌, ◌*◌, ◌<◌, ◌≤◌, Option, Some, None, List, [], ◌∷◌, ◌++◌, length, map, slice_get, refl, sym, ap, subst, arith, ◌∙◌, append_assoc, append-nil, length-append}
use Rattle.std.proofs.lemmas.List.{length-map}
use Rattle.std.specs.List.{Contains}
use Rattle.std.proofs.lemmas.List.Elements.{Contains-append_left, Contains-append_right}
use Rattle.std.proofs.lemmas.Option.{slice_get-map}
use Rattle.std.specs.Option.{option_map}
use Rattle.vmv_tree.specs.declared.defect.Defect.{Defect}
use Rattle.vmv_tree.specs.declared.name.Name.{Name}
use Rattle.vmv_tree.specs.Tree.{Stmt, copy, compute, call, assert, choose, repeat, Block, [], ◌⨾◌, Body, Item}
use Rattle.vmv_tree.specs.Run.{sites, block_sites}
use Rattle.vmv_tree.specs.Limits.{indexes_of, block_indexes, variables, statements, block_statements}
use Rattle.vmv_tree.specs.Mentions.{block_mentions}
use Rattle.vmv_tree.specs.Valid.{Scope as Sight, Takes, InBody, InBlock}
use Rattle.vmv_snapshot.specs.Resolves.{Scope, loop_names, slot_names, scope_of}
use Rattle.vmv_snapshot.specs.Resolvable.{IsNamed, IsLoop, IsReady}
use Rattle.vmv_snapshot.proofs.Lookups.{contains_at, at_contains, past_first}
use Rattle.vmv_snapshot.proofs.Named.{named, named-append, named-some, named-loops, first_or_further}
use Rattle.vmv_snapshot.proofs.Known.{Clean, Fits, operand_known, block_known}
use Rattle.vmv_snapshot.proofs.Distinct.{AreFresh, fresh_row, names_fresh, block_fresh, AreOnePlace, fresh_one_place}

mutual
  sites_few : (s : Stmt) → sites s ≤ statements s
  sites_few (copy to from) = omega arith
  sites_few (compute to op left right) = omega arith
  sites_few (call to callee args) = omega arith
  sites_few (assert test) = omega arith
  sites_few (choose test first second) = let a = block_sites_few first in let b = block_sites_few second in omega arith
  sites_few (repeat index bound most body) = let a = block_sites_few body in omega arith

  block_sites_few : (b : Block) → block_sites b ≤ block_statements b
  block_sites_few [] = omega arith
  block_sites_few (s ⨾ rest) = let a = sites_few s in let b = block_sites_few rest in omega arith

-- behind a list the places go on
pub behind : {X : Type 0} (xs ys : List X) (n m : ℕ) → m ≡ length xs + n → slice_get (xs ++ ys) m ≡ slice_get ys n
behind [] ys n m e = ap (slice_get ys) (omega (arith, e))
behind (x ∷ xs) ys n m e = past_first x (xs ++ ys) m (length xs + n) (omega (arith, e)) ∙ behind xs ys n (length xs + n) refl

abbrev LoopAt : List Name → Name → Type 0
LoopAt indexes x = (n : ℕ) × (slice_get (loop_names indexes) n ≡ Some (Some x)) × (slice_get (loop_names indexes) (n + 1) ≡ Some None)

loop_at : (indexes : List Name) (x : Name) → Contains indexes x → LoopAt indexes x
loop_at [] x (k, h, e) = absurd (omega arith)
loop_at (i ∷ indexes) x h =
    ⊎_elim (λ (e : i ≡ x). (0, ap (λ (z : Name). Some (Some z)) e, refl))
    (λ (g : Contains indexes x).
    let at = loop_at indexes x g in
    let all : List (Option Name) = loop_names indexes in
    (suc (suc at.0), at.1, behind (Some i ∷ None ∷ []) all (at.0 + 1) (suc (suc at.0) + 1) (omega arith) ∙ at.2))
    (first_or_further i indexes x h)

length-loops : (indexes : List Name) → length (loop_names indexes) ≡ 2 * length indexes
length-loops [] = refl
length-loops (i ∷ indexes) = let e = length-loops indexes in omega arith

front : List Name → List (Option Name)
front names = None ∷ map (λ x. Some x) names

length-slots : (params : List Name) (body : Body) → length (slot_names params body) ≡ 1 + variables params body
length-slots params body =
    let a = length-append (None ∷ map (λ x. Some x) (params ++ body.vars)) (loop_names (block_indexes body.block)) in
    let b : length (map (λ (x : Name). Some x) (params ++ body.vars)) ≡ length (params ++ body.vars) = length-map (params ++ body.vars) (λ (x : Name). Some x) in
    let c = length-append params body.vars in
    let d = length-loops (block_indexes body.block) in
    omega arith

named-slots : (params : List Name) (body : Body) → named (slot_names params body) ≡ (params ++ body.vars) ++ block_indexes body.block
named-slots params body =
    named-append (map (λ x. Some x) (params ++ body.vars)) (loop_names (block_indexes body.block))
    ∙ (λ i. named-some (params ++ body.vars) i ++ named-loops (block_indexes body.block) i)

in_slots : (params : List Name) (body : Body) (x : Name) → Contains (params ++ body.vars) x → Contains (slot_names params body) (Some x)
in_slots params body x h =
    let names : List Name = params ++ body.vars in
    let at = contains_at names x h in
    let here : slice_get (map (λ (y : Name). Some y) names) at.0 ≡ Some (Some x) = slice_get-map (λ (y : Name). Some y) names at.0 ∙ ap (option_map (λ (y : Name). Some y)) at.1 in
    Contains-append_left (None ∷ map (λ y. Some y) names) (loop_names (block_indexes body.block)) (Some x)
    (Contains-append_right (None ∷ []) (map (λ y. Some y) names) (Some x) (at_contains (map (λ y. Some y) names) at.0 (Some x) here))

loops_known : (before : List Item) (params : List Name) (body : Body) → AreOnePlace (slot_names params body) → (x : Name) → Contains (block_indexes body.block) x → IsLoop (scope_of before params body) x
loops_known before params body once x h =
    let at = loop_at (block_indexes body.block) x h in
    let front : List (Option Name) = None ∷ map (λ y. Some y) (params ++ body.vars) in
    let loops : List (Option Name) = loop_names (block_indexes body.block) in
    let n : ℕ = length front + at.0 in
    let here : slice_get (front ++ loops) n ≡ Some (Some x) = behind front loops at.0 n refl ∙ at.1 in
    let next : slice_get (front ++ loops) (n + 1) ≡ Some None = behind front loops (at.0 + 1) (n + 1) (omega arith) ∙ at.2 in (
      at_contains (slot_names params body) n (Some x) here,
      λ m e. subst (λ k. slice_get (slot_names params body) (k + 1) ≡ Some None) (once n m x here e) next,
    )

pub body_ready : (above before : List Item) (k : ℕ) (params : List Name) (body : Body) → AreFresh [] params → Clean (InBody above k params body) → variables params body ≤ 16 →
    block_statements body.block ≤ 2000 → ((callee : Name) (n : ℕ) → Takes above callee n → Contains (scope_of before params body).outsides callee ⊎ Contains (scope_of before params body).helpers (Some callee)) →
    IsReady (scope_of before params body) body
body_ready above before k params body fresh clean few statements callees =
    let seen : List Name = params ++ body.vars in
    let sight : Sight = record { above = above; visible = seen; indexes = []; declared = seen } in
    let scope : Scope = scope_of before params body in
    let inside : ℕ = k + length body.vars in
    let block_clean = λ (m : ℕ) (d : Defect) (h : InBlock sight inside body.block m d). clean m d (inr (inl h)) in
    let vars_fresh : AreFresh params body.vars = names_fresh k params body.vars (λ m d h. clean m d (inl h)) in
    let names_once : AreFresh [] seen = fresh_row [] params body.vars fresh vars_fresh in
    let all_fresh : AreFresh [] (seen ++ block_indexes body.block) = fresh_row [] seen (block_indexes body.block) names_once (block_fresh sight inside body.block block_clean) in
    let once : AreOnePlace (slot_names params body) = fresh_one_place [] (slot_names params body) (rw (named-slots params body) all_fresh) in
    let fits : Fits sight scope = record { visible = in_slots params body; callees = callees } in
    let long = length-slots params body in
    let s = block_sites_few body.block in
    record {
      slots = omega arith;
      statements = block_known sight scope inside body.block fits (loops_known before params body once) block_clean;
      sites = omega arith;
      returned = operand_known sight scope (inside + block_mentions body.block) body.output fits (λ m d h. clean m d (inr (inr h)));
    }
