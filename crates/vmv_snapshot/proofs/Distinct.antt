-- In a valid procedure no two slots have one name.
use Rattle.std.proofs.Common.{◌≡◌, ◌⊎◌, inl, inr, ⊎_elim, ℕ, zero, suc, ◌+◌, ◌<◌, Option, Some, None, List, [], ◌∷◌, ◌++◌, length, map, slice_get, refl, sym, ap, subst, arith, ◌∙◌, append_assoc, append-nil}
use Rattle.std.specs.Bool.{⊤}
use Rattle.std.specs.List.{Contains}
use Rattle.std.proofs.lemmas.List.Elements.{Contains-append_left, Contains-append_right}
use Rattle.vmv_tree.specs.declared.defect.Defect.{Defect}
use Rattle.vmv_tree.specs.declared.defect.Defect.TheVariants.{Repeated}
use Rattle.vmv_tree.specs.declared.name.Name.{Name}
use Rattle.vmv_tree.specs.declared.tree.Param.{Param}
use Rattle.vmv_tree.specs.Tree.{Stmt, copy, compute, call, assert, choose, repeat, Block, [], ◌⨾◌}
use Rattle.vmv_tree.specs.Mentions.{operand_mentions, test_mentions, mentions, block_mentions}
use Rattle.vmv_tree.specs.Limits.{indexes_of, block_indexes}
use Rattle.vmv_tree.specs.Valid.{Scope as Sight, InStmt, InBlock, InNames, InParams}
use Rattle.vmv_snapshot.proofs.Known.{Clean}
use Rattle.vmv_snapshot.proofs.Lookups.{at_contains}
use Rattle.vmv_snapshot.proofs.Named.{named, named_at, first_or_further}

-- each name stands for the first time, these having stood before
abbrev pub AreFresh : List Name → List Name → Type 0
AreFresh seen [] = ⊤
AreFresh seen (x ∷ xs) = (Contains seen x → ⊥) × AreFresh (seen ++ x ∷ []) xs

pub fresh_not_seen : (seen xs : List Name) (x : Name) → AreFresh seen xs → Contains seen x → Contains xs x → ⊥
fresh_not_seen seen [] x fresh there (k, h, e) = absurd (omega arith)
fresh_not_seen seen (y ∷ xs) x fresh there h =
    ⊎_elim (λ (e : y ≡ x). fresh.0 (subst (Contains seen) (sym e) there))
    (λ (g : Contains xs x). fresh_not_seen (seen ++ y ∷ []) xs x fresh.1 (Contains-append_left seen (y ∷ []) x there) g)
    (first_or_further y xs x h)

pub fresh_row : (seen xs ys : List Name) → AreFresh seen xs → AreFresh (seen ++ xs) ys → AreFresh seen (xs ++ ys)
fresh_row seen [] ys a b = rw append-nil at b
fresh_row seen (x ∷ xs) ys a b = (a.0, fresh_row (seen ++ x ∷ []) xs ys a.1 (rw (append_assoc seen (x ∷ []) xs) b))

pub names_fresh : (k : ℕ) (seen names : List Name) → Clean (InNames k seen names) → AreFresh seen names
names_fresh k seen [] clean = tt
names_fresh k seen (name ∷ names) clean =
    (λ h. clean k Repeated (inl (refl, refl, h)), names_fresh (k + 1) (seen ++ name ∷ []) names (λ m d h. clean m d (inr h)))

pub params_fresh : (k : ℕ) (seen : List Name) (params : List Param) → Clean (InParams k seen params) → AreFresh seen (map (λ p. p.name) params)
params_fresh k seen [] clean = tt
params_fresh k seen (p ∷ params) clean =
    (λ h. clean k Repeated (inl (refl, refl, h)), params_fresh (k + 1) (seen ++ p.name ∷ []) params (λ m d h. clean m d (inr (inr h))))

mutual
  stmt_fresh : (sight : Sight) (k : ℕ) (s : Stmt) → Clean (InStmt sight k s) → AreFresh sight.declared (indexes_of s)
  stmt_fresh sight k (copy to from) clean = tt
  stmt_fresh sight k (compute to op left right) clean = tt
  stmt_fresh sight k (call to callee args) clean = tt
  stmt_fresh sight k (assert test) clean = tt
  stmt_fresh sight k (choose test first second) clean =
      fresh_row sight.declared (block_indexes first) (block_indexes second) (block_fresh sight (k + test_mentions test) first (λ m d h. clean m d (inr (inl h))))
      (block_fresh (record sight { declared = sight.declared ++ block_indexes first }) (k + test_mentions test + block_mentions first) second (λ m d h. clean m d (inr (inr h))))
  stmt_fresh sight k (repeat index bound most body) clean = (
    λ h. clean k Repeated (inl (refl, refl, h)),
    block_fresh (record sight { visible = index ∷ sight.visible; indexes = index ∷ sight.indexes; declared = sight.declared ++ index ∷ [] }) (k + 1 + operand_mentions bound) body
        (λ m d h. clean m d (inr (inr h))),
  )

  pub block_fresh : (sight : Sight) (k : ℕ) (b : Block) → Clean (InBlock sight k b) → AreFresh sight.declared (block_indexes b)
  block_fresh sight k [] clean = tt
  block_fresh sight k (s ⨾ rest) clean =
      fresh_row sight.declared (indexes_of s) (block_indexes rest) (stmt_fresh sight k s (λ m d h. clean m d (inl h)))
      (block_fresh (record sight { declared = sight.declared ++ indexes_of s }) (k + mentions s) rest (λ m d h. clean m d (inr h)))

-- no two places have one name
abbrev pub AreOnePlace : List (Option Name) → Type 0
AreOnePlace places = (m n : ℕ) (x : Name) → slice_get places m ≡ Some (Some x) → slice_get places n ≡ Some (Some x) → m ≡ n

pub fresh_one_place : (seen : List Name) (places : List (Option Name)) → AreFresh seen (named places) → AreOnePlace places
fresh_one_place seen [] fresh m n x a b = absurd (cc)
fresh_one_place seen (None ∷ places) fresh zero n x a b = absurd (cc)
fresh_one_place seen (None ∷ places) fresh (suc m) zero x a b = absurd (cc)
fresh_one_place seen (None ∷ places) fresh (suc m) (suc n) x a b = ap suc (fresh_one_place seen places fresh m n x a b)
fresh_one_place seen (Some y ∷ places) fresh zero zero x a b = refl
fresh_one_place seen (Some y ∷ places) fresh zero (suc n) x a b =
    let same : y ≡ x = cc in
    absurd (fresh_not_seen (seen ++ y ∷ []) (named places) x fresh.1 (subst (Contains (seen ++ y ∷ [])) same (Contains-append_right seen (y ∷ []) y (0, omega arith, refl))) (named_at places n x b))
fresh_one_place seen (Some y ∷ places) fresh (suc m) zero x a b =
    let same : y ≡ x = cc in
    absurd (fresh_not_seen (seen ++ y ∷ []) (named places) x fresh.1 (subst (Contains (seen ++ y ∷ [])) same (Contains-append_right seen (y ∷ []) y (0, omega arith, refl))) (named_at places m x a))
fresh_one_place seen (Some y ∷ places) fresh (suc m) (suc n) x a b = ap suc (fresh_one_place (seen ++ y ∷ []) places fresh.1 m n x a b)
