-- Walks over operands, names and statements find the first defect there.
use Rattle.std.proofs.Common.{◌≡◌, ◌⊎◌, inl, inr, ℕ, ◌+◌, Bool, true, false, not, ◌&&◌, ◌||◌, ◌==◌, ℤ, pos, negsuc, Option, Some, is_some, Ok, List, [], ◌∷◌, ◌++◌, length, refl, ap, subst, arith, if◌then◌else◌}
use Rattle.std.specs.Bool.{Decides}
use Rattle.std.specs.List.{Contains}
use Rattle.std.specs.Str.{bytes_eq}
use Rattle.std.proofs.lemmas.List.Folds.{list_any-append}
use Rattle.std.proofs.lemmas.Slice.Eq.{bytes_eq-Decides}
use Rattle.std.proofs.lemmas.Map.Made.{is_member-Decides}
use Rattle.std.proofs.lemmas.Bool.Decides.{Decides-eqb, Decides-like, Decides-not, Decides-and, Decides-or}
use Rattle.vmv_tree.specs.declared.defect.Defect.TheVariants.{UnknownName, Repeated, ArityWrong, IndexAssigned}
use Rattle.vmv_tree.specs.declared.name.Name.{Name}
use Rattle.vmv_tree.specs.declared.tree.Operand.{Operand}
use Rattle.vmv_tree.specs.declared.tree.Operand.TheVariants.{Lit, Var}
use Rattle.vmv_tree.specs.declared.tree.Test.{Test}
use Rattle.vmv_tree.specs.Tree.{Stmt, copy, compute, call, assert, choose, repeat, Block, [], ◌⨾◌, Item, outside, helper, entry}
use Rattle.vmv_tree.specs.Mentions.{operand_mentions, test_mentions, args_mentions, mentions, block_mentions}
use Rattle.vmv_tree.specs.Limits.{indexes_of, block_indexes}
use Rattle.vmv_tree.specs.Valid.{Scope, At, Takes, InOperand, InTarget, InTest, InArgs, InCallee, InStmt, InBlock}
use Rattle.vmv_valid.specs.declared.callee.Callee.{Callee}
use Rattle.vmv_valid.specs.Names.{is_among}
use Rattle.vmv_valid.specs.Callees.{fits, takes, declares, arity_of}
use Rattle.vmv_valid.specs.Measures.{callees_of}
use Rattle.vmv_valid.specs.Walks.{and_on, defect_at, is_visible, walk_operand, walk_target, walk_test, walk_args, walk_callee, walk_stmt, walk_block}
use Rattle.vmv_valid.proofs.FirstFound.{Either, Part, Here, both, here_from, no_part, check, check_not, only_check, only_check_not, ends_at}

-- a name is found among others exactly where they contain it
pub among_tells : (names : List Name) (name : Name) → Decides (is_among names name) (Contains names name)
among_tells names name = is_member-Decides bytes_eq-Decides names name

-- what a place sees, where these are the parameters and variables, and these the indexes of the loops around it
abbrev pub scope_of : List Item → List Name → List Name → List Name → Scope
scope_of above names indexes declared = record { above = above; visible = indexes ++ names; indexes = indexes; declared = declared }

visible_tells : (names indexes : List Name) (name : Name) → Decides (is_visible names indexes name) (Contains (indexes ++ names) name)
visible_tells names indexes name =
    subst (λ (b : Bool). Decides b (Contains (indexes ++ names) name)) (list_any-append (bytes_eq name) indexes names)
    (among_tells (indexes ++ names) name)

pub operand_part : (above : List Item) (names indexes declared : List Name) (k : ℕ) (o : Operand)
    → Part (InOperand (scope_of above names indexes declared) k o) k (k + operand_mentions o) (walk_operand names indexes k o)
operand_part above names indexes declared k (Lit word) = ends_at k k (k + 0) (omega arith) (no_part k)
operand_part above names indexes declared k (Var name) =
    (only_check_not k UnknownName (Contains (indexes ++ names) name → ⊥) (is_visible names indexes name)
    (Decides-not (is_visible names indexes name) (visible_tells names indexes name))).part

target_part : (above : List Item) (names indexes declared : List Name) (k : ℕ) (to : Name)
    → Part (InTarget (scope_of above names indexes declared) k to) k (k + 1) (walk_target names indexes k to)
target_part above names indexes declared k to =
    (check_not k UnknownName (Contains (indexes ++ names) to → ⊥) 4 (k + 1) (is_visible names indexes to)
    (Decides-not (is_visible names indexes to) (visible_tells names indexes to)) (omega arith) (omega arith)
    (only_check k IndexAssigned (Contains indexes to) (is_among indexes to) (among_tells indexes to))).part

test_part : (above : List Item) (names indexes declared : List Name) (k : ℕ) (test : Test)
    → Part (InTest (scope_of above names indexes declared) k test) k (k + test_mentions test) (walk_test names indexes k test)
test_part above names indexes declared k test =
    ends_at k (k + operand_mentions test.left + operand_mentions test.right) (k + test_mentions test) (omega arith)
    (both k (k + operand_mentions test.left) (k + operand_mentions test.left + operand_mentions test.right) (λ k. walk_operand names indexes k test.right)
    (operand_part above names indexes declared k test.left)
    (operand_part above names indexes declared (k + operand_mentions test.left) test.right))

args_part : (above : List Item) (names indexes declared : List Name) (k : ℕ) (args : List Operand)
    → Part (InArgs (scope_of above names indexes declared) k args) k (k + args_mentions args) (walk_args names indexes k args)
args_part above names indexes declared k [] = ends_at k k (k + 0) (omega arith) (no_part k)
args_part above names indexes declared k (o ∷ args) =
    let n = operand_mentions o in
    ends_at k (k + n + args_mentions args) (k + args_mentions (o ∷ args)) (omega arith)
    (both k (k + n) (k + n + args_mentions args) (λ k. walk_args names indexes k args)
    (operand_part above names indexes declared k o)
    (args_part above names indexes declared (k + n) args))

-- which items take so many arguments

fits_tells : (arity : ℤ) (n : ℕ) → Decides (fits (arity_of arity) n) (arity ≡ pos n)
fits_tells (pos m) n = Decides-like (m == n) (λ (e : m ≡ n). ap pos e) (λ (e : pos m ≡ pos n). cc) (Decides-eqb m n)
fits_tells (negsuc m) n = (λ (e : false ≡ true). absurd (cc), λ (e : negsuc m ≡ pos n). absurd (cc))

takes_one : (name callee : Name) (arity : Option ℕ) (above : List Item) (callees : List Callee) (n : ℕ) (Fits : Type 0)
    → Decides (fits arity n) Fits → Decides (takes callees callee n) (Takes above callee n)
    → Decides ((fits arity n && bytes_eq name callee) || takes callees callee n) (((name ≡ callee) × Fits) ⊎ Takes above callee n)
takes_one name callee arity above callees n Fits one more =
    Decides-or (fits arity n && bytes_eq name callee) (takes callees callee n)
    (Decides-like (fits arity n && bytes_eq name callee) (λ (h : Fits × (name ≡ callee)). (h.1, h.0)) (λ (h : (name ≡ callee) × Fits). (h.1, h.0))
    (Decides-and (fits arity n) (bytes_eq name callee) one (bytes_eq-Decides name callee)))
    more

pub takes_tells : (above : List Item) (callee : Name) (n : ℕ) → Decides (takes (callees_of above) callee n) (Takes above callee n)
takes_tells [] callee n = (λ (e : false ≡ true). absurd (cc), λ (t : ⊥). absurd t)
takes_tells (outside name arity ∷ above) callee n =
    takes_one name callee (arity_of arity) above (callees_of above) n (arity ≡ pos n) (fits_tells arity n) (takes_tells above callee n)
takes_tells (helper name params body ∷ above) callee n =
    takes_one name callee (Some (length params)) above (callees_of above) n (length params ≡ n) (Decides-eqb (length params) n) (takes_tells above callee n)
takes_tells (entry name params body ∷ above) callee n = takes_tells above callee n

-- some item takes some number
abbrev TakesSome : List Item → Name → Type 0
TakesSome above callee = (n : ℕ) × Takes above callee n

some_arity : (arity : ℤ) → Decides (is_some (arity_of arity)) ((n : ℕ) × (arity ≡ pos n))
some_arity (pos m) = (λ (e : true ≡ true). (m, refl), λ (h : (n : ℕ) × (pos m ≡ pos n)). refl)
some_arity (negsuc m) = (λ (e : false ≡ true). absurd (cc), λ (h : (n : ℕ) × (negsuc m ≡ pos n)). let no : negsuc m ≡ pos h.0 = h.1 in absurd (cc))

some_out : (name callee : Name) (above : List Item) (Fits : ℕ → Type 0)
    → (((n : ℕ) × Fits n) × (name ≡ callee)) ⊎ TakesSome above callee → (n : ℕ) × (((name ≡ callee) × Fits n) ⊎ Takes above callee n)
some_out name callee above Fits (inl h) = (h.0.0, inl (h.1, h.0.1))
some_out name callee above Fits (inr h) = (h.0, inr h.1)

some_in_at : (name callee : Name) (above : List Item) (Fits : ℕ → Type 0) (n : ℕ)
    → ((name ≡ callee) × Fits n) ⊎ Takes above callee n → (((n : ℕ) × Fits n) × (name ≡ callee)) ⊎ TakesSome above callee
some_in_at name callee above Fits n (inl h) = inl ((n, h.1), h.0)
some_in_at name callee above Fits n (inr h) = inr (n, h)

some_in : (name callee : Name) (above : List Item) (Fits : ℕ → Type 0)
    → (n : ℕ) × (((name ≡ callee) × Fits n) ⊎ Takes above callee n) → (((n : ℕ) × Fits n) × (name ≡ callee)) ⊎ TakesSome above callee
some_in name callee above Fits h = some_in_at name callee above Fits h.0 h.1

takes_some : (name callee : Name) (above : List Item) (Fits : ℕ → Type 0) (some : Bool) (rest : Bool) → Decides some ((n : ℕ) × Fits n) → Decides rest (TakesSome above callee)
    → Decides ((some && bytes_eq name callee) || rest) ((n : ℕ) × (((name ≡ callee) × Fits n) ⊎ Takes above callee n))
takes_some name callee above Fits some rest one more =
    Decides-like ((some && bytes_eq name callee) || rest) (some_out name callee above Fits) (some_in name callee above Fits)
    (Decides-or (some && bytes_eq name callee) rest (Decides-and some (bytes_eq name callee) one (bytes_eq-Decides name callee)) more)

pub declares_tells : (above : List Item) (callee : Name) → Decides (declares (callees_of above) callee) (TakesSome above callee)
declares_tells [] callee = (λ (e : false ≡ true). absurd (cc), λ (t : TakesSome [] callee). absurd t.1)
declares_tells (outside name arity ∷ above) callee =
    takes_some name callee above (λ n. arity ≡ pos n) (is_some (arity_of arity)) (declares (callees_of above) callee) (some_arity arity) (declares_tells above callee)
declares_tells (helper name params body ∷ above) callee =
    takes_some name callee above (λ n. length params ≡ n) true (declares (callees_of above) callee)
    (λ (e : true ≡ true). (length params, refl), λ (h : (n : ℕ) × (length params ≡ n)). refl) (declares_tells above callee)
declares_tells (entry name params body ∷ above) callee = declares_tells above callee

callee_checks : (above : List Item) (k : ℕ) (callee : Name) (count : ℕ) (some one : Bool)
    → Decides some (TakesSome above callee) → Decides one (Takes above callee count)
    → Here (Either (At k UnknownName ((n : ℕ) → Takes above callee n → ⊥)) (At k ArityWrong (TakesSome above callee × (Takes above callee count → ⊥)))) k 1 (k + 1)
    (if some then (if one then Ok (k + 1) else defect_at k ArityWrong) else defect_at k UnknownName)
callee_checks above k callee count true one some_tells one_tells =
    check_not k UnknownName ((n : ℕ) → Takes above callee n → ⊥) 3 (k + 1) true
    (λ (e : false ≡ true). absurd (cc), λ (no : (n : ℕ) → Takes above callee n → ⊥). let h : TakesSome above callee = some_tells.0 refl in absurd (no h.0 h.1))
    (omega arith) (omega arith)
    (only_check_not k ArityWrong (TakesSome above callee × (Takes above callee count → ⊥)) one
    (Decides-like (not one) (λ (no : Takes above callee count → ⊥). (some_tells.0 refl, no)) (λ (h : TakesSome above callee × (Takes above callee count → ⊥)). h.1)
    (Decides-not one one_tells)))
callee_checks above k callee count false one some_tells one_tells =
    check_not k UnknownName ((n : ℕ) → Takes above callee n → ⊥) 3 (k + 1) false
    (λ (e : true ≡ true). λ (n : ℕ) (t : Takes above callee n). let no : false ≡ true = some_tells.1 (n, t) in absurd (cc), λ (no : (n : ℕ) → Takes above callee n → ⊥). refl)
    (omega arith) (omega arith)
    (only_check_not k ArityWrong (TakesSome above callee × (Takes above callee count → ⊥)) true
    (λ (e : false ≡ true). absurd (cc), λ (h : TakesSome above callee × (Takes above callee count → ⊥)). let no : false ≡ true = some_tells.1 h.0 in absurd (cc)))

callee_part : (above : List Item) (names indexes declared : List Name) (k : ℕ) (callee : Name) (count : ℕ)
    → Part (InCallee (scope_of above names indexes declared) k callee count) k (k + 1) (walk_callee (callees_of above) k callee count)
callee_part above names indexes declared k callee count =
    (callee_checks above k callee count (declares (callees_of above) callee) (takes (callees_of above) callee count)
    (declares_tells above callee) (takes_tells above callee count)).part

-- a walk over a statement, and over statements in a row, finds the first defect of what is there
mutual
  pub stmt_part : (above : List Item) (names indexes declared : List Name) (k : ℕ) (s : Stmt)
      → Part (InStmt (scope_of above names indexes declared) k s) k (k + mentions s) (walk_stmt (callees_of above) names indexes declared k s)
  stmt_part above names indexes declared k (copy to from) =
      let end = k + 1 + operand_mentions from in
      ends_at k end (k + mentions (copy to from)) (omega arith)
      (both k (k + 1) end (λ k. walk_operand names indexes k from)
      (target_part above names indexes declared k to)
      (operand_part above names indexes declared (k + 1) from))
  stmt_part above names indexes declared k (compute to op left right) =
      let mid = k + 1 + operand_mentions left in
      let end = mid + operand_mentions right in
      ends_at k end (k + mentions (compute to op left right)) (omega arith)
      (both k (k + 1) end (λ k. and_on (walk_operand names indexes k left) (λ k. walk_operand names indexes k right))
      (target_part above names indexes declared k to)
      (both (k + 1) mid end (λ k. walk_operand names indexes k right)
      (operand_part above names indexes declared (k + 1) left)
      (operand_part above names indexes declared mid right)))
  stmt_part above names indexes declared k (call to callee args) =
      let end = k + 2 + args_mentions args in
      ends_at k end (k + mentions (call to callee args)) (omega arith)
      (both k (k + 1) end (λ k. and_on (walk_callee (callees_of above) k callee (length args)) (λ k. walk_args names indexes k args))
      (target_part above names indexes declared k to)
      (both (k + 1) (k + 2) end (λ k. walk_args names indexes k args)
      (ends_at (k + 1) (k + 1 + 1) (k + 2) (omega arith) (callee_part above names indexes declared (k + 1) callee (length args)))
      (args_part above names indexes declared (k + 2) args)))
  stmt_part above names indexes declared k (assert test) = test_part above names indexes declared k test
  stmt_part above names indexes declared k (choose test first second) =
      let mid = k + test_mentions test in
      let next = mid + block_mentions first in
      let end = next + block_mentions second in
      let more = declared ++ block_indexes first in
      ends_at k end (k + mentions (choose test first second)) (omega arith)
      (both k mid end (λ k. and_on (walk_block (callees_of above) names indexes declared k first) (λ k. walk_block (callees_of above) names indexes more k second))
      (test_part above names indexes declared k test)
      (both mid next end (λ k. walk_block (callees_of above) names indexes more k second)
      (block_part above names indexes declared mid first)
      (block_part above names indexes more next second)))
  stmt_part above names indexes declared k (repeat index bound most body) =
      let mid = k + 1 + operand_mentions bound in
      let end = mid + block_mentions body in
      ends_at k end (k + mentions (repeat index bound most body)) (omega arith)
      (check k Repeated (Contains declared index) 100 end (is_among declared index) (among_tells declared index) (omega arith) (omega arith)
      (here_from k 100 end
      (both (k + 1) mid end (λ k. walk_block (callees_of above) names (index ∷ indexes) (declared ++ index ∷ []) k body)
      (operand_part above names indexes declared (k + 1) bound)
      (block_part above names (index ∷ indexes) (declared ++ index ∷ []) mid body)))).part

  pub block_part : (above : List Item) (names indexes declared : List Name) (k : ℕ) (b : Block)
      → Part (InBlock (scope_of above names indexes declared) k b) k (k + block_mentions b) (walk_block (callees_of above) names indexes declared k b)
  block_part above names indexes declared k [] = ends_at k k (k + 0) (omega arith) (no_part k)
  block_part above names indexes declared k (s ⨾ rest) =
      let mid = k + mentions s in
      let end = mid + block_mentions rest in
      ends_at k end (k + block_mentions (s ⨾ rest)) (omega arith)
      (both k mid end (λ k. walk_block (callees_of above) names indexes (declared ++ indexes_of s) k rest)
      (stmt_part above names indexes declared k s)
      (block_part above names indexes (declared ++ indexes_of s) mid rest))
