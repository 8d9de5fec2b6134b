-- Taking from what is held, and adding a statement.
use Rattle.std.proofs.Common.{◌≡◌, ℕ, ◌+◌, ◌-◌, ◌≤◌, Bool, true, false, length, take, drop, arith, pos, Option, Some, None, List, [], ◌∷◌, ◌++◌, reverse, refl, sym, ◌∙◌, ap}
use Rattle.std.specs.Prelude.{OnOk, IfOk, Result, Ok, Err, nat_le, IsSome, if◌then◌else◌}
use Rattle.std.proofs.lemmas.Bool.{le-leb, leb-true}
use Rattle.std.proofs.lemmas.List.{reverse-append, reverse-reverse, length-reverse, take-append-drop, length-drop}
use Rattle.std.proofs.Math.Seq.{take-append_seam, drop-append_seam, take-length}
use Rattle.vmv_tree.specs.declared.name.Name.{Name}
use Rattle.vmv_tree.specs.declared.tree.Op.{Op}
use Rattle.vmv_tree.specs.declared.tree.Op.TheVariants.{Sub}
use Rattle.vmv_tree.specs.declared.tree.Operand.{Operand}
use Rattle.vmv_tree.specs.declared.tree.Operand.TheVariants as operand
use Rattle.vmv_tree.specs.declared.tree.Stmt.{Arith, Call}
use Rattle.vmv_tree.specs.declared.tree.Stmt.{Stmt}
use Rattle.vmv_tree.specs.Tree as core
use Rattle.vmv_tree.specs.Tree.{[], ◌⨾◌}
use Rattle.vmv_tree.specs.View.{stmt_of, block_of, stmt_of-arith, stmt_of-call}
use Rattle.vmv_surface.specs.Temporaries.{temporary}
use Rattle.vmv_surface.specs.Lower.{◌⧺◌}
use Rattle.vmv_lower.specs.declared.machine.Held.{Held}
use Rattle.vmv_lower.specs.Machine.{State, target, produced, operated, negated, first_depth, operands_of, asked_of, asked}

pub block_of-push : (b : List Stmt) (s : Stmt) → block_of (b ++ s ∷ []) ≡ block_of b ⧺ (stmt_of s ⨾ [])
block_of-push [] s = refl
block_of-push (x ∷ b) s = ap (λ c. stmt_of x ⨾ c) (block_of-push b s)

pub popped : (old new : List Held) (last : Held) → old ≡ new ++ last ∷ [] → reverse old ≡ last ∷ reverse new
popped old new last e = ap reverse e ∙ reverse-append new (last ∷ [])

pub on_ok : {T E : Type 0} (r : Result T E) (P Q : Type 0) → (P → Q) → OnOk r P → OnOk r Q
on_ok (Ok t) P Q f h = f h
on_ok (Err e) P Q f h = tt

pub if_ok : {T E : Type 0} (r : Result T E) (P Q : T → Type 0) → ((t : T) → P t → Q t) → IfOk r P → IfOk r Q
if_ok (Ok t) P Q f h = f t h
if_ok (Err e) P Q f h = tt

pub operate_made : (to : Option Name) (op : Op) (old mid new : List Held) (right left : Held) (s t made : State) → old ≡ mid ++ right ∷ [] → mid ≡ new ++ left ∷ [] → t.block ≡ s.block
    → made ≡ produced (core.compute (target to left.depth) op left.operand right.operand) left.depth (reverse new) t → Some made ≡ operated to op s (reverse old)
operate_made to op old mid new right left s t made a b same e =
    let stack : reverse old ≡ right ∷ (left ∷ reverse new) = popped old mid right a ∙ ap (λ held. right ∷ held) (popped mid new left b) in
    ap Some
    (e ∙ (λ i. record { block = same i ⧺ (core.compute (target to left.depth) op left.operand right.operand ⨾ []); depth = left.depth + 1; held = (produced (core.compute (target to left.depth) op left.operand right.operand) left.depth (reverse new) t).held }))
    ∙ ap (operated to op s) (sym stack)

pub negate_made : (to : Option Name) (old new : List Held) (inner : Held) (s t made : State) → old ≡ new ++ inner ∷ [] → t.block ≡ s.block
    → made ≡ produced (core.compute (target to inner.depth) Sub (operand.Lit (pos 0)) inner.operand) inner.depth (reverse new) t → Some made ≡ negated to s (reverse old)
negate_made to old new inner s t made a same e =
    ap Some
    (e ∙ (λ i. record { block = same i ⧺ (core.compute (target to inner.depth) Sub (operand.Lit (pos 0)) inner.operand ⨾ []); depth = inner.depth + 1; held = (produced (core.compute (target to inner.depth) Sub (operand.Lit (pos 0)) inner.operand) inner.depth (reverse new) t).held }))
    ∙ ap (negated to s) (sym (popped old new inner a))

pub arith_is : (to name : Name) (op : Op) (left right : Operand) → to ≡ name → stmt_of (Arith to op left right) ≡ core.compute name op left right
arith_is to name op left right e = stmt_of-arith to op left right ∙ ap (λ x. core.compute x op left right) e

-- what a statement adds
pub produce_made : (stmt : Stmt) (depth number : ℕ) (name : Name) (block block' : List Stmt) (held held' : List Held) (s : State)
    → number ≡ depth + 1 → name ≡ temporary number → block' ≡ block ++ stmt ∷ [] → held' ≡ held ++ record { operand = operand.Var name; depth = depth } ∷ [] → s.block ≡ block_of block
    → ◌≡◌ {A = State} (record { block = block_of block'; depth = number; held = reverse held' }) (produced (stmt_of stmt) depth (reverse held) s)
produce_made stmt depth number name block block' held held' s n e b h same i = record {
  block = (ap block_of b ∙ (block_of-push block stmt ∙ ap (λ c. c ⧺ (stmt_of stmt ⨾ [])) (sym same))) i;
  depth = n i;
  held = (popped held' held (record { operand = operand.Var name; depth = depth }) h ∙ ap (λ (x : Name). record { operand = operand.Var x; depth = depth } ∷ reverse held) (e ∙ ap temporary n)) i;
}

-- the last ones of a stack, and those below

module _ (items : List Held) (count : ℕ) (within : count ≤ length items) where
  abbrev at : ℕ
  at = length items - count

  parted : reverse items ≡ reverse (drop at items) ++ reverse (take at items)
  parted = ap reverse (sym (take-append-drop at items)) ∙ reverse-append (take at items) (drop at items)

  last_size : length (reverse (drop at items)) ≡ count
  last_size = length-reverse (drop at items) ∙ omega (arith, length-drop at items, within)

  last_taken : reverse (take count (reverse items)) ≡ drop at items
  last_taken =
      ap reverse
      (ap (take count) parted ∙ (ap (λ (k : ℕ). take k (reverse (drop at items) ++ reverse (take at items))) (sym last_size) ∙ take-append_seam (reverse (drop at items)) (reverse (take at items))))
      ∙ reverse-reverse (drop at items)

  last_left : drop count (reverse items) ≡ reverse (take at items)
  last_left =
      ap (drop count) parted ∙ (ap (λ (k : ℕ). drop k (reverse (drop at items) ++ reverse (take at items))) (sym last_size) ∙ drop-append_seam (reverse (drop at items)) (reverse (take at items)))

  pub asked_is : (to : Option Name) (callee : Name) (s : State) → s.held ≡ reverse items → asked to callee count s ≡ Some (asked_of to callee (drop at items) (reverse (take at items)) s)
  asked_is to callee s same =
      let enough : nat_le count (length s.held) ≡ true = le-leb count (length s.held) (omega (arith, ap length same, length-reverse items, within)) in
      ap (λ (b : Bool). if b then Some (asked_of to callee (reverse (take count s.held)) (drop count s.held) s) else None) enough
      ∙ ap Some
      (ap (λ (xs : List Held). asked_of to callee (reverse (take count xs)) (drop count xs) s) same
      ∙ (ap (λ (xs : List Held). asked_of to callee xs (drop count (reverse items)) s) last_taken ∙ ap (λ (xs : List Held). asked_of to callee (drop at items) xs s) last_left))

pub call_is : (to name callee : Name) (args args' : List Operand) → to ≡ name → args ≡ args' → stmt_of (Call to callee args) ≡ core.call name callee args'
call_is to name callee args args' e f = stmt_of-call to callee args ∙ (λ i. core.call (e i) callee (f i))

pub ask_made : (to : Option Name) (callee name : Name) (count : ℕ) (items kept given : List Held) (args : List Operand) (depth : ℕ) (s t made : State) → s.held ≡ reverse items → count ≤ length items
    → given ≡ drop (length items - count) items → kept ≡ take (length items - count) items → depth ≡ first_depth s.depth given → args ≡ operands_of given → name ≡ target to depth → t.block ≡ s.block
    → made ≡ produced (stmt_of (Call name callee args)) depth (reverse kept) t → Some made ≡ asked to callee count s
ask_made to callee name count items kept given args depth s t made stack within g k d a n same e =
    let there : depth ≡ first_depth s.depth (drop (length items - count) items) = d ∙ ap (first_depth s.depth) g in
    let stmt = call_is name (target to depth) callee args (operands_of (drop (length items - count) items)) n (a ∙ ap operands_of g) in
    ap Some
    (e ∙ (λ i. record { block = same i ⧺ ((stmt ∙ ap (λ (x : ℕ). core.call (target to x) callee (operands_of (drop (length items - count) items))) there) i ⨾ []); depth = there i + 1; held = record { operand = operand.Var (temporary (there i + 1)); depth = there i } ∷ reverse (k i) }))
    ∙ sym (asked_is items count within to callee s stack)

-- there are so many where a call may take them
pub asked_within : (to : Option Name) (callee : Name) (count : ℕ) (s : State) → IsSome (asked to callee count s) → count ≤ length s.held
asked_within to callee count s h = by (nat_le count (length s.held)) refl h
  where
    by : (b : Bool) → nat_le count (length s.held) ≡ b → IsSome (if b then Some (asked_of to callee (reverse (take count s.held)) (drop count s.held) s) else None) → count ≤ length s.held
    by true e k = leb-true count (length s.held) e
    by false e k = absurd (cc k)

-- a range to the end
pub ranged : (items xs : List Held) (a b : ℕ) → xs ≡ items → a ≡ b → take (length xs - a) (drop a xs) ≡ drop b items
ranged items xs a b e f =
    ap (λ (k : ℕ). take k (drop a xs)) (sym (length-drop a xs)) ∙ (take-length (drop a xs) ∙ (λ i. drop (f i) (e i)))
