-- What the machine leaves behind all steps of an expression.
use Rattle.std.proofs.Common.{◌≡◌, ℕ, pos, Option, Some, None, List, [], ◌∷◌, ◌++◌, length, reverse, refl, sym, ◌∙◌, ap, subst, arith}
use Rattle.std.specs.Prelude.{IsSome}
use Rattle.std.proofs.lemmas.List.{reverse-append, reverse-reverse, append-nil}
use Rattle.vmv_tree.specs.declared.name.Name.{Name}
use Rattle.vmv_tree.specs.declared.tree.Op.TheVariants.{Sub}
use Rattle.vmv_tree.specs.declared.tree.Operand.{Operand}
use Rattle.vmv_tree.specs.declared.tree.Operand.TheVariants as operand
use Rattle.vmv_tree.specs.declared.tree.Stmt.{Stmt, Set}
use Rattle.vmv_tree.specs.Tree as core
use Rattle.vmv_tree.specs.Tree.{[], ◌⨾◌}
use Rattle.vmv_tree.specs.View.{stmt_of, block_of, stmt_of-set}
use Rattle.vmv_surface.specs.Surface.{Expr, literal, variable, operate, minus, ask}
use Rattle.vmv_surface.specs.Lower.{◌⧺◌, behind, operand, operands, lowered, assigned}
use Rattle.vmv_lower.specs.declared.step.Step.{Step}
use Rattle.vmv_lower.specs.declared.step.Step.TheVariants as step
use Rattle.vmv_lower.specs.declared.machine.Held.{Held}
use Rattle.vmv_lower.specs.Steps.{steps_of, args_steps, count, AreSteps}
use Rattle.vmv_lower.specs.Machine.{State, starting, stepped, run}
use Rattle.vmv_lower.specs.Lowered.{IsLowered, simple}
use Rattle.vmv_lower.proofs.Stacks.{popped}
use Rattle.vmv_lower.proofs.Runs.{blocks-assoc, held_of, after, after_args, args-block, asked_for, runs, args_run, run_whole}

pub run_some : (steps : List Step) (d : ℕ) (s : State) → AreSteps steps → s ≡ starting d → IsSome (run steps s)
run_some steps d s (e, is) at =
    let done : run steps s ≡ Some (after e s) = ap (λ (xs : List Step). run xs s) is ∙ run_whole e s in
    subst IsSome (sym done) refl

module _ (e : Expr) (d : ℕ) (steps : List Step) (start now : State) (is : steps ≡ steps_of e) (at : start ≡ starting d) (ran : Some now ≡ run steps start) where
  pub now_is : now ≡ after e (starting d)
  now_is =
      let whole : Some now ≡ Some (after e (starting d)) = ran ∙ ((λ i. run (is i) (at i)) ∙ run_whole e (starting d)) in
      cc whole

pub lowered_made : (e : Expr) (d depth : ℕ) (steps : List Step) (start : State) (items new : List Held) (last : Held) (block : List Stmt)
    → steps ≡ steps_of e → start ≡ starting d → ◌≡◌ {A = Option State} (Some (record { block = block_of block; depth = depth; held = reverse items })) (run steps start)
    → items ≡ new ++ last ∷ [] → IsLowered d e (record { block = block; operand = last.operand; depth = depth })
lowered_made e d depth steps start items new last block is at ran left =
    let whole = now_is e d steps start (record { block = block_of block; depth = depth; held = reverse items }) is at ran in
    let stack : last ∷ reverse new ≡ held_of d e ∷ [] = sym (popped items new last left) ∙ ap (λ s. s.held) whole in
    let top : last ≡ held_of d e = cc stack in
    record { block = ap (λ s. s.block) whole; operand_is = ap (λ h. h.operand) top; behind_is = ap (λ s. s.depth) whole }

pub still_held : (e : Expr) (d depth : ℕ) (steps : List Step) (start : State) (items : List Held) (block : List Stmt)
    → steps ≡ steps_of e → start ≡ starting d → ◌≡◌ {A = Option State} (Some (record { block = block_of block; depth = depth; held = reverse items })) (run steps start)
    → items ≡ [] → ⊥
still_held e d depth steps start items block is at ran left =
    let whole = now_is e d steps start (record { block = block_of block; depth = depth; held = reverse items }) is at ran in
    let none : [] ≡ held_of d e ∷ [] = ap reverse (sym left) ∙ ap (λ s. s.held) whole in
    cc none

-- the last of a row

pub last_once : (xs ys : List Step) (x y : Step) → xs ++ x ∷ [] ≡ ys ++ y ∷ [] → (xs ≡ ys) × (x ≡ y)
last_once xs ys x y e =
    let turned : x ∷ reverse xs ≡ y ∷ reverse ys = sym (reverse-append xs (x ∷ [])) ∙ (ap reverse e ∙ reverse-append ys (y ∷ [])) in
    let rest : reverse xs ≡ reverse ys = cc turned in
    (sym (reverse-reverse xs) ∙ (ap reverse rest ∙ reverse-reverse ys), cc turned)

some_last : (xs : List Step) (x : Step) → xs ++ x ∷ [] ≡ [] → ⊥
some_last [] x e = cc e
some_last (y ∷ xs) x e = cc e

pub some_steps : (e : Expr) → steps_of e ≡ [] → ⊥
some_steps (literal word) h = cc h
some_steps (variable name) h = cc h
some_steps (operate op left right) h = some_last (steps_of left ++ steps_of right) (step.Operate op) h
some_steps (minus inner) h = some_last (steps_of inner) step.Negate h
some_steps (ask callee args) h = some_last (args_steps args) (step.Ask callee (count args)) h

-- an assignment of a literal or a name
pub simple_assigned : (e : Expr) (to : Name) (front : List Step) (last : Step) (from : Operand) → front ++ last ∷ [] ≡ steps_of e → simple last ≡ Some from → stmt_of (Set to from) ⨾ [] ≡ assigned to e
simple_assigned (literal word) to front last from h k =
    let l = last_once front [] last (step.Lit word) h in
    let o : from ≡ operand.Lit word = cc (ap simple l.1, k) in
    ap (λ s. s ⨾ []) (stmt_of-set to from ∙ ap (core.copy to) o)
simple_assigned (variable name) to front last from h k =
    let l = last_once front [] last (step.Var name) h in
    let o : from ≡ operand.Var name = cc (ap simple l.1, k) in
    ap (λ s. s ⨾ []) (stmt_of-set to from ∙ ap (core.copy to) o)
simple_assigned (operate op left right) to front last from h k =
    let l = last_once front (steps_of left ++ steps_of right) last (step.Operate op) h in
    absurd (cc (ap simple l.1, k))
simple_assigned (minus inner) to front last from h k =
    let l = last_once front (steps_of inner) last step.Negate h in
    absurd (cc (ap simple l.1, k))
simple_assigned (ask callee args) to front last from h k =
    let l = last_once front (args_steps args) last (step.Ask callee (count args)) h in
    absurd (cc (ap simple l.1, k))

-- an assignment of anything else: the steps before the last, and the last
pub record Assigns (e : Expr) (to : Name) (front : List Step) (last : Step) : Type 0 where
  pub mid : State
  pub end : State
  pub before : run front (starting 0) ≡ Some mid
  pub ends : stepped (Some to) last mid ≡ Some end
  pub block : end.block ≡ assigned to e

pub assigns : (e : Expr) (to : Name) (front : List Step) (last : Step) → front ++ last ∷ [] ≡ steps_of e → simple last ≡ None → Assigns e to front last
assigns (literal word) to front last h k =
    let l = last_once front [] last (step.Lit word) h in
    absurd (cc (ap simple l.1, k))
assigns (variable name) to front last h k =
    let l = last_once front [] last (step.Var name) h in
    absurd (cc (ap simple l.1, k))
assigns (operate op left right) to front last h k =
    let l = last_once front (steps_of left ++ steps_of right) last (step.Operate op) h in
    let s = starting 0 in
    let mid = after right (after left s) in
    let stmt = core.compute to op (operand 0 left) (operand (behind 0 left) right) in
    record {
      mid = mid;
      end = record { block = mid.block ⧺ (stmt ⨾ []); depth = 1; held = held_of 0 (operate op left right) ∷ [] };
      before = ap (λ (xs : List Step). run xs s) l.0 ∙ (runs left (steps_of right) s ∙ run_whole right (after left s));
      ends = ap (λ x. stepped (Some to) x mid) l.1;
      block = blocks-assoc (lowered 0 left) (lowered (behind 0 left) right) (stmt ⨾ []);
    }
assigns (minus inner) to front last h k =
    let l = last_once front (steps_of inner) last step.Negate h in
    let s = starting 0 in
    let mid = after inner s in
    let stmt = core.compute to Sub (operand.Lit (pos 0)) (operand 0 inner) in
    record {
      mid = mid;
      end = record { block = mid.block ⧺ (stmt ⨾ []); depth = 1; held = held_of 0 (minus inner) ∷ [] };
      before = ap (λ (xs : List Step). run xs s) l.0 ∙ run_whole inner s;
      ends = ap (λ x. stepped (Some to) x mid) l.1;
      block = refl;
    }
assigns (ask callee args) to front last h k =
    let l = last_once front (args_steps args) last (step.Ask callee (count args)) h in
    let s = starting 0 in
    let mid = after_args args s in
    let stmt = core.call to callee (operands 0 args) in
    record {
      mid = mid;
      end = record { block = mid.block ⧺ (stmt ⨾ []); depth = 1; held = held_of 0 (ask callee args) ∷ [] };
      before = ap (λ (xs : List Step). run xs s) (l.0 ∙ sym (append-nil (args_steps args))) ∙ args_run args [] s;
      ends = ap (λ x. stepped (Some to) x mid) l.1 ∙ asked_for (Some to) callee args s;
      block = ap (λ b. b ⧺ (stmt ⨾ [])) (args-block args s);
    }

-- what the two calls of an assignment ask for, and what comes of them

pub assigns_whole : (steps front : List Step) (last : Step) (to : Name) → AreSteps steps → steps ≡ front ++ last ∷ [] → simple last ≡ None → (e : Expr) × (steps ≡ steps_of e) × Assigns e to front last
assigns_whole steps front last to (e, is) parts k = (e, is, assigns e to front last (sym parts ∙ is) k)

pub front_some : (steps front : List Step) (last : Step) (to : Name) (s : State) → AreSteps steps → steps ≡ front ++ last ∷ [] → simple last ≡ None → s ≡ starting 0 → IsSome (run front s)
front_some steps front last to s are parts k at =
    let a = (assigns_whole steps front last to are parts k).2 in
    let ran : run front s ≡ Some a.mid = ap (run front) at ∙ a.before in
    subst IsSome (sym ran) refl

mid_is : (e : Expr) (to : Name) (front : List Step) (last : Step) (s mid : State) → (a : Assigns e to front last) → s ≡ starting 0 → Some mid ≡ run front s → mid ≡ a.mid
mid_is e to front last s mid a at ran =
    let whole : Some mid ≡ Some a.mid = ran ∙ (ap (run front) at ∙ a.before) in
    cc whole

pub last_some : (steps front : List Step) (last : Step) (to : Name) (s mid : State) → AreSteps steps → steps ≡ front ++ last ∷ [] → simple last ≡ None → s ≡ starting 0 → Some mid ≡ run front s → IsSome (stepped (Some to) last mid)
last_some steps front last to s mid are parts k at ran =
    let w = assigns_whole steps front last to are parts k in
    let done : stepped (Some to) last mid ≡ Some w.2.end = ap (stepped (Some to) last) (mid_is w.0 to front last s mid w.2 at ran) ∙ w.2.ends in
    subst IsSome (sym done) refl

pub assigned_made : (e : Expr) (steps front : List Step) (last : Step) (to : Name) (s mid end : State) → steps ≡ steps_of e → steps ≡ front ++ last ∷ [] → simple last ≡ None → s ≡ starting 0 → Some mid ≡ run front s
    → Some end ≡ stepped (Some to) last mid → end.block ≡ assigned to e
assigned_made e steps front last to s mid end is parts k at ran stepped_to =
    let a = assigns e to front last (sym parts ∙ is) k in
    let done : Some end ≡ Some a.end = stepped_to ∙ (ap (stepped (Some to) last) (mid_is e to front last s mid a at ran) ∙ a.ends) in
    let same : end ≡ a.end = cc done in
    ap (λ t. t.block) same ∙ a.block

pub no_last : (steps : List Step) → AreSteps steps → length steps ≡ 0 → ⊥
no_last [] (e, is) h = some_steps e (sym is)
no_last (x ∷ steps) (e, is) h = omega (arith, h)
