-- The unrolled steps of a run: one for each simple statement and return, helper call, `if`, `repeat` and turn that it comes to.
use Rattle.std.specs.Prelude.{ℕ, zero, suc, ◌+◌, ℤ, pos, int_lt, Bool, true, false, MatchBool, List, [], ◌∷◌, map, reverse}
use Rattle.std.proofs.Common.{inl, inr}
use Rattle.std.specs.Str.{bytes_eq}
use Rattle.vmv_tree.specs.declared.name.Name.{Name}
use Rattle.vmv_tree.specs.Tree.{Stmt, copy, compute, call, assert, choose, repeat, Block, [], ◌⨾◌, Body, Item, outside, helper, entry}
use Rattle.vmv_tree.specs.Run.{Valuation, Answers, End, next, fail, Outcome, Does, InARow, Turns, Calls, Runs, RunsAll, RunsBody, RunsItem, RunsAbove, Run, value, assign, holds, sites, block_sites, turns_of, start, name_of}

-- how many steps there are where this was done
abbrev pub Counts : Does → Type 0
Counts does = (v : Valuation) (a : Answers) (e : End) → does v a e → ℕ

abbrev pub in_a_row : (first second : Does) → Counts first → Counts second → Counts (InARow first second)
in_a_row first second f g v a e (inl h) = f v a e h.0
in_a_row first second f g v a e (inr (mid, used, more, h, k, p)) = f v used (next mid) h + g mid more e k

-- 1 and the body's for each turn
abbrev pub of_turns : (index : Name) (body : Does) → Counts body → (n i : ℕ) → Counts (Turns index body n i)
of_turns index body f zero i v a e h = 0
of_turns index body f (suc n) i v a e h =
    in_a_row (λ w. body (assign w index (pos i))) (Turns index body n (i + 1)) (λ w a e h. 1 + f (assign w index (pos i)) a e h) (of_turns index body f n (i + 1)) v a e h

abbrev pub of_part : (b : Bool) (P Q : Type 0) → (P → ℕ) → (Q → ℕ) → MatchBool b P Q → ℕ
of_part true P Q f g h = f h
of_part false P Q f g h = g h

module _ (calls : Calls) (proc : Name) (of : (callee : Name) (words : List ℤ) (a : Answers) (d : Outcome) → calls callee words a d → ℕ) where
  abbrev mutual
    pub run_steps : (k : ℕ) (s : Stmt) → Counts (Runs calls proc k s)
    run_steps k (copy to from) v a e h = 1
    run_steps k (compute to op left right) v a e h = 1
    run_steps k (call to callee args) v a e h = 1 + of callee (map (value v) args) a h.0 h.1
    run_steps k (assert test) v a e h = 1
    run_steps k (choose test first second) v a e h =
        1 + of_part (holds v test) (RunsAll calls proc k first v a e) (RunsAll calls proc (k + block_sites first) second v a e) (block_run_steps k first v a e) (block_run_steps (k + block_sites first) second v a e) h
    run_steps k (repeat index bound most body) v a e h =
        1 + of_part (int_lt most (value v bound)) _ (Turns index (RunsAll calls proc (k + 1) body) (turns_of (value v bound)) 0 v a e) (λ failed. 0) (of_turns index (RunsAll calls proc (k + 1) body) (block_run_steps (k + 1) body) (turns_of (value v bound)) 0 v a e) h

    pub block_run_steps : (k : ℕ) (b : Block) → Counts (RunsAll calls proc k b)
    block_run_steps k [] v a e h = 0
    block_run_steps k (s ⨾ rest) v a e h = in_a_row (Runs calls proc k s) (RunsAll calls proc (k + sites s) rest) (run_steps k s) (block_run_steps (k + sites s) rest) v a e h

-- the return is a step where it is come to
abbrev pub return_step : End → ℕ
return_step (next v) = 1
return_step (fail site) = 0

abbrev pub body_run_steps : (calls : Calls) (proc : Name) (of : (callee : Name) (words : List ℤ) (a : Answers) (d : Outcome) → calls callee words a d → ℕ)
    (params : List Name) (body : Body) (words : List ℤ) (a : Answers) (d : Outcome) → RunsBody calls proc params body words a d → ℕ
body_run_steps calls proc of params body words a d (end, h, e) = block_run_steps calls proc of 0 body.block (start params words) a end h + return_step end

-- an outside function has no steps of its own
abbrev pub item_run_steps : (calls : Calls) (of : (callee : Name) (words : List ℤ) (a : Answers) (d : Outcome) → calls callee words a d → ℕ)
    (item : Item) (words : List ℤ) (a : Answers) (d : Outcome) → RunsItem calls item words a d → ℕ
item_run_steps calls of (outside name arity) words a d h = 0
item_run_steps calls of (helper name params body) words a d h = body_run_steps calls name of params body words a d h
item_run_steps calls of (entry name params body) words a d h = body_run_steps calls name of (map (λ p. p.name) params) body words a d h

-- of a run of a name over the items above, the nearest first
abbrev pub steps_above : (above : List Item) (proc : Name) (words : List ℤ) (a : Answers) (d : Outcome) → RunsAbove above proc words a d → ℕ
steps_above [] proc words a d h = 0
steps_above (item ∷ above) proc words a d h =
    of_part (bytes_eq (name_of item) proc) (RunsItem (RunsAbove above) item words a d) (RunsAbove above proc words a d)
    (item_run_steps (RunsAbove above) (steps_above above) item words a d) (steps_above above proc words a d) h

-- the unrolled steps of a run of a program
abbrev pub steps_of_run : (program : List Item) (proc : Name) (words : List ℤ) (answers : Answers) (outcome : Outcome) → Run program proc words answers outcome → ℕ
steps_of_run program proc words answers outcome run = steps_above (reverse program) proc words answers outcome run
