-- A run of an item uses no more answers and steps than the limits of the language count for it.
use Rattle.std.proofs.Common.{◌≡◌, ℕ, ◌≤◌, ℤ, Bool, true, false, if◌then◌else◌, MatchBool, List, [], ◌∷◌, length, ap, arith}
use Rattle.std.specs.Bool.{⊤}
use Rattle.std.specs.Str.{bytes_eq}
use Rattle.vmv_tree.specs.declared.name.Name.{Name}
use Rattle.vmv_tree.specs.Tree.{Body, Item, outside, helper, entry}
use Rattle.vmv_tree.specs.Run.{Answers, End, next, fail, Outcome, RunsBody, RunsItem, RunsAbove, start}
use Rattle.vmv_tree.specs.Limits.{brought, block_asks, body_steps, unrolled_calls, unrolled_steps}
use Rattle.vmv_run.proofs.Callees.{BlockCallees, Declares, IsResolved}
use Rattle.vmv_run.specs.Steps.{return_step, body_run_steps, item_run_steps, steps_above, of_part}
use Rattle.vmv_run.proofs.RunBound.{RunsAll-within}
use Rattle.vmv_run.proofs.RunSteps.{block_at_most}

abbrev asked : List Item → Name → ℕ
asked above callee = brought 0 1 (λ of b. block_asks of b.block) above callee

abbrev stepped : List Item → Name → ℕ
stepped above callee = brought 0 0 body_steps above callee

-- the nearest item, or one further above
nearest : (b : Bool) (one other here further : Type 0) (n m k : ℕ) → (here → one → n ≤ m) → (further → other → n ≤ k) → MatchBool b here further → MatchBool b one other →
    n ≤ (if b then m else k)
nearest true one other here further n m k f g d h = f d h
nearest false one other here further n m k f g d h = g d h

skipped : (b : Bool) (one other further : Type 0) (n k : ℕ) → (further → other → n ≤ k) → MatchBool b ⊥ further → MatchBool b one other → n ≤ k
skipped true one other further n k g d h = absurd d
skipped false one other further n k g d h = g d h

one_answer : (name : Name) (a : Answers) (word : ℤ) → a ≡ (name, word) ∷ [] → length a ≤ 1
one_answer name a word e = omega (arith, ap length e)

pub few_answers : (above : List Item) → IsResolved above → (callee : Name) (words : List ℤ) (a : Answers) (d : Outcome) → Declares above callee →
    RunsAbove above callee words a d → length a ≤ asked above callee
few_answers [] resolved callee words a d declared run = absurd run
few_answers (outside f arity ∷ above) resolved callee words a d declared run =
    nearest (bytes_eq f callee) _ _ ⊤ (Declares above callee) (length a) 1 (asked above callee)
    (λ here h. one_answer f a h.0 h.2) (λ further h. few_answers above resolved.1 callee words a d further h) declared run
few_answers (helper f params body ∷ above) resolved callee words a d declared run =
    nearest (bytes_eq f callee) _ _ ⊤ (Declares above callee) (length a) (block_asks (asked above) body.block) (asked above callee)
    (λ here h. RunsAll-within (RunsAbove above) f (asked above) (Declares above) (few_answers above resolved.1) 0 body.block resolved.0 _ a h.0 h.1)
    (λ further h. few_answers above resolved.1 callee words a d further h) declared run
few_answers (entry f params body ∷ above) resolved callee words a d declared run =
    skipped (bytes_eq f callee) _ _ (Declares above callee) (length a) (asked above callee)
    (λ further h. few_answers above resolved.1 callee words a d further h) declared run

-- an entry's run uses at most so many answers
pub entry_answers : (above : List Item) → IsResolved above → (name : Name) (params : List Name) (body : Body) (words : List ℤ) (a : Answers) (d : Outcome) →
    BlockCallees (Declares above) body.block → RunsBody (RunsAbove above) name params body words a d → length a ≤ unrolled_calls above body
entry_answers above resolved name params body words a d callees run =
    RunsAll-within (RunsAbove above) name (asked above) (Declares above) (few_answers above resolved) 0 body.block callees _ a run.0 run.1

one_return : (end : End) → return_step end ≤ 1
one_return (next v) = omega arith
one_return (fail site) = omega arith

body_steps_few : (above : List Item) (most_of : Name → ℕ) →
    ((callee : Name) (words : List ℤ) (a : Answers) (d : Outcome) → Declares above callee → (h : RunsAbove above callee words a d) → steps_above above callee words a d h ≤ most_of callee) →
    (name : Name) (params : List Name) (body : Body) (words : List ℤ) (a : Answers) (d : Outcome) → BlockCallees (Declares above) body.block →
    (h : RunsBody (RunsAbove above) name params body words a d) → body_run_steps (RunsAbove above) name (steps_above above) params body words a d h ≤ body_steps most_of body
body_steps_few above most_of few name params body words a d callees (end, h, e) =
    omega (arith, one_return end, block_at_most (RunsAbove above) name (steps_above above) most_of (Declares above) few 0 body.block callees (start params words) a end h)

-- the nearest item, or one further above, for a count of the run
nearest_count : (b : Bool) (one other here further : Type 0) (f : one → ℕ) (g : other → ℕ) (m k : ℕ) → (here → (h : one) → f h ≤ m) → (further → (h : other) → g h ≤ k) →
    MatchBool b here further → (h : MatchBool b one other) → of_part b one other f g h ≤ (if b then m else k)
nearest_count true one other here further f g m k p q d h = p d h
nearest_count false one other here further f g m k p q d h = q d h

skipped_count : (b : Bool) (one other further : Type 0) (f : one → ℕ) (g : other → ℕ) (k : ℕ) → (further → (h : other) → g h ≤ k) →
    MatchBool b ⊥ further → (h : MatchBool b one other) → of_part b one other f g h ≤ k
skipped_count true one other further f g k q d h = absurd d
skipped_count false one other further f g k q d h = q d h

pub few_steps : (above : List Item) → IsResolved above → (callee : Name) (words : List ℤ) (a : Answers) (d : Outcome) → Declares above callee →
    (h : RunsAbove above callee words a d) → steps_above above callee words a d h ≤ stepped above callee
few_steps [] resolved callee words a d declared run = absurd run
few_steps (outside f arity ∷ above) resolved callee words a d declared run =
    nearest_count (bytes_eq f callee) (RunsItem (RunsAbove above) (outside f arity) words a d) (RunsAbove above callee words a d) ⊤ (Declares above callee)
    (item_run_steps (RunsAbove above) (steps_above above) (outside f arity) words a d) (steps_above above callee words a d) 0 (stepped above callee)
    (λ here h. omega arith) (λ further h. few_steps above resolved.1 callee words a d further h) declared run
few_steps (helper f params body ∷ above) resolved callee words a d declared run =
    nearest_count (bytes_eq f callee) (RunsItem (RunsAbove above) (helper f params body) words a d) (RunsAbove above callee words a d) ⊤ (Declares above callee)
    (item_run_steps (RunsAbove above) (steps_above above) (helper f params body) words a d) (steps_above above callee words a d) (body_steps (stepped above) body) (stepped above callee)
    (λ here h. body_steps_few above (stepped above) (few_steps above resolved.1) f params body words a d resolved.0 h)
    (λ further h. few_steps above resolved.1 callee words a d further h) declared run
few_steps (entry f params body ∷ above) resolved callee words a d declared run =
    skipped_count (bytes_eq f callee) (RunsItem (RunsAbove above) (entry f params body) words a d) (RunsAbove above callee words a d) (Declares above callee)
    (item_run_steps (RunsAbove above) (steps_above above) (entry f params body) words a d) (steps_above above callee words a d) (stepped above callee)
    (λ further h. few_steps above resolved.1 callee words a d further h) declared run

-- an entry's run has at most so many unrolled steps
pub entry_steps : (above : List Item) → IsResolved above → (name : Name) (params : List Name) (body : Body) (words : List ℤ) (a : Answers) (d : Outcome) →
    BlockCallees (Declares above) body.block → (h : RunsBody (RunsAbove above) name params body words a d) →
    body_run_steps (RunsAbove above) name (steps_above above) params body words a d h ≤ unrolled_steps above body
entry_steps above resolved name params body words a d callees h = body_steps_few above (stepped above) (few_steps above resolved) name params body words a d callees h
