-- What a surface program does: a relation by cases on its tree. Sides, arguments and parts are evaluated from left to
-- right; `and` stops after a false part, and `or` after a true one.
use Rattle.std.specs.Prelude.{◌≡◌, ◌⊎◌, ℕ, ◌+◌, ℤ, pos, int_lt, Bool, true, false, not, MatchBool, Option, Some, None, List, [], ◌∷◌, ◌++◌, map, reverse}
use Rattle.std.specs.Str.{bytes_eq}
use Rattle.vmv_tree.specs.declared.name.Name.{Name}
use Rattle.vmv_tree.specs.declared.tree.Op.TheVariants.{Sub}
use Rattle.vmv_tree.specs.Words.{IsWord, result_of, compare}
use Rattle.vmv_tree.specs.Run.{Valuation, Answers, Site, End, next, End.fail as stopped, Outcome, done, Outcome.fail as ended, assign, Does, Ends, InARow, Turns, turns_of, Calls, start}
use Rattle.vmv_surface.specs.Surface.{Expr, literal, variable, operate, minus, ask, Args, no_args, arg, Test, compared, negated, both, either, Stmt, set, assert, choose, repeat, Block, no_stmts, row, Body, Item, outside, helper, entry}

-- what an evaluation comes to: a value, or a failure
pub data Got (A : Type 0) : Type 0 where
  gives : A → Got A
  fails : Site → Got A

-- what an evaluation may do: the answers that it uses, and what it comes to
abbrev pub May : Type 0 → Type 1
May R = Answers → R → Type 0

-- nothing is asked, and it comes to this
abbrev pub Only : {R : Type 0} → R → May R
Only this answers end = (answers ≡ []) × (end ≡ this)

-- The one, and with its value the other, unless the first fails. The answers are joined in order.
abbrev pub Then : {A R : Type 0} → (Site → R) → May (Got A) → (A → May R) → May R
Then failed first second answers end =
    ((site : Site) × first answers (fails site) × (end ≡ failed site))
    ⊎ ((a : _) × (used : Answers) × (more : Answers) × first used (gives a) × second a more end × (answers ≡ used ++ more))

-- the word, or a failure where there is none
abbrev pub word_or_failure : Site → Option ℤ → Got ℤ
word_or_failure site (Some word) = gives word
word_or_failure site None = fails site

abbrev pub got_of : Outcome → Got ℤ
got_of (done word) = gives word
got_of (ended site) = fails site

-- how many sites there are: operators, parts of asserts, and bounds

abbrev mutual
  pub expr_sites : Expr → ℕ
  expr_sites (literal word) = 0
  expr_sites (variable name) = 0
  expr_sites (operate op left right) = expr_sites left + expr_sites right + 1
  expr_sites (minus inner) = expr_sites inner + 1
  expr_sites (ask callee args) = args_sites args

  pub args_sites : Args → ℕ
  args_sites no_args = 0
  args_sites (arg first rest) = expr_sites first + args_sites rest

abbrev pub test_sites : Test → ℕ
test_sites (compared left rel right) = expr_sites left + expr_sites right
test_sites (negated part) = test_sites part
test_sites (both first second) = test_sites first + test_sites second
test_sites (either first second) = test_sites first + test_sites second

-- the parts of a conjunction are sites
abbrev pub assert_sites : Test → ℕ
assert_sites (both first second) = assert_sites first + assert_sites second
assert_sites (compared left rel right) = test_sites (compared left rel right) + 1
assert_sites (negated part) = test_sites (negated part) + 1
assert_sites (either first second) = test_sites (either first second) + 1

abbrev mutual
  pub stmt_sites : Stmt → ℕ
  stmt_sites (set to from) = expr_sites from
  stmt_sites (assert test) = assert_sites test
  stmt_sites (choose test first second) = test_sites test + all_sites first + all_sites second
  stmt_sites (repeat index bound cap body) = expr_sites bound + 1 + all_sites body

  pub all_sites : Block → ℕ
  all_sites no_stmts = 0
  all_sites (row first rest) = stmt_sites first + all_sites rest

-- In a procedure, where calls may do so. k sites of the procedure come before each expression, test or statement.
module _ (calls : Calls) (proc : Name) where
  abbrev pub site_after : ℕ → Site
  site_after k = record { proc = proc; number = k + 1 }

  -- an operator's site comes behind those of its sides
  abbrev mutual
    pub Evaluates : ℕ → Expr → Valuation → May (Got ℤ)
    Evaluates k (literal word) v = Only (gives word)
    Evaluates k (variable name) v = Only (gives (v name))
    Evaluates k (operate op left right) v =
        Then fails (Evaluates k left v) (λ x.
        Then fails (Evaluates (k + expr_sites left) right v) (λ y.
        Only (word_or_failure (site_after (k + expr_sites left + expr_sites right)) (result_of op x y))))
    -- 0 - inner
    Evaluates k (minus inner) v =
        Then fails (Evaluates k inner v) (λ y.
        Only (word_or_failure (site_after (k + expr_sites inner)) (result_of Sub (pos 0) y)))
    Evaluates k (ask callee args) v =
        Then fails (EvaluatesAll k args v) (λ words answers got.
        (outcome : Outcome) × calls callee words answers outcome × (got ≡ got_of outcome))

    pub EvaluatesAll : ℕ → Args → Valuation → May (Got (List ℤ))
    EvaluatesAll k no_args v = Only (gives [])
    EvaluatesAll k (arg first rest) v =
        Then fails (Evaluates k first v) (λ word.
        Then fails (EvaluatesAll (k + expr_sites first) rest v) (λ words. Only (gives (word ∷ words))))

  abbrev pub Decides : ℕ → Test → Valuation → May (Got Bool)
  Decides k (compared left rel right) v =
      Then fails (Evaluates k left v) (λ x.
      Then fails (Evaluates (k + expr_sites left) right v) (λ y. Only (gives (compare rel x y))))
  Decides k (negated part) v = Then fails (Decides k part v) (λ b. Only (gives (not b)))
  Decides k (both first second) v =
      Then fails (Decides k first v) (λ b answers got.
      MatchBool b (Decides (k + test_sites first) second v answers got) (Only (gives false) answers got))
  Decides k (either first second) v =
      Then fails (Decides k first v) (λ b answers got.
      MatchBool b (Only (gives true) answers got) (Decides (k + test_sites first) second v answers got))

  -- a part of an assert: its own site comes behind those of its operators
  abbrev pub Passes : ℕ → Test → Does
  Passes k test v =
      Then stopped (Decides k test v) (λ b answers end.
      MatchBool b (Only (next v) answers end) (Only (stopped (site_after (k + test_sites test))) answers end))

  -- the parts of a conjunction, one after the other
  abbrev pub Asserts : ℕ → Test → Does
  Asserts k (both first second) = InARow (Asserts k first) (Asserts (k + assert_sites first) second)
  Asserts k (compared left rel right) = Passes k (compared left rel right)
  Asserts k (negated part) = Passes k (negated part)
  Asserts k (either first second) = Passes k (either first second)

  abbrev mutual
    pub SRuns : ℕ → Stmt → Does
    SRuns k (set to from) v = Then stopped (Evaluates k from v) (λ word. Only (next (assign v to word)))
    SRuns k (assert test) v = Asserts k test v
    SRuns k (choose test first second) v =
        Then stopped (Decides k test v) (λ b answers end.
        MatchBool b
        (SRunsAll (k + test_sites test) first v answers end)
        (SRunsAll (k + test_sites test + all_sites first) second v answers end))
    -- a bound's own site comes behind those of its operators, and before those of the body
    SRuns k (repeat index bound cap body) v =
        Then stopped (Evaluates k bound v) (λ n answers end.
        MatchBool (int_lt cap n)
        (Only (stopped (site_after (k + expr_sites bound))) answers end)
        (Turns index (SRunsAll (k + expr_sites bound + 1) body) (turns_of n) 0 v answers end))

    pub SRunsAll : ℕ → Block → Does
    SRunsAll k no_stmts v answers end = Ends answers end (next v)
    SRunsAll k (row first rest) v answers end =
        InARow (SRuns k first) (SRunsAll (k + stmt_sites first) rest) v answers end

  -- from the end of the statements the returned expression, before which so many sites come
  abbrev pub Returns : ℕ → Expr → End → May (Got ℤ)
  Returns k output (next v) = Evaluates k output v
  Returns k output (stopped site) = Only (fails site)

abbrev pub SRunsBody : Calls → Name → List Name → Body → List ℤ → Answers → Outcome → Type 0
SRunsBody calls proc params body words answers outcome =
    (end : End) × (used : Answers) × (more : Answers) × SRunsAll calls proc 0 body.block (start params words) used end
    × Returns calls proc (all_sites body.block) body.output end more (got_of outcome) × (answers ≡ used ++ more)

abbrev pub name_of : Item → Name
name_of (outside name arity) = name
name_of (helper name params body) = name
name_of (entry name params body) = name

abbrev pub SRunsItem : Calls → Item → List ℤ → Answers → Outcome → Type 0
-- an outside name answers any word
SRunsItem calls (outside name arity) words answers outcome =
    (word : ℤ) × IsWord word × (answers ≡ (name, word) ∷ []) × (outcome ≡ done word)
SRunsItem calls (helper name params body) words answers outcome = SRunsBody calls name params body words answers outcome
SRunsItem calls (entry name params body) words answers outcome =
    SRunsBody calls name (map (λ p. p.name) params) body words answers outcome

-- a name means the item above that declares it, from the nearest on, and calls in that item mean those above it
abbrev pub SRunsAbove : List Item → Calls
SRunsAbove [] proc words answers outcome = ⊥
SRunsAbove (item ∷ above) proc words answers outcome =
    MatchBool (bytes_eq (name_of item) proc)
    (SRunsItem (SRunsAbove above) item words answers outcome)
    (SRunsAbove above proc words answers outcome)

-- a run of a procedure of a surface program
abbrev pub SRun : List Item → Name → List ℤ → Answers → Outcome → Type 0
SRun program proc words answers outcome = SRunsAbove (reverse program) proc words answers outcome
