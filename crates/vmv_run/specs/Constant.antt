-- Runs in which each outside name always gives the same answer.
use Rattle.std.specs.Prelude.{◌≡◌, ◌≤◌, ℤ, pos, List, [], ◌∷◌, length, reverse, if◌then◌else◌, ⊤}
use Rattle.std.specs.Str.{bytes_eq}
use Rattle.vmv_tree.specs.declared.name.Name.{Name}
use Rattle.vmv_tree.specs.Tree.{Item}
use Rattle.vmv_tree.specs.Run.{Answers, Outcome, RunsAbove}
use Rattle.vmv_snapshot.specs.Procs.{outsides}
use Rattle.vmv_run.specs.declared.constant_run.Constant.{Constant}
use Rattle.vmv_run.specs.declared.outcome.Outcome.{Outcome as Found}
use Rattle.vmv_run.specs.declared.outcome.Outcome.TheVariants.{Done, Fail, Short, Stranger, Extra}
use Rattle.vmv_run.specs.Replay.{pairs, IsReplay}
use Rattle.vmv_run.specs.Steps.{steps_above}

-- each answer is the one that its name always gives
abbrev pub AreFrom : (Name → ℤ) → Answers → Type 0
AreFrom c [] = ⊤
AreFrom c (p ∷ answers) = (p.1 ≡ c p.0) × AreFrom c answers

-- The one run of a procedure in which each outside name always gives the same answer, over the items above, the nearest first.
pub record OneRunAbove (above : List Item) (proc : Name) (words : List ℤ) (c : Name → ℤ) : Type 0 where
  pub answers : Answers
  pub outcome : Outcome
  pub run : RunsAbove above proc words answers outcome
  pub constant : AreFrom c answers
  pub few_answers : length answers ≤ 10000
  pub few_steps : steps_above above proc words answers outcome run ≤ 100000
  pub only : (other : Answers) (end : Outcome) → RunsAbove above proc words other end → AreFrom c other → (answers ≡ other) × (outcome ≡ end)

-- the same of a procedure of a program
abbrev pub OneRun : (program : List Item) (proc : Name) (words : List ℤ) (c : Name → ℤ) → Type 0
OneRun program proc words c = OneRunAbove (reverse program) proc words c

-- the value of a name, where the values stand in the order of the names; another name has 0
abbrev pub word_of : List Name → List ℤ → Name → ℤ
word_of [] words x = pos 0
word_of (name ∷ names) [] x = pos 0
word_of (name ∷ names) (word ∷ words) x = if bytes_eq name x then word else word_of names words x

-- a run has ended so
abbrev pub IsOver : Found → Type 0
IsOver (Done word) = ⊤
IsOver (Fail site) = ⊤
IsOver (Short at) = ⊥
IsOver (Stranger at) = ⊥
IsOver (Extra used) = ⊥

-- a run of the procedure on these words, in which each outside name of the program always answers its value
pub record IsConstantRun (program : List Item) (proc : Name) (words values : List ℤ) (it : Constant) : Type 0 where
  pub run : IsReplay program proc words (pairs it.answers) it.outcome
  pub over : IsOver it.outcome
  pub constant : AreFrom (word_of (outsides program) values) (pairs it.answers)
