-- Where the answers of outside calls come from, and which were taken.
use Rattle.std.specs.Prelude.{◌≡◌, ◌≤◌, ℤ, Option, Some, None, List, [], ◌∷◌, ◌++◌, length, take, slice_get, ⊤}
use Rattle.vmv_tree.specs.declared.name.Name.{Name}
use Rattle.vmv_tree.specs.Run.{Answers}
use Rattle.vmv_run.specs.declared.answer.Answer.{Answer}
use Rattle.vmv_run.specs.declared.source.Source.{Source}
use Rattle.vmv_run.specs.declared.source.Source.TheVariants.{Given, Constant}
use Rattle.vmv_run.specs.Replay.{pairs}
use Rattle.vmv_run.specs.Constant.{AreFrom, word_of}

-- what a source is, whatever was taken
pub data Setting : Type 0 where
  given : List Answer → Setting
  constant : List Name → List ℤ → Setting

unfoldable pub setting_of : Source → Setting
setting_of (Given answers used) = given answers.now
setting_of (Constant names values taken) = constant names.now values.now

-- the answers that were taken
unfoldable pub taken_of : Source → Answers
taken_of (Given answers used) = pairs (take used answers.now)
taken_of (Constant names values taken) = pairs taken

-- no more were taken than there are; each has its name's value
unfoldable pub IsSound : Source → Type 0
IsSound (Given answers used) = used ≤ length answers.now
IsSound (Constant names values taken) = AreFrom (word_of names.now values.now) (pairs taken)

-- it has no answer for a call of this name; that may be for want of memory
unfoldable pub Stops : Source → Name → Type 0
Stops (Given answers used) name = (answer : Answer) → slice_get answers.now used ≡ Some answer → answer.name ≡ name → ⊥
Stops (Constant names values taken) name = ⊤

-- the same source, from which these answers were taken
pub record Went (old new : Source) (used : Answers) : Type 0 where
  pub setting : setting_of new ≡ setting_of old
  pub taken : taken_of new ≡ taken_of old ++ used
  pub sound : IsSound old → IsSound new

-- the answer to a call of this name
abbrev pub Answered : Source → Source → Name → Option ℤ → Type 0
Answered old new name (Some word) = Went old new ((name, word) ∷ [])
Answered old new name None = Went old new [] × Stops new name
