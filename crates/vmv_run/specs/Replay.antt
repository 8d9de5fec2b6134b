-- What a replay of given answers finds, told by the runs of the program alone.
use Rattle.std.specs.Prelude.{◌≡◌, ℕ, ◌<◌, ℤ, Some, List, ◌∷◌, ◌++◌, length, map, take, slice_get}
use Rattle.vmv_tree.specs.declared.name.Name.{Name}
use Rattle.vmv_tree.specs.declared.tree.Param.{Param}
use Rattle.vmv_tree.specs.Tree.{Item}
use Rattle.vmv_tree.specs.Run.{Answers, Outcome as End, done, fail, Run, name_of}
use Rattle.vmv_snapshot.specs.Procs.{procs, params_of}
use Rattle.vmv_run.specs.declared.answer.Answer.{Answer}
use Rattle.vmv_run.specs.declared.outcome.Outcome.{Outcome}
use Rattle.vmv_run.specs.declared.outcome.Outcome.TheVariants.{Done, Fail, Short, Stranger, Extra}

-- answers, as runs have them
abbrev pub pairs : List Answer → Answers
pairs answers = map (λ a. (a.name, a.value)) answers

-- the procedure of this number has this name
abbrev pub IsProcName : List Item → ℕ → Name → Type 0
IsProcName program number name = slice_get (map name_of (procs program)) number ≡ Some name

-- there is one word for each parameter of the procedure of this number
abbrev pub AreParams : List Item → ℕ → List ℤ → Type 0
AreParams program number words = (params : List Param) → slice_get (map params_of (procs program)) number ≡ Some params → length params ≡ length words

-- some run begins with these answers, and then asks this name
abbrev pub AsksNext : List Item → Name → List ℤ → Answers → Name → Type 0
AsksNext program proc words used name =
    (word : ℤ) × (more : Answers) × (end : End) × Run program proc words (used ++ (name, word) ∷ more) end

-- what is found of these answers, where the procedure is run on these words
abbrev pub IsReplay : List Item → Name → List ℤ → Answers → Outcome → Type 0
-- the answers are those of a run, which ends so
IsReplay program proc words answers (Done word) = Run program proc words answers (done word)
IsReplay program proc words answers (Fail site) =
    (name : Name) × IsProcName program site.proc.0 name × Run program proc words answers (fail (record { proc = name; number = site.index }))
-- a run has all of them, and then asks
IsReplay program proc words answers (Short at) = (at ≡ length answers) × (name : Name) × AsksNext program proc words answers name
-- a run has those before this one, and then asks another name than this one's
IsReplay program proc words answers (Stranger at) =
    (name : Name) × (given : Name × ℤ) × (slice_get answers at ≡ Some given) × (given.0 ≡ name → ⊥) × AsksNext program proc words (take at answers) name
-- the first ones are all that a run has
IsReplay program proc words answers (Extra used) = (used < length answers) × (end : End) × Run program proc words (take used answers) end
