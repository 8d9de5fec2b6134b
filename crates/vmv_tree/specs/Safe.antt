-- Environments, and what it means to be safe and to be relatively correct.
use Rattle.std.specs.Prelude.{◌≢◌, ℤ, ◌≤ℤ◌, List, [], ◌∷◌, if◌then◌else◌, ⊤}
use Rattle.std.specs.List.{Contains, All}
use Rattle.std.specs.Str.{bytes_eq}
use Rattle.vmv_tree.specs.declared.name.Name.{Name}
use Rattle.vmv_tree.specs.declared.tree.Param.{Param}
use Rattle.vmv_tree.specs.Words.{IsWord}
use Rattle.vmv_tree.specs.Tree.{Item, outside, entry, Body}
use Rattle.vmv_tree.specs.Run.{Answers, Site, Outcome.fail, Run}

-- a finite map from names to the words that they may answer
abbrev pub Environment : Type 0
Environment = List (Name × List ℤ)

abbrev pub words_of : Environment → Name → List ℤ
words_of [] name = []
words_of (e ∷ env) name = if bytes_eq e.0 name then e.1 else words_of env name

-- each outside name of the program has words, and at least one
abbrev pub Covers : Environment → List Item → Type 0
Covers env program = (name : Name) (arity : ℤ) → Contains program (outside name arity) → (words_of env name ≢ []) × All IsWord (words_of env name)

-- each answer is one that the environment has
abbrev pub AreIn : Answers → Environment → Type 0
AreIn answers env = All (λ answer. Contains (words_of env answer.0) answer.1) answers

-- one word for each parameter, in its range
abbrev pub FitParams : List Param → List ℤ → Type 0
FitParams [] [] = ⊤
FitParams (p ∷ params) (word ∷ words) = IsWord word × (p.lo ≤ℤ word) × (word ≤ℤ p.hi) × FitParams params words
FitParams [] (word ∷ words) = ⊥
FitParams (p ∷ params) [] = ⊥

-- no run of an entry fails
abbrev pub Safe : Environment → List Item → Type 0
Safe env program = (name : Name) (params : List Param) (body : Body) (words : List ℤ) (answers : Answers) (site : Site)
    → Contains program (entry name params body) → FitParams params words → AreIn answers env → Run program name words answers (fail site) → ⊥

-- every environment that is safe for the base is safe for the revision
abbrev pub RelCorrect : List Item → List Item → Type 0
RelCorrect base revision = (env : Environment) → Covers env base → Covers env revision → Safe env base → Safe env revision
