-- What the chain of a project keeps.
use Rattle.std.specs.Prelude.{ℕ, List}
use Rattle.std.specs.List.{AllByRecursion}
use Rattle.vmv_keeper.specs.declared.project.Project.{Project}
use Rattle.vmv_keeper.specs.Tables.{Tables}
use Rattle.vmv_desk_rules.specs.Causes.{root_text, chain}

-- each version of a project's chain, its base among them, keeps what the root does
abbrev pub KeepsChain : (List ℕ → List ℕ → Type 0) → Project → Type 0
KeepsChain Keeps p = AllByRecursion (λ version. Keeps (root_text p) version.text) (chain p)

abbrev pub KeepsChains : (List ℕ → List ℕ → Type 0) → Tables → Type 0
KeepsChains Keeps tables = AllByRecursion (KeepsChain Keeps) tables.projects
