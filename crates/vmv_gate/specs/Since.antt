-- What is necessary since the root of a project's chain.
use Rattle.std.specs.Prelude.{ℕ, ◌<◌, List}
use Rattle.std.specs.List.{AllByRecursion}
use Rattle.vmv_tree.specs.Safe.{Environment, Covers, Safe}
use Rattle.vmv_snapshot.specs.Resolution.{Resolution, tree_of}
use Rattle.vmv_assumption.specs.Assumed.{Assumed}
use Rattle.vmv_assumption.specs.Within.{IsBelow, IsWithin}
use Rattle.vmv_need.specs.declared.subject.Scope.{Scope}
use Rattle.vmv_keeper.specs.declared.project.Project.{Project}
use Rattle.vmv_keeper.specs.Tables.{Tables, root_number}
use Rattle.vmv_desk_rules.specs.Causes.{root_text, chain}
use Rattle.vmv_gate.specs.Judged.{IsReadAs, HasNecessary}

-- what is necessary for the first text's program is below what is necessary for the second's
pub record IsNeededLess (first second : List ℕ) : Type 0 where
  pub base : Resolution
  pub revision : Resolution
  pub base_is : IsReadAs first base
  pub revision_is : IsReadAs second revision
  pub below : (scope other : Scope) (needed later : Assumed) → HasNecessary base scope needed → HasNecessary revision other later → IsBelow needed later

-- the second text's program is safe in every environment within what is necessary for the first's
pub record IsSafeWithin (first second : List ℕ) : Type 0 where
  pub base : Resolution
  pub revision : Resolution
  pub base_is : IsReadAs first base
  pub revision_is : IsReadAs second revision
  pub safe : (scope : Scope) (needed : Assumed) (env : Environment) → HasNecessary base scope needed → Covers env (tree_of revision) → IsWithin env needed → Safe env (tree_of revision)

-- what is necessary for the root is below what is necessary for each version of the chain, and each but the root is safe
-- in every environment within it
abbrev pub HoldsSinceRoot : Project → Type 0
HoldsSinceRoot p =
    AllByRecursion (λ version. IsNeededLess (root_text p) version.text × (root_number p < version.row.number → IsSafeWithin (root_text p) version.text)) (chain p)

abbrev pub HoldSinceRoots : Tables → Type 0
HoldSinceRoots tables = AllByRecursion HoldsSinceRoot tables.projects
