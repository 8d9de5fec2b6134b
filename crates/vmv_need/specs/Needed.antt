-- What is found of a program: its necessary conditions, or that it is vacuous.
use Rattle.std.specs.Prelude.{◌≡◌, List}
use Rattle.vmv_tree.specs.declared.name.Name.{Name}
use Rattle.vmv_tree.specs.Safe.{Environment, Covers, Safe}
use Rattle.vmv_cond.specs.declared.cond.Cond.{Cond}
use Rattle.vmv_snapshot.specs.Procs.{outsides}
use Rattle.vmv_snapshot.specs.Resolution.{Resolution, tree_of}
use Rattle.vmv_assumption.specs.Assumed.{Assumed, names_of, cond_of}
use Rattle.vmv_assumption.specs.Within.{IsWithin}
use Rattle.vmv_need.specs.declared.subject.Scope.{Scope}
use Rattle.vmv_need.specs.declared.cut.Cut.{Cut}
use Rattle.vmv_need.specs.declared.shown.ShownBy.{ShownBy}
use Rattle.vmv_need.specs.declared.needed.Needed.{Needed}
use Rattle.vmv_need.specs.declared.needed.Needed.TheVariants.{Conditions, Vacuous}
use Rattle.vmv_need.specs.Candidates.{IsScopeOf}
use Rattle.vmv_need.specs.Acts.{IsNecessary}
use Rattle.vmv_need.specs.Rounds.{HasCuts}
use Rattle.vmv_need.specs.Vacuous.{IsVacuous, IsShownBy}

-- the necessary conditions of a program that isn't vacuous, one for each outside name, with the exclusions that led there
pub record AreConditions (program : Resolution) (scope : Scope) (held : List (Name × Cond)) (cuts : List Cut) : Type 0 where
  pub names : names_of held ≡ outsides (tree_of program)
  pub necessary : IsNecessary program scope (cond_of held)
  pub cuts_are : HasCuts program scope (cond_of held) cuts
  pub not_vacuous : ¬ IsVacuous program scope (cond_of held)

-- the program is vacuous under its necessary conditions, and this shows it
pub record IsVacuousBy (program : Resolution) (scope : Scope) (shown : ShownBy) : Type 0 where
  pub assumed : Assumed
  pub necessary : IsNecessary program scope assumed
  pub vacuous : IsVacuous program scope assumed
  pub shown_by : IsShownBy program scope assumed shown

abbrev pub IsFound : Resolution → Scope → Needed → Type 0
IsFound program scope (Conditions held cuts) = AreConditions program scope held cuts
IsFound program scope (Vacuous shown) = IsVacuousBy program scope shown

-- what is found by what is looked at in the program
abbrev pub IsNeeded : Resolution → Needed → Type 0
IsNeeded program needed = (scope : Scope) × IsScopeOf program scope × IsFound program scope needed

-- each environment that is safe for the program meets the conditions; there is none where it is vacuous
abbrev pub AllowsSafe : Resolution → Needed → Type 0
AllowsSafe program (Conditions held cuts) = (env : Environment) → Covers env (tree_of program) → Safe env (tree_of program) → IsWithin env (cond_of held)
AllowsSafe program (Vacuous shown) = (env : Environment) → Covers env (tree_of program) → Safe env (tree_of program) → ⊥
