-- Sufficient conditions: the first that tightening comes to under which every site is provable.
use Rattle.std.specs.Prelude.{ℕ, List, [], Option, Some, None}
use Rattle.std.specs.List.{Contains}
use Rattle.vmv_tree.specs.declared.name.Name.{Name}
use Rattle.vmv_tree.specs.declared.ends.NameEnds.{NameEnds}
use Rattle.vmv_tree.specs.Safe.{Environment, Covers, Safe}
use Rattle.vmv_cond.specs.declared.cond.Cond.{Cond}
use Rattle.vmv_cond.specs.Cond.{IsEmpty}
use Rattle.vmv_snapshot.specs.Procs.{outsides}
use Rattle.vmv_snapshot.specs.Resolution.{Resolution, tree_of}
use Rattle.vmv_assumption.specs.Assumed.{Assumed, cond_of}
use Rattle.vmv_assumption.specs.Within.{IsWithin}
use Rattle.vmv_table_sound.specs.Told.{IsProved}
use Rattle.vmv_demands.specs.Ends.{AreEnds}
use Rattle.vmv_enough.specs.Open.{NoneOpen}
use Rattle.vmv_enough.specs.Levels.{all_levels}
use Rattle.vmv_enough.specs.Tighten.{Stage, Leads}

-- tightening starts here: all levels are still to come
abbrev pub start : Assumed → Stage
start needed = record { assumed = needed; levels = all_levels }

-- tightening leads to these conditions, and they prove every site
pub record IsEnough (program : Resolution) (needed enough : Assumed) : Type 0 where
  pub ends : List NameEnds
  pub ends_are : AreEnds program ends
  pub times : ℕ
  pub levels : List ℕ
  pub leads : Leads program ends times (start needed) (record { assumed = enough; levels = levels })
  pub proved : IsProved program ends enough

-- tightening ends where not every site is proved, no demand is open, and no level is left
pub record HasNoEnough (program : Resolution) (needed : Assumed) : Type 0 where
  pub ends : List NameEnds
  pub ends_are : AreEnds program ends
  pub times : ℕ
  pub last : Assumed
  pub leads : Leads program ends times (start needed) (record { assumed = last; levels = [] })
  pub unproved : ¬ IsProved program ends last
  pub none_open : NoneOpen program ends last

-- the sufficient conditions, or that there are none
abbrev pub IsSufficient : Resolution → Assumed → Option (List (Name × Cond)) → Type 0
IsSufficient program needed (Some held) = IsEnough program needed (cond_of held)
IsSufficient program needed None = HasNoEnough program needed

-- each outside name of the program has an answer
abbrev pub NoneEmpty : Resolution → Assumed → Type 0
NoneEmpty program assumed = (name : Name) → Contains (outsides (tree_of program)) name → ¬ IsEmpty (assumed name)

-- every environment within these conditions is safe for the program
abbrev pub AreSafe : Resolution → Assumed → Type 0
AreSafe program assumed = (env : Environment) → Covers env (tree_of program) → IsWithin env assumed → Safe env (tree_of program)
