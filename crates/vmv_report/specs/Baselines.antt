-- What a review finds of a base, whatever the revision is.
use Rattle.std.specs.Prelude.{◌≡◌, Option, Some, None, List}
use Rattle.vmv_tree.specs.declared.name.Name.{Name}
use Rattle.vmv_cond.specs.declared.cond.Cond.{Cond}
use Rattle.vmv_snapshot.specs.Resolution.{Resolution, IsResolution, tree_of}
use Rattle.vmv_snapshot.specs.Procs.{outsides}
use Rattle.vmv_assumption.specs.Assumed.{names_of, cond_of}
use Rattle.vmv_enough.specs.Enough.{IsSufficient, NoneEmpty}
use Rattle.vmv_need.specs.declared.subject.Scope.{Scope}
use Rattle.vmv_need.specs.declared.needed.Needed.{Needed}
use Rattle.vmv_need.specs.declared.needed.Needed.TheVariants.{Conditions, Vacuous}
use Rattle.vmv_need.specs.Candidates.{IsScopeOf}
use Rattle.vmv_need.specs.Needed.{IsFound}

-- a base with what is necessary for it to be safe, and with conditions that suffice, where there are some
pub record Based : Type 0 where
  pub base : Resolution
  pub needed : Needed
  pub enough : Option (List (Name × Cond))

-- these conditions suffice for a base whose names have to meet what is held, or none do; each of them has an answer
pub record Suffices (base : Resolution) (held : List (Name × Cond)) (enough : Option (List (Name × Cond))) : Type 0 where
  pub sufficient : IsSufficient base (cond_of held) enough
  pub names : (conds : List (Name × Cond)) → enough ≡ Some conds → names_of conds ≡ outsides (tree_of base)
  pub nonempty : (conds : List (Name × Cond)) → enough ≡ Some conds → NoneEmpty base (cond_of conds)

-- nothing suffices for a vacuous base
abbrev pub IsEnoughFor : Resolution → Needed → Option (List (Name × Cond)) → Type 0
IsEnoughFor base (Conditions held cuts) enough = Suffices base held enough
IsEnoughFor base (Vacuous shown) enough = enough ≡ None

-- what is necessary was found by what is looked at in the base, and then what suffices
pub record IsFoundOf (base : Resolution) (scope : Scope) (needed : Needed) (enough : Option (List (Name × Cond))) : Type 0 where
  pub scope_is : IsScopeOf base scope
  pub needed_is : IsFound base scope needed
  pub enough_is : IsEnoughFor base needed enough

-- it was found of the base
abbrev pub IsBaseline : Based → Type 0
IsBaseline it = IsResolution it.base × ((scope : Scope) × IsFoundOf it.base scope it.needed it.enough)
