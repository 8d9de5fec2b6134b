use Rattle.std.proofs.Common.{take}
use Rattle.std.specs.List.{Contains}
use Rattle.vmv_tree.specs.declared.name.Name.{Name}
use Rattle.vmv_assumption.specs.Assumed.{cond_of}
use Rattle.vmv_need.specs.Vacuous.{IsEmptyName}
use Rattle.vmv_need.proofs.vacuous.first_empty.Given as goal

abbrev pub invariant-loop-name : goal.invariant-loop-name
invariant-loop-name l = (name : Name) → Contains (take l.name-index l.names) name → ¬ IsEmptyName (cond_of l.assumed) name
