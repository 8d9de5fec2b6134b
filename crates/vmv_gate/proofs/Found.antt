-- What is found of a program is what is said of its text.
use Rattle.std.proofs.Common.{◌≡◌, ℕ, List, subst}
use Rattle.vmv_tree.specs.declared.name.Name.{Name}
use Rattle.vmv_cond.specs.declared.cond.Cond.{Cond}
use Rattle.vmv_snapshot.specs.Resolution.{Resolution}
use Rattle.vmv_assumption.specs.Assumed.{cond_of}
use Rattle.vmv_need.specs.declared.cut.Cut.{Cut}
use Rattle.vmv_need.specs.declared.shown.ShownBy.{ShownBy}
use Rattle.vmv_need.specs.declared.needed.Needed.{Needed}
use Rattle.vmv_need.specs.declared.needed.Needed.TheVariants.{Conditions, Vacuous as IsVacuousNeed}
use Rattle.vmv_need.specs.Needed.{IsNeeded}
use Rattle.vmv_keeper.specs.declared.judge.Inspected.TheVariants.{Fine, Vacuous}
use Rattle.vmv_gate.specs.Judged.{IsReadAs, Inspects}

pub found_fine : (text : List ℕ) (p : Resolution) (needed : Needed) (held : List (Name × Cond)) (cuts : List Cut) → IsReadAs text p → IsNeeded p needed → needed ≡ Conditions held cuts → Inspects text Fine
found_fine text p needed held cuts read found is =
    let h : IsNeeded p (Conditions held cuts) = subst (IsNeeded p) is found in
    (p, read, h.0, cond_of held, record { scope_is = h.1; necessary = h.2.necessary }, h.2.not_vacuous)

pub found_vacuous : (text : List ℕ) (p : Resolution) (needed : Needed) (shown : ShownBy) → IsReadAs text p → IsNeeded p needed → needed ≡ IsVacuousNeed shown → Inspects text Vacuous
found_vacuous text p needed shown read found is =
    let h : IsNeeded p (IsVacuousNeed shown) = subst (IsNeeded p) is found in
    (p, read, h.0, h.2.assumed, record { scope_is = h.1; necessary = h.2.necessary }, h.2.vacuous)
