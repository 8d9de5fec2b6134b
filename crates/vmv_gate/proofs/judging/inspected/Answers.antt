-- What is found of the program is said of its text.
use Rattle.std.proofs.Common.{IfOk, subst}
use Rattle.vmv_gate.specs.Judged.{IsReadAs}
use Rattle.vmv_gate.proofs.Found.{found_fine, found_vacuous}
use Rattle.vmv_gate.proofs.judging.inspected.Goals as goal

pub returns-in-Conditions : goal.returns-in-Conditions
returns-in-Conditions g c =
    found_fine c.args.text.now c.in-Ok.program c.in_ok-necessary.field-0 c.in-Conditions.assumption c.in-Conditions.cuts
    (subst (λ r. IfOk r (IsReadAs c.args.text.now)) c.in-Ok.is c.in_ok-program.ensures.0) c.in_ok-necessary.ensures.needed c.in-Conditions.is

pub returns : goal.returns
returns g c =
    found_vacuous c.args.text.now c.in-Ok.program c.in_ok-necessary.field-0 c.in-Vacuous.shown_by
    (subst (λ r. IfOk r (IsReadAs c.args.text.now)) c.in-Ok.is c.in_ok-program.ensures.0) c.in_ok-necessary.ensures.needed c.in-Vacuous.is
