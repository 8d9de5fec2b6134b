use Rattle.std.proofs.Common.{inr, Option, sym, subst}
use Rattle.vmv_witness.specs.declared.witness.Witness.{Witness}
use Rattle.vmv_enough.specs.Tried.{AddsFirst}
use Rattle.vmv_enough.proofs.Searched.{not_found}
use Rattle.vmv_enough.proofs.search.add_first.Goals as goal

pub returns-in_ok-push : goal.returns-in_ok-push
returns-in_ok-push c =
    subst (λ (o : Option Witness). AddsFirst c.args.found.now o c.push.new.self) (sym c.in-Some.is)
    (inr ((λ there. not_found c.args.found.now _ c.in-Some.w.site c.is_found.result c.as_slice.ensures c.is_found.ensures c.if-not-is_found.true there), c.in_ok-push.ensures.ok))
