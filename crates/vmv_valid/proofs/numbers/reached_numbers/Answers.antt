use Rattle.std.proofs.Common.{◌≡◌, List, ℤ, reverse, sym, subst}
use Rattle.std.specs.Global.{Vec}
use Rattle.std.proofs.lemmas.Result.{IfOk-weaker}
use Rattle.vmv_tree.specs.Limits.{entry_numbers}
use Rattle.vmv_tree.specs.View.{body_of, items_of}
use Rattle.vmv_valid.specs.Numbers.{reached_by}
use Rattle.vmv_valid.proofs.Reached.{entry_reached}
use Rattle.vmv_valid.specs.Same.{HaveSame}
use Rattle.vmv_valid.proofs.Held.{same_elements}
use Rattle.vmv_valid.proofs.numbers.reached_numbers.Goals as goal

pub returns : goal.returns
returns c =
    let above = reverse (items_of c.args.above.now) in
    let params = c.args.params.now in
    let body = body_of c.args.body.now in
    IfOk-weaker {X = Vec ℤ} c.gathered_numbers.result
    (λ numbers. numbers.items ≡ reached_by above params body)
    (λ numbers. HaveSame numbers.items (entry_numbers above params body))
    (λ numbers is.
    subst (λ (l : List ℤ). HaveSame l (entry_numbers above params body)) (sym is)
    (same_elements (reached_by above params body) (entry_numbers above params body) (entry_reached above params body)))
    c.gathered_numbers.ensures
