use Rattle.std.proofs.Common.{pos, get_or, sym, ap, ◌∙◌, rules, w64}
use Rattle.std.specs.Prelude.{FitsSigned}
use Rattle.std.proofs.lemmas.Int.{to_z-of_z}
use Rattle.vmv_valid.specs.Numbers.{changes}
use Rattle.vmv_valid.proofs.Distinct.{counted}
use Rattle.vmv_valid.proofs.numbers.distinct.Goals as goal

pub returns : goal.returns
returns c =
    let numbers = c.sort_unstable.new.self in
    let fits : FitsSigned w64 (get_or numbers 0 (pos 0)) = search rules in
    counted c.args.numbers.now numbers c.changes.result c.sort_unstable.ensures.permutation c.sort_unstable.ensures.sorted
    (sym c.is_empty.ensures ∙ c.if-is_empty.false)
    (c.changes.ensures.value ∙ ap (λ x. changes x numbers) (to_z-of_z w64 _ fits))
