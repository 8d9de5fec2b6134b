use Rattle.std.proofs.Common.{min, reverse, ap, ◌∙◌}
use Rattle.vmv_tree.specs.Limits.{distinct, entry_numbers}
use Rattle.vmv_tree.specs.View.{body_of, items_of}
use Rattle.vmv_valid.specs.Numbers.{reached_by}
use Rattle.vmv_valid.proofs.Distinct.{distinct_same}
use Rattle.vmv_valid.proofs.Reached.{entry_reached}
use Rattle.vmv_valid.proofs.numbers.distinct_numbers.Goals as goal

pub returns : goal.returns
returns c =
    let above = reverse (items_of c.args.above.now) in
    let body = body_of c.args.body.now in
    let same = distinct_same (reached_by above c.args.params.now body) (entry_numbers above c.args.params.now body) (entry_reached above c.args.params.now body) in
    let all = c.distinct.ensures ∙ (ap distinct c.as_mut_slice.ensures.value ∙ (ap distinct c.in_ok-numbers.ensures ∙ same)) in
    c.min.ensures ∙ ap (λ x. min x 1000000000) all
