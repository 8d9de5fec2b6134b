use Rattle.std.proofs.Common.{◌≡◌, ◌-◌, arith, ap, ◌∙◌}
use Rattle.std.specs.List.{range_with_len}
use Rattle.rayon.specs.Numbers.{nat_range}
use Rattle.rayon.proofs.ToStd.{nat_range-All}
use Rattle.vmv_crew.proofs.AnswersLemmas.{of_results}
use Rattle.vmv_crew.proofs.parts.by_rayon.Goals as goal

pub collect-requires-clause-ready : goal.collect-requires-clause-ready
collect-requires-clause-ready g c κs within =
    let ends = c.into_par_iter.ensures in
    let inside = nat_range-All (g.J.Job.can_run c.args.job.now) 0 c.args.n (λ i low high. c.requires i low (omega arith)) in
    rw (c.map.ensures.base, c.map.ensures.f, ends.0, ends.1) (λ k d lt. (inside k d lt, λ y p. tt))

pub returns : goal.returns
returns g c =
    let ends = c.into_par_iter.ensures in
    let n = c.args.n in
    let whole : n - 0 ≡ n = omega arith in
    let found = c.in_ok-list.ensures in
    let chain = rw (c.map.ensures.base, c.map.ensures.f) at found.1 in
    let places = chain.1 ∙ (λ i. nat_range (ends.0 i) (ends.1 i)) ∙ ap (range_with_len 0) whole in
    let all = rw places at chain.2 in
    of_results _ (g.J.Job.allows c.args.job.now) (range_with_len 0 n) found.0 c.in_ok-list.list all found.2
