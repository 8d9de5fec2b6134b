use Rattle.std.proofs.Common.{arith, rules, pos, get_or, int_lt, FitsSigned}
use Rattle.std.specs.Int.{w128}
use Rattle.std.proofs.lemmas.Int.{ints}
use Rattle.std.proofs.lemmas.List.Sorted.{IsPartitionPoint-from_clause}
use Rattle.vmv_zone.proofs.Rounding.{lesser_first, first_from, least_reach, least_as, reach_as}
use Rattle.vmv_zone.proofs.round.least_from.Goals as goal

pub bounds-thresholds-place : goal.bounds-thresholds-place
bounds-thresholds-place c =
    let point = IsPartitionPoint-from_clause (λ t. int_lt t c.args.bound) c.args.thresholds.now _ c.partition_point-place.ensures.partitioned (lesser_first c.args.thresholds.now c.args.bound c.requires.sorted) (λ a r q k. search rules) in
    (first_from c.args.thresholds.now c.args.bound _ point c.requires.sorted c.requires.most c.requires.reach.high).0

pub returns-clause-least : goal.returns-clause-least
returns-clause-least c =
    let fits : FitsSigned w128 (get_or c.args.thresholds.now c.partition_point-place.result (pos 0)) = search rules in
    let point = IsPartitionPoint-from_clause (λ t. int_lt t c.args.bound) c.args.thresholds.now _ c.partition_point-place.ensures.partitioned (lesser_first c.args.thresholds.now c.args.bound c.requires.sorted) (λ a r q k. search rules) in
    least_as c.args.thresholds.now c.args.bound c.args.bound (get_or c.args.thresholds.now c.partition_point-place.result (pos 0)) _
    (first_from c.args.thresholds.now c.args.bound _ point c.requires.sorted c.requires.most c.requires.reach.high).1
    (omega (arith, ints)) (omega (arith, ints))

pub returns-clause-reach : goal.returns-clause-reach
returns-clause-reach c =
    let fits : FitsSigned w128 (get_or c.args.thresholds.now c.partition_point-place.result (pos 0)) = search rules in
    let point = IsPartitionPoint-from_clause (λ t. int_lt t c.args.bound) c.args.thresholds.now _ c.partition_point-place.ensures.partitioned (lesser_first c.args.thresholds.now c.args.bound c.requires.sorted) (λ a r q k. search rules) in
    let found = (first_from c.args.thresholds.now c.args.bound _ point c.requires.sorted c.requires.most c.requires.reach.high).1 in
    reach_as _ _ (least_reach c.args.thresholds.now c.args.bound _ c.requires.reach c.requires.most found) (omega (arith, ints))
