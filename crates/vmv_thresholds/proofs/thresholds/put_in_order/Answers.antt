use Rattle.std.proofs.lemmas.List.Filters.{dedup_is}
use Rattle.vmv_thresholds.proofs.Ordered.{rising, kept}
use Rattle.vmv_thresholds.proofs.thresholds.put_in_order.Goals as goal

pub returns-clause-rising : goal.returns-clause-rising
returns-clause-rising c = rw (dedup_is _ _ _ c.dedup.ensures.filtered) (rising _ c.sort_unstable.ensures.sorted)

pub returns-clause-same : goal.returns-clause-same
returns-clause-same c = λ t. rw (dedup_is _ _ _ c.dedup.ensures.filtered) (kept _ _ c.sort_unstable.ensures.permutation t)
