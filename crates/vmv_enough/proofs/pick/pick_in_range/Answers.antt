use Rattle.std.proofs.Common.{FitsSigned, w64, rules}
use Rattle.vmv_cond.specs.Cond.{Holds}
use Rattle.vmv_enough.specs.Picks.{IsPick}
use Rattle.vmv_enough.specs.Probes.{IsInRange}
use Rattle.vmv_enough.proofs.Picked.{pick_through, in_range_is, iff_through}
use Rattle.vmv_enough.proofs.Words.{read_word, back}
use Rattle.vmv_enough.proofs.pick.pick_in_range.Goals as goal

pub returns-clause-pick : goal.returns-clause-pick
returns-clause-pick c =
    let low : FitsSigned w64 c.args.range.0 = search rules in
    let high : FitsSigned w64 c.args.range.1 = search rules in
    read_word (λ w. IsPick c.args.mode (IsInRange c.args.range) w) c.pick.result c.pick.ensures.word
    (pick_through c.args.mode (Holds c.of.result) (IsInRange c.args.range) c.pick.result (λ v. iff_through (c.of.ensures v) (in_range_is c.args.range _ _ v (back c.args.range.0 low) (back c.args.range.1 high))) c.pick.ensures.pick)
