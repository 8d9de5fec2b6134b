use Rattle.std.proofs.Common.{arith, rules, FitsSigned}
use Rattle.std.specs.Int.{w128}
use Rattle.std.proofs.lemmas.Int.{to_z-of_z}
use Rattle.vmv_zone.specs.Round.{IsLeastFrom}
use Rattle.vmv_zone.proofs.Filled.{refilled_none, refilled_more, refilled_done}
use Rattle.vmv_zone.proofs.round.round_bounds.Goals as goal

pub loop-place-init : goal.loop-place-init
loop-place-init c = refilled_none _ _ _ (search rules) c.requires.reach

pub loop-place-preserved : goal.loop-place-preserved
loop-place-preserved c =
    let fits : FitsSigned w128 c.rounded_at-threshold.result = search rules in
    simp to_z-of_z (refilled_more (λ b t. IsLeastFrom c.args.thresholds.now b t) _ _ _ _ _ c.requires.few (omega (arith, c.requires.few)) c.loop-place.invariant
    c.rounded_at-threshold.ensures.inside c.rounded_at-threshold.ensures.outside c.rounded_at-threshold.ensures.reach)

pub returns : goal.returns
returns c = refilled_done (λ b t. IsLeastFrom c.args.thresholds.now b t) _ _ _ c.loop-place.place c.requires.few (omega arith) c.requires.outside c.loop-place.invariant
