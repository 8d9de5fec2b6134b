use Rattle.std.proofs.Common.{sym, ◌∙◌}
use Rattle.vmv_assumption.specs.Assumed.{cond_of}
use Rattle.vmv_need.proofs.Pushed.{at_first, one_round_more, fewer_meet, at_last}
use Rattle.vmv_need.proofs.round.rounds.Goals as goal

pub rounds-init : goal.rounds-init
rounds-init g c = (c.in_ok-frozen.ensures.names, at_first _ _ _ _ c.in_ok-frozen.ensures.conds c.new-cuts.ensures)

pub returns-then-len-before-clause-cuts : goal.returns-then-len-before-clause-cuts
returns-then-len-before-clause-cuts g c =
    at_last c.args.base.now c.args.plan.now.scope (cond_of c.rounds.frozen) (cond_of c.in_ok-next.next) c.rounds.cuts c.round.new.cuts c.rounds.invariant.1 c.in_ok-next.ensures.round
    (sym c.len.ensures ∙ (c.if-len-before.true ∙ c.len-before.ensures))

pub rounds-smaller : goal.rounds-smaller
rounds-smaller g c =
    fewer_meet c.args.base.now c.args.plan.now.scope (cond_of c.rounds.frozen) (cond_of c.in_ok-next.next) c.rounds.cuts c.round.new.cuts c.in_ok-next.ensures.round
    (λ e. c.if-len-before.false (c.len.ensures ∙ (e ∙ sym c.len-before.ensures)))

pub rounds-preserved : goal.rounds-preserved
rounds-preserved g c = (
  c.in_ok-next.ensures.names ∙ c.rounds.invariant.0,
  one_round_more c.args.base.now c.args.plan.now.scope (cond_of c.rounds.frozen) (cond_of c.in_ok-next.next) c.rounds.cuts c.round.new.cuts c.rounds.invariant.1 c.in_ok-next.ensures.round
      (λ e. c.if-len-before.false (c.len.ensures ∙ (e ∙ sym c.len-before.ensures))),
)
