use Rattle.std.proofs.Common.{◌≡◌, ℕ, ◌<◌, ◌≤◌, IsTrue, List, [], ◌++◌, length, refl, sym, ap, subst, ◌∙◌, arith, append-nil}
use Rattle.std.specs.List.{Contains}
use Rattle.vmv_tree.specs.declared.name.Name.{Name}
use Rattle.vmv_assumption.specs.Assumed.{names_of, cond_of}
use Rattle.vmv_need.specs.declared.cut.Cut.{Cut}
use Rattle.vmv_need.specs.Rounds.{IsTurn}
use Rattle.vmv_need.proofs.Lists.{at_in}
use Rattle.vmv_need.proofs.Fit.{candidate_fits}
use Rattle.vmv_need.proofs.Pushed.{turn_at, all_turns}
use Rattle.vmv_need.proofs.judge.Judging.round.Goals as goal

pub loop-place-init : goal.loop-place-init
loop-place-init g c = (ap names_of c.in_ok-running.ensures, ([], (ap cond_of c.in_ok-running.ensures, refl), sym (append-nil _)))

pub take_turn-requires : goal.take_turn-requires
take_turn-requires g c =
    let planned = c.requires.ready.planned in
    let inside : c.loop-place.place < length c.args.self.now.plan.now.candidates.items = omega (arith, c.loop-place-test.true, c.len-place-end.ensures, c.args.self.now.plan.now.candidates.ok.0) in
    let there = at_in _ _ c.loop-place.place _ inside c.index.ensures planned.candidates in
    let fits = candidate_fits _ _ planned.scope planned.is_resolution c.index.result.now there in
    record { held = subst (λ (names : List Name). Contains names c.index.result.now.name) (sym (c.loop-place.invariant.0 ∙ c.requires.ready.names)) fits.1 }

pub loop-place-preserved : goal.loop-place-preserved
loop-place-preserved g c =
    let inside : c.loop-place.place < length c.args.self.now.plan.now.candidates.items = omega (arith, c.loop-place-test.true, c.len-place-end.ensures, c.args.self.now.plan.now.candidates.ok.0) in
    let turn = subst (λ (n : ℕ). (made : List Cut) × IsTurn (IsTrue c.index-in-loop-place.result.now) n c.index.result.now (cond_of c.loop-place.running) made (cond_of c.take_turn.new.running) × (c.take_turn.new.cuts ≡ c.loop-place.cuts ++ made))
    c.len-under.ensures c.in_ok-take_turn.ensures.turn in (
      c.in_ok-take_turn.ensures.names ∙ c.loop-place.invariant.0,
      turn_at _ _ _ c.loop-place.place _ c.index.result.now c.index-in-loop-place.result.now _ _ _ _ _ _ c.in_ok-acting.ensures inside c.index.ensures c.index-in-loop-place.ensures c.loop-place.invariant.1 turn,
    )

pub returns-clause-round : goal.returns-clause-round
returns-clause-round g c =
    let over : length c.args.self.now.plan.now.candidates.items ≤ c.loop-place.place = omega (arith, c.loop-place-test.false, c.len-place-end.ensures, c.args.self.now.plan.now.candidates.ok.0) in
    all_turns _ _ _ c.loop-place.place _ _ _ _ _ over c.requires.ready.planned.candidates c.loop-place.invariant.1
