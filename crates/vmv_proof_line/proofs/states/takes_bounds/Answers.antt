use Rattle.std.proofs.Common.{arith, length, ◌++◌, refl, subst}
use Rattle.std.specs.Fmt.{decimal}
use Rattle.std.specs.List.{flat_map}
use Rattle.vmv_zone.specs.Zone.{vars_of, ChangesBound}
use Rattle.vmv_proof_line.specs.StateWords.{bound_triple}
use Rattle.vmv_proof_line.proofs.StateNaming.{bounds_few}
use Rattle.vmv_proof_line.proofs.StateLoops.{bounds_begun, bounds_step, bounds_stop, bounds_done, kept_bound}
use Rattle.vmv_proof_line.proofs.states.takes_bounds.Goals as goal

pub returns-in_default-clause-no : goal.returns-in_default-clause-no
returns-in_default-clause-no c = λ bounds rest h e.
    c.in_default.ensures (length bounds) (decimal (length bounds)) (flat_map bound_triple bounds ++ rest) (omega (arith, bounds_few (vars_of c.args.zone.now) bounds c.requires.few h), refl) e

pub loop-init : goal.loop-init
loop-init c = bounds_begun c.args.zone.now c.next_natural.new.self c.requires.top

pub returns-in_default-next_bound-clause-no : goal.returns-in_default-next_bound-clause-no
returns-in_default-next_bound-clause-no c =
    let t = c.in-Some.ensures in
    bounds_stop c.args.zone.now c.loop.zone c.args.words.now c.next_natural.new.self c.loop.words t.0 c.loop.counter c.in-Some.count c.loop.last c.vars.result c.requires.few t.1 t.2 c.loop.invariant c.loop-test.true
    c.vars.ensures c.in_default-next_bound.ensures

pub set_bound-requires-clause-not_bottom : goal.set_bound-requires-clause-not_bottom
set_bound-requires-clause-not_bottom c = c.loop.invariant.bottom

pub loop-preserved : goal.loop-preserved
loop-preserved c =
    let t = c.in-Some-next_bound.ensures in
    bounds_step c.args.zone.now c.loop.zone c.set_bound.new.self c.next_natural.new.self c.loop.words c.next_bound.new.words c.loop.counter c.loop.last c.vars.result (c.in-Some-next_bound.i, c.in-Some-next_bound.j, c.in-Some-next_bound.bound)
    c.loop.invariant c.vars.ensures t.0 t.1 (subst (λ k. ChangesBound c.loop.zone c.set_bound.new.self c.in-Some-next_bound.i c.in-Some-next_bound.j k) (kept_bound c.in-Some-next_bound.bound t.0.between) c.set_bound.ensures)

pub returns-clause-yes : goal.returns-clause-yes
returns-clause-yes c =
    let t = c.in-Some.ensures in
    bounds_done c.args.zone.now c.loop.zone c.args.words.now c.next_natural.new.self c.loop.words t.0 c.loop.counter c.in-Some.count c.loop.last c.requires.few t.1 t.2 c.loop.invariant (omega (arith, c.loop-test.false, c.loop.auto.counter-end))
