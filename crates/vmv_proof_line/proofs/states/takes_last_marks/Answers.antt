use Rattle.std.proofs.Common.{arith, length, refl}
use Rattle.std.specs.Fmt.{decimal}
use Rattle.std.specs.List.{flat_map}
use Rattle.std.proofs.lemmas.Bool.{iff_false}
use Rattle.vmv_zone.specs.Zone.{vars_of}
use Rattle.vmv_proof_line.specs.StateWords.{mark_word}
use Rattle.vmv_proof_line.proofs.StateNaming.{marks_few}
use Rattle.vmv_proof_line.proofs.StateLoops.{marks_begun, marks_step, marks_stop, marks_done, marks_go_on, on_true, on_false}
use Rattle.vmv_proof_line.proofs.states.takes_last_marks.Goals as goal

pub returns-in_default-clause-no : goal.returns-in_default-clause-no
returns-in_default-clause-no c = λ marks h e.
    c.in_default.ensures (length marks) (decimal (length marks)) (flat_map mark_word marks) (omega (arith, marks_few (vars_of c.args.zone.now) marks c.requires.few h), refl) e

pub loop-init : goal.loop-init
loop-init c = marks_begun c.args.zone.now c.next_natural.new.self c.requires.not_bottom c.requires.unmarked

pub returns-in_default-next_mark-clause-no : goal.returns-in_default-next_mark-clause-no
returns-in_default-next_mark-clause-no c =
    let t = c.in-Some.ensures in
    marks_stop c.args.zone.now c.loop.zone c.args.words.now c.next_natural.new.self c.loop.words t.0 c.loop.counter c.in-Some.count c.loop.last c.vars.result c.requires.few t.1 t.2 c.loop.invariant c.loop-test.true
    c.vars.ensures c.in_default-next_mark.ensures

pub set_mark-requires-clause-not_bottom : goal.set_mark-requires-clause-not_bottom
set_mark-requires-clause-not_bottom c = c.loop.invariant.bottom

pub loop-preserved : goal.loop-preserved
loop-preserved c =
    let t = c.in-Some-next_mark.ensures in
    marks_step c.args.zone.now c.loop.zone c.set_mark.new.self c.next_natural.new.self c.loop.words c.next_mark.new.words c.loop.counter c.loop.last c.vars.result c.in-Some-next_mark.i
    c.loop.invariant c.vars.ensures t.0 t.1 c.set_mark.ensures

pub returns-clause-yes : goal.returns-clause-yes
returns-clause-yes c = on_true c.is_done.result (λ done.
    let t = c.in-Some.ensures in
    marks_done c.args.zone.now c.loop.zone c.args.words.now c.next_natural.new.self c.loop.words t.0 c.loop.counter c.in-Some.count c.loop.last t.1 t.2 c.loop.invariant (omega (arith, c.loop-test.false, c.loop.auto.counter-end)) (c.is_done.ensures.0 done))

pub returns-clause-no : goal.returns-clause-no
returns-clause-no c = on_false c.is_done.result (λ more.
    let t = c.in-Some.ensures in
    marks_go_on c.args.zone.now c.loop.zone c.args.words.now c.next_natural.new.self c.loop.words t.0 c.loop.counter c.in-Some.count c.loop.last c.requires.few t.1 t.2 c.loop.invariant (omega (arith, c.loop-test.false, c.loop.auto.counter-end))
    (iff_false c.is_done.ensures more))
