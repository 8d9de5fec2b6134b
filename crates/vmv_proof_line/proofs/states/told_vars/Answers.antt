use Rattle.vmv_proof_line.proofs.StateTold.{no_bounds, no_marks_word, no_marks, all_told}
use Rattle.vmv_proof_line.proofs.states.told_vars.Goals as goal

pub returns-then-not-takes_bounds : goal.returns-then-not-takes_bounds
returns-then-not-takes_bounds c =
    let t = c.in-Some.ensures in
    no_bounds c.top-zone.result c.args.words.now c.next_thing.new.words c.takes.new.self t.0 c.in-Some.vars t.1 t.2 c.if-not-takes.ensures.yes c.top-zone.ensures.vars c.if-not-takes_bounds.ensures.no

pub returns-then-not-takes-2 : goal.returns-then-not-takes-2
returns-then-not-takes-2 c =
    let t = c.in-Some.ensures in
    no_marks_word c.top-zone.result c.takes_bounds.new.zone c.args.words.now c.next_thing.new.words c.takes.new.self c.takes_bounds.new.words t.0 c.in-Some.vars t.1 t.2 c.if-not-takes.ensures.yes c.top-zone.ensures.vars
    c.if-not-takes_bounds.ensures.yes c.if-not-takes-2.ensures.no

pub returns-then-not-takes_last_marks : goal.returns-then-not-takes_last_marks
returns-then-not-takes_last_marks c =
    let t = c.in-Some.ensures in
    no_marks c.top-zone.result c.takes_bounds.new.zone c.args.words.now c.next_thing.new.words c.takes.new.self c.takes_bounds.new.words c.takes-2.new.self t.0 c.in-Some.vars t.1 t.2 c.if-not-takes.ensures.yes c.top-zone.ensures.vars
    c.if-not-takes_bounds.ensures.yes c.if-not-takes-2.ensures.yes c.if-not-takes_last_marks.ensures.no

pub returns : goal.returns
returns c =
    let t = c.in-Some.ensures in
    all_told c.top-zone.result c.takes_bounds.new.zone c.takes_last_marks.new.zone c.args.words.now c.next_thing.new.words c.takes.new.self c.takes_bounds.new.words c.takes-2.new.self t.0 c.in-Some.vars t.1 t.2 c.if-not-takes.ensures.yes
    c.top-zone.ensures.vars c.if-not-takes_bounds.ensures.yes c.if-not-takes-2.ensures.yes c.if-not-takes_last_marks.ensures.yes
