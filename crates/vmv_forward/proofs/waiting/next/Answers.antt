use Rattle.std.proofs.Common.{arith}
use Rattle.vmv_forward.proofs.Listed.{popped, unpopped, then_popped}
use Rattle.vmv_forward.proofs.waiting.next.Goals as goal

pub returns-in-Some-clause-taken : goal.returns-in-Some-clause-taken
returns-in-Some-clause-taken c = popped c.args.waiting.now c.pop_front.new.self 0 c.in-Some.number c.requires.room (omega arith) c.in-Some.ensures.first c.in-Some.ensures.below c.pop_front.ensures.lists c.pop_front.ensures.size

pub returns-in-None-clause-taken : goal.returns-in-None-clause-taken
returns-in-None-clause-taken c =
    then_popped c.pop_front-in-None.result c.args.waiting.now c.pop_front.new.self c.pop_front-in-None.new.self c.requires.room (unpopped c.args.waiting.now c.pop_front.new.self 0 c.in-None.ensures.first c.pop_front.ensures.lists c.pop_front.ensures.size)
    c.pop_front-in-None.ensures.first c.pop_front-in-None.ensures.below c.pop_front-in-None.ensures.lists c.pop_front-in-None.ensures.size
