use Rattle.vmv_forward.specs.Rounds.{quest_of}
use Rattle.vmv_forward.proofs.Turning.{taken_but}
use Rattle.vmv_forward.proofs.rounds.sweep.Goals as goal

pub turn-requires-clause-from : goal.turn-requires-clause-from
turn-requires-clause-from g c = c.loop-item.invariant.waiting.from c.in-Some.item c.in-Some.ensures.taken.was

pub turn-requires-clause-waiting : goal.turn-requires-clause-waiting
turn-requires-clause-waiting g c = taken_but (quest_of c.args.search.now) c.loop-item.instances c.loop-item.waiting c.next.new.waiting c.in-Some.item c.loop-item.invariant.waiting c.in-Some.ensures.taken
