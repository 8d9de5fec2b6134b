use Rattle.vmv_forward.specs.Rounds.{all_rooms, quest_of}
use Rattle.vmv_forward.proofs.Turning.{lower, all_settled}
use Rattle.vmv_forward.proofs.rounds.settle.Goals as goal

pub loop-raised-smaller : goal.loop-raised-smaller
loop-raised-smaller g c = lower c.loop-raised.raised c.sweep-raised.result (all_rooms c.sweep-raised.new.instances) (all_rooms c.loop-raised.instances) c.loop-raised-test.true c.sweep-raised.ensures.falls c.sweep-raised.ensures.stays

pub returns-clause-settled : goal.returns-clause-settled
returns-clause-settled g c = all_settled (quest_of c.args.search.now) c.loop-raised.instances c.loop-raised.waiting c.loop-raised.invariant.waiting (c.loop-raised.invariant.done c.loop-raised-test.false)
