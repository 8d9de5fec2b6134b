use Rattle.std.proofs.Common.{arith, ◌≡◌, length}
use Rattle.vmv_head.proofs.Moving.{none_fed, one_fed, whole_fed, all_fed}
use Rattle.vmv_head.proofs.scan.Place.feed.Goals as goal

pub loop-i-init : goal.loop-i-init
loop-i-init c = record { within = omega arith; fed = none_fed c.args.self.now c.args.bytes.now }

pub loop-i-preserved : goal.loop-i-preserved
loop-i-preserved c = record { within = omega arith; fed = one_fed _ _ _ _ _ c.loop-i-test.true c.in-Some.ensures c.loop-i.invariant.fed }

pub returns-in-None-clause-whole : goal.returns-in-None-clause-whole
returns-in-None-clause-whole c = whole_fed _ _ _ _ c.loop-i-test.true c.in-None.ensures c.loop-i.invariant.fed

pub returns-clause-goes_on : goal.returns-clause-goes_on
returns-clause-goes_on c h = all_fed _ _ _ _ (let e : c.loop-i.i ≡ length c.args.bytes.now = omega (arith, c.loop-i.invariant.within, c.loop-i-test.false) in e) c.loop-i.invariant.fed
