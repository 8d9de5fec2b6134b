use Rattle.vmv_demands.proofs.Leading.{led_next, led_end}
use Rattle.vmv_demands.proofs.leads.push_before.Goals as goal

pub loop-led-preserved : goal.loop-led-preserved
loop-led-preserved c = λ before stands.
    led_next before c.args.behind.now _ _ _ _ _ _ c.loop-led-test.true c.led-item.is (c.loop-led.invariant before stands) (c.lead_before-lead.ensures before stands) c.in_ok-push.ensures

pub returns : goal.returns
returns c = λ before stands. led_end before c.args.behind.now _ _ _ c.loop-led-test.false (c.loop-led.invariant before stands)
