use Rattle.std.proofs.Common.{◌∙◌}
use Rattle.vmv_demands.proofs.Found.{keep_next, keep_end}
use Rattle.vmv_demands.proofs.kept.keep_before.Goals as goal

pub loop-led-preserved : goal.loop-led-preserved
loop-led-preserved c = λ before stands.
    keep_next before c.args.behind.now _ _ _ _ _ _ c.loop-led-test.true c.led-item.is (c.loop-led.invariant before stands) (c.lead_before-lead.ensures before stands) c.in_ok-keep_asked.ensures

pub returns : goal.returns
returns c = λ before stands. keep_end before c.args.behind.now _ _ _ c.loop-led-test.false (c.loop-led.invariant before stands)
