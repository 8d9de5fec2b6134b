use Rattle.std.proofs.Common.{◌≡◌, ◌++◌, drop}
use Rattle.vmv_demands.specs.Back.{out_of_call}
use Rattle.vmv_demands.specs.Leads.{led_on}
use Rattle.vmv_demands.proofs.leads.push_out_of_call.Given as goal

abbrev pub invariant-loop-led : goal.invariant-loop-led
invariant-loop-led l =
    l.leads ++ led_on (out_of_call l.args) (drop l.led-index l.inside) ≡ l.initial.leads ++ led_on (out_of_call l.args) l.inside
