use Rattle.std.proofs.Common.{◌≡◌, ◌++◌, drop}
use Rattle.vmv_demands.specs.declared.lead.Lead.{Lead}
use Rattle.vmv_demands.specs.Leads.{led_on}
use Rattle.vmv_demands.specs.Sources.{StandFor}
use Rattle.vmv_demands.proofs.leads.push_before.Given as goal

abbrev pub invariant-loop-led : goal.invariant-loop-led
invariant-loop-led l =
    (before : Lead → Lead) → StandFor before l.sources → l.leads ++ led_on before (drop l.led-index l.behind) ≡ l.initial.leads ++ led_on before l.behind
