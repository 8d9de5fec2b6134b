use Rattle.std.proofs.Common.{◌≡◌, drop}
use Rattle.std.specs.List.{filter_map}
use Rattle.vmv_back.specs.Kept.{keep_all}
use Rattle.vmv_demands.specs.declared.lead.Lead.{Lead}
use Rattle.vmv_demands.specs.Leads.{led_on, asked}
use Rattle.vmv_demands.specs.Sources.{StandFor}
use Rattle.vmv_demands.specs.Demands.{same_found}
use Rattle.vmv_demands.proofs.kept.keep_before.Given as goal

abbrev pub invariant-loop-led : goal.invariant-loop-led
invariant-loop-led l =
    (before : Lead → Lead) → StandFor before l.sources → keep_all 32 same_found l.kept (filter_map asked (led_on before (drop l.led-index l.behind))) ≡ keep_all 32 same_found l.initial.kept (filter_map asked (led_on before l.behind))
