use Rattle.std.proofs.Common.{◌≡◌}
use Rattle.vmv_zone.specs.Zone.{vars_of}
use Rattle.vmv_check.proofs.Lists.{Upto}
use Rattle.vmv_check.proofs.form.are_over.Given as goal

abbrev pub invariant-loop-zone : goal.invariant-loop-zone
invariant-loop-zone l = Upto (λ z. vars_of z ≡ l.vars) l.zones l.zone-index
