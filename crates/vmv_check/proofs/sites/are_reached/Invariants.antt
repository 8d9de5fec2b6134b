use Rattle.std.proofs.Common.{ℕ}
use Rattle.vmv_cert.specs.Tables.{IsSiteOf}
use Rattle.vmv_check.proofs.Lists.{Upto}
use Rattle.vmv_check.proofs.sites.are_reached.Given as goal

abbrev pub invariant-loop-site : goal.invariant-loop-site
invariant-loop-site l = Upto (λ s. (m : ℕ) × IsSiteOf l.snapshot l.from.0 m s) l.sites l.site-index
