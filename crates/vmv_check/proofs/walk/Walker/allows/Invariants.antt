use Rattle.vmv_check.specs.Walker.{walk_of, IsAllowedSite}
use Rattle.vmv_check.proofs.Lists.{Upto}
use Rattle.vmv_check.proofs.walk.Walker.allows.Given as goal

abbrev pub invariant-loop-site : goal.invariant-loop-site
invariant-loop-site l = Upto (IsAllowedSite (walk_of l.self) l.callee.0 l.args) l.site-items l.site-index
