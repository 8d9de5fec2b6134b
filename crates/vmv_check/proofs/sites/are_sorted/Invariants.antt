use Rattle.std.proofs.Common.{◌≡◌, ℕ, ◌+◌, ◌<◌, Some, slice_get}
use Rattle.vmv_tree.specs.declared.site.NamedSite.{NamedSite}
use Rattle.vmv_cert.specs.Tables.{Precedes}
use Rattle.vmv_check.proofs.sites.are_sorted.Given as goal

abbrev pub invariant-loop-i : goal.invariant-loop-i
invariant-loop-i l = (k : ℕ) (one other : NamedSite) → k + 1 < l.i → slice_get l.sites k ≡ Some one → slice_get l.sites (k + 1) ≡ Some other → Precedes l.snapshot one other
