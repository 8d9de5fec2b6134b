use Rattle.std.proofs.Common.{◌↔◌, take}
use Rattle.std.specs.List.{Contains}
use Rattle.vmv_tree.specs.declared.site.NamedSite.{NamedSite}
use Rattle.vmv_proof_check.proofs.sites.in_both.Given as goal

abbrev pub invariant-loop-site : goal.invariant-loop-site
invariant-loop-site l = (site : NamedSite) → Contains l.both site ↔ (Contains (take l.site-index l.sites) site × Contains l.others site)
