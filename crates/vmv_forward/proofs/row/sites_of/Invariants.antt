use Rattle.vmv_forward.proofs.Siting.{Sited}
use Rattle.vmv_forward.proofs.row.sites_of.Given as goal

abbrev pub invariant-loop-p : goal.invariant-loop-p
invariant-loop-p l = Sited l.search.snapshot.now l.instances l.number l.from.0 l.p l.sites.items
