use Rattle.vmv_forward.proofs.Siting.{Added}
use Rattle.vmv_forward.proofs.row.add_sites.Given as goal

abbrev pub invariant-loop-before : goal.invariant-loop-before
invariant-loop-before l = Added l.instances l.number l.fn.proc.0 l.before l.name l.fn.sites.items l.sites.items
