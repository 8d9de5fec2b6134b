use Rattle.std.proofs.Common.{◌≡◌, ◌+◌, ◌*◌, take}
use Rattle.vmv_snapshot.specs.View.{stmt_of, block_of}
use Rattle.vmv_demands.specs.Back.{over_all, results}
use Rattle.vmv_demands.specs.Leads.{leads_in_all, insides}
use Rattle.vmv_demands.specs.Sources.{StandFor}
use Rattle.vmv_demands.proofs.Sizes.{size, block_size}
use Rattle.vmv_demands.proofs.leads.+leads.Given as goal

abbrev pub decreases-leads_in : goal.decreases-leads_in
decreases-leads_in l = 3 * size (stmt_of l.stmt.now)

abbrev pub decreases-leads_in_all : goal.decreases-leads_in_all
decreases-leads_in_all l = 3 * block_size (block_of l.block.now) + 2

abbrev pub decreases-walk : goal.decreases-walk
decreases-walk l = 3 * block_size (block_of l.block.now) + 1

abbrev pub invariant-walk-loop-i : goal.invariant-walk-loop-i
invariant-walk-loop-i l =
    (l.leads ≡ leads_in_all (results l.snapshot.codes l.proc.0) (insides l.snapshot.codes l.proc.0) l.proc (block_of (take l.i l.block)))
    × StandFor (over_all (results l.snapshot.codes l.proc.0) (block_of (take l.i l.block))) l.sources
