use Rattle.std.proofs.Common.{length, ◌-◌}
use Rattle.vmv_forward.proofs.Gathering.{Laying}
use Rattle.vmv_forward.proofs.lay.+lay.Given as goal

abbrev pub decreases-lay : goal.decreases-lay
decreases-lay l = length l.instances.now - l.number

abbrev pub invariant-loop-c : goal.invariant-loop-c
invariant-loop-c l = Laying l.search.snapshot.now l.instances l.number l.instance l.c l.initial.rows.items l.rows.items
