-- The queues so far are the benches so far.
use Rattle.std.proofs.Common.{◌≡◌, take}
use Rattle.vmv_desk.proofs.queues.queues_of.Given as goal

abbrev pub invariant-loop-bench : goal.invariant-loop-bench
invariant-loop-bench l = l.queues.items ≡ take l.bench-index l.benches
