-- The numbers so far wait.
use Rattle.std.proofs.Common.{◌≡◌, take}
use Rattle.vmv_desk.proofs.queues.filled.Given as goal

abbrev pub invariant-loop-number : goal.invariant-loop-number
invariant-loop-number l = l.queue ≡ record { owner = l.bench.owner; name = l.bench.name; pending = take l.number-index l.bench.pending }
