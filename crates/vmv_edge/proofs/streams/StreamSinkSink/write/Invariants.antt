-- A write that was interrupted isn't counted.
use Rattle.std.proofs.Common.{◌≡◌}
use Rattle.vmv_edge.proofs.streams.StreamSinkSink.write.Given as goal

abbrev pub invariant-loop : goal.invariant-loop
invariant-loop g l = l.self.faults ≡ l.initial.self.faults
