-- A write that was interrupted isn't counted.
use Rattle.std.proofs.Common.{◌≡◌}
use Rattle.vmv_tcp.proofs.link.TcpLinkLink.write.Given as goal

abbrev pub invariant-loop : goal.invariant-loop
invariant-loop l = l.self.faults ≡ l.initial.self.faults
