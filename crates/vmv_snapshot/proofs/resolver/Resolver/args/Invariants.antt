use Rattle.std.proofs.Common.{take}
use Rattle.std.specs.List.{AllZip}
use Rattle.vmv_snapshot.specs.Resolves.{ResolvesOperand}
use Rattle.vmv_snapshot.proofs.resolver.Resolver.args.Given as goal

abbrev pub invariant-loop-arg : goal.invariant-loop-arg
invariant-loop-arg l = AllZip (ResolvesOperand l.self) (take l.arg-index l.args) l.codes
