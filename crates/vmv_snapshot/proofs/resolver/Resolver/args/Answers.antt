use Rattle.vmv_snapshot.specs.Resolves.{ResolvesOperand}
use Rattle.vmv_snapshot.proofs.Zips.{zip_more}
use Rattle.vmv_snapshot.proofs.resolver.Resolver.args.Goals as goal

pub loop-arg-preserved : goal.loop-arg-preserved
loop-arg-preserved c =
    zip_more (ResolvesOperand c.args.self.now) c.args.args.now c.loop-arg.codes c.push.new.self c.loop-arg.arg-index c.arg-item.result c.operand.result c.loop-arg-test.true
    c.arg-item.is c.loop-arg.invariant c.operand.ensures c.in_ok-push.ensures.ok
