use Rattle.std.proofs.Common.{arith}
use Rattle.vmv_routes.proofs.Cutting.{passed_none, passed_more, found_before, found_behind, none_before, none_behind}
use Rattle.vmv_routes.proofs.path.place_of.Goals as goal

pub loop-i-init : goal.loop-i-init
loop-i-init c = passed_none c.args.stop c.args.bytes.now

pub loop-i-preserved : goal.loop-i-preserved
loop-i-preserved c = passed_more _ _ _ c.loop-i-test.true c.if-bytes-i.false c.loop-i.invariant

pub returns-then-bytes-i : goal.returns-then-bytes-i
returns-then-bytes-i c = record {
  within = omega arith;
  before = found_before _ _ _ c.loop-i-test.true c.if-bytes-i.true c.loop-i.invariant;
  behind = found_behind _ _ _ c.loop-i-test.true c.if-bytes-i.true c.loop-i.invariant;
}

pub returns : goal.returns
returns c = record {
  within = omega arith;
  before = none_before _ _ _ c.loop-i-test.false c.loop-i.invariant;
  behind = none_behind _ _ _ c.loop-i-test.false c.loop-i.invariant;
}
