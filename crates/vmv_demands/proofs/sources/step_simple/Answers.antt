use Rattle.std.proofs.Common.{refl}
use Rattle.std.proofs.lemmas.Result.{on_ok_weaker}
use Rattle.vmv_demands.proofs.Standing.{on_slice, set_stands, arith_stands, ask_stands, assert_stands}
use Rattle.vmv_demands.proofs.sources.step_simple.Goals as goal

pub returns-in-Set : goal.returns-in-Set
returns-in-Set c =
    on_ok_weaker c.put.result (λ puts. λ results before stands. set_stands before c.args.sources.now stands _ results c.args.simple.now c.in-Set.to _ puts c.in-Set.from c.in-Set.is (c.operand-source.ensures before (on_slice before _ _ c.as_slice.ensures stands))) c.put.ensures

pub returns-in-Arith : goal.returns-in-Arith
returns-in-Arith c =
    on_ok_weaker c.put-in-Arith.result (λ puts. λ results before stands. arith_stands before c.args.sources.now stands _ results c.args.simple.now c.in-Arith.to _ puts c.in-Arith.op c.in-Arith.left c.in-Arith.right _ c.in-Arith.is
    (c.computed-source.ensures before (on_slice before _ _ c.as_slice-in-Arith.ensures stands))) c.put-in-Arith.ensures

pub returns-in-Ask : goal.returns-in-Ask
returns-in-Ask c =
    on_ok_weaker c.put-in-Ask.result (λ puts. λ results before stands. ask_stands before c.args.sources.now stands _ results c.args.simple.now c.in-Ask.to _ puts c.in-Ask.callee _ c.in-Ask.is refl) c.put-in-Ask.ensures

pub returns-in-Assert : goal.returns-in-Assert
returns-in-Assert c = λ results before stands. assert_stands before c.args.sources.now stands results c.args.simple.now _ _ c.in-Assert.is
