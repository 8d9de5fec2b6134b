use Rattle.vmv_thresholds.proofs.Called.{CalledFrom}
use Rattle.vmv_thresholds.proofs.calls.+calls.Given as goal

abbrev pub invariant-block_calls-loop-stmt : goal.invariant-block_calls-loop-stmt
invariant-block_calls-loop-stmt l = CalledFrom l.block l.name l.stmt-index
