use Rattle.std.proofs.Common.{sym}
use Rattle.vmv_demands.proofs.Going.{results_behind}
use Rattle.vmv_demands.proofs.Standing.{row_result}
use Rattle.vmv_demands.proofs.sources.result_of.Goals as goal

pub returns-then-callee-proc : goal.returns-then-callee-proc
returns-then-callee-proc c = λ want w. sym (results_behind c.args.snapshot.now.codes c.args.proc.0 c.args.callee.0 want c.if-callee-proc.true)

pub returns : goal.returns
returns c = λ want w. row_result c.args.snapshot.now.codes c.args.proc.0 c.args.callee.0 c.args.rows.now c.index-rows-callee.result want c.requires c.if-callee-proc.false w
