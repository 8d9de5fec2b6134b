use Rattle.std.proofs.Common.{refl, arith}
use Rattle.vmv_cert.specs.declared.row.Row.{Row}
use Rattle.vmv_check.proofs.Lists.{item_in, upto_start, upto_more, upto_end}
use Rattle.vmv_forward.specs.Least.{IsRowFor}
use Rattle.vmv_forward.proofs.Stepping.{no_true, untold}
use Rattle.vmv_forward.proofs.lay.stands.Goals as goal

pub loop-row-init : goal.loop-row-init
loop-row-init c = upto_start (λ (row : Row). IsRowFor c.args.snapshot.now c.args.proc.0 c.args.input.now row → ⊥) c.args.rows.now

pub returns-then-is_row_for : goal.returns-then-is_row_for
returns-then-is_row_for c = (λ t. (c.row-item.result, item_in c.args.rows.now c.loop-row.row-index c.row-item.result c.loop-row-test.true c.row-item.is, c.is_row_for.ensures.0 c.if-is_row_for.true), λ x. refl)

pub loop-row-preserved : goal.loop-row-preserved
loop-row-preserved c =
    upto_more (λ (row : Row). IsRowFor c.args.snapshot.now c.args.proc.0 c.args.input.now row → ⊥) c.args.rows.now c.loop-row.row-index c.row-item.result c.loop-row-test.true c.row-item.is c.loop-row.invariant
    (untold c.is_row_for.result c.if-is_row_for.false c.is_row_for.ensures.1)

pub returns : goal.returns
returns c = (
  λ t. no_true t,
  λ x. absurd (upto_end (λ (row : Row). IsRowFor c.args.snapshot.now c.args.proc.0 c.args.input.now row → ⊥) c.args.rows.now c.loop-row.row-index (omega arith) c.loop-row.invariant x.0 x.1 x.2),
)
