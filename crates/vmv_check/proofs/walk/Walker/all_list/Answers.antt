use Rattle.std.proofs.Common.{refl}
use Rattle.std.specs.List.{Contains}
use Rattle.vmv_cert.specs.declared.row.Row.{Row}
use Rattle.vmv_cert.specs.Walk.{IsMatch}
use Rattle.vmv_check.specs.Walker.{walk_of}
use Rattle.vmv_check.proofs.Lists.{upto_more, upto_end}
use Rattle.vmv_check.proofs.walk.Walker.all_list.Goals as goal

pub loop-row-preserved : goal.loop-row-preserved
loop-row-preserved c =
    upto_more (λ (row : Row). IsMatch (walk_of c.args.self.now) c.args.callee.0 c.args.args.now row → Contains row.unproved c.args.site.now) c.args.self.now.rows.now c.loop-row.row-index c.row-item.result c.loop-row-test.true c.row-item.is
    c.loop-row.invariant (c.if-not-is_listed.ensures.0 refl)

pub returns : goal.returns
returns c = (
  λ t row m. upto_end (λ (row : Row). IsMatch (walk_of c.args.self.now) c.args.callee.0 c.args.args.now row → Contains row.unproved c.args.site.now) c.args.self.now.rows.now c.loop-row.row-index c.loop-row-test.false c.loop-row.invariant row m.one m,
  λ h. refl,
)
