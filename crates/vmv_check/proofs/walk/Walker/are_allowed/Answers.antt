use Rattle.vmv_cert.specs.declared.row.Row.{Row}
use Rattle.vmv_cert.specs.Walk.{IsMatch}
use Rattle.vmv_check.specs.Walker.{walk_of}
use Rattle.vmv_check.proofs.Lists.{clash, upto_more, upto_end}
use Rattle.vmv_check.proofs.walk.Walker.are_allowed.Goals as goal

pub allows-requires-clause-one : goal.allows-requires-clause-one
allows-requires-clause-one c = c.is_match.ensures.0 c.if-is_match.true

pub loop-row-preserved : goal.loop-row-preserved
loop-row-preserved c =
    upto_more (λ (row : Row). IsMatch (walk_of c.args.self.now) c.args.callee.0 c.args.args.now row → ⊥) c.args.self.now.rows.now c.loop-row.row-index c.row-item.result c.loop-row-test.true c.row-item.is c.loop-row.invariant
    (λ m. clash c.is_match.result (c.is_match.ensures.1 m) c.if-is_match.false)

pub unreachable-requires : goal.unreachable-requires
unreachable-requires c =
    upto_end (λ (row : Row). IsMatch (walk_of c.args.self.now) c.args.callee.0 c.args.args.now row → ⊥) c.args.self.now.rows.now c.loop-row.row-index c.loop-row-test.false c.loop-row.invariant c.requires.some.0 c.requires.some.1.one c.requires.some.1
