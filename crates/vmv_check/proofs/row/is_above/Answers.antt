use Rattle.std.proofs.Common.{◌↔◌, IsTrue, sym, subst}
use Rattle.vmv_cert.specs.declared.row.Reach.{Reach}
use Rattle.vmv_cert.specs.Tables.{IsAbove}
use Rattle.vmv_check.proofs.Conds.{above_told}
use Rattle.vmv_check.proofs.row.is_above.Goals as goal

pub returns-in-Value : goal.returns-in-Value
returns-in-Value c = subst (λ (r : Reach). IsTrue c.is_same.result ↔ IsAbove r c.args.range) (sym c.in-Value.is) (above_told c.is_same.result c.in-Value.cond c.args.range c.meet.result c.meet.ensures c.is_same.ensures)
