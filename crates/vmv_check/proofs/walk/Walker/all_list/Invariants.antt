use Rattle.std.specs.List.{Contains}
use Rattle.vmv_cert.specs.Walk.{IsMatch}
use Rattle.vmv_check.specs.Walker.{walk_of}
use Rattle.vmv_check.proofs.Lists.{Upto}
use Rattle.vmv_check.proofs.walk.Walker.all_list.Given as goal

abbrev pub invariant-loop-row : goal.invariant-loop-row
invariant-loop-row l = Upto (λ row. IsMatch (walk_of l.self) l.callee.0 l.args row → Contains row.unproved l.site) l.self.rows.now l.row-index
