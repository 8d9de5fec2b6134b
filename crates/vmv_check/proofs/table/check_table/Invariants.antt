use Rattle.vmv_assumption.specs.Assumed.{cond_of}
use Rattle.vmv_cert.specs.Tables.{Passes}
use Rattle.vmv_check.proofs.Lists.{Upto}
use Rattle.vmv_check.proofs.table.check_table.Given as goal

abbrev pub invariant-loop-i : goal.invariant-loop-i
invariant-loop-i l = Upto (Passes l.snapshot (cond_of l.assumed) l.rows) l.rows l.i
