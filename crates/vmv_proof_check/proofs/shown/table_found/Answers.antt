use Rattle.std.proofs.Common.{List, sym, subst}
use Rattle.vmv_assumption.specs.Assumed.{cond_of}
use Rattle.vmv_cert.specs.declared.row.Row.{Row}
use Rattle.vmv_cert.specs.Tables.{Accepted}
use Rattle.vmv_proof_check.specs.Work.{IsTableFound}
use Rattle.vmv_proof_check.proofs.shown.table_found.Goals as goal

pub returns-in_ok-found-in-Ok : goal.returns-in_ok-found-in-Ok
returns-in_ok-found-in-Ok c =
    subst (λ (rows : List Row). IsTableFound c.args.revision.now (cond_of c.args.assumed.now) c.args.entry.0 rows c.in_ok-found-in-Ok.found) c.as_slice.ensures
    (c.in_ok-found-in-Ok.ensures (cond_of c.args.assumed.now) (subst (λ (rows : List Row). Accepted c.args.revision.now (cond_of c.args.assumed.now) rows) (sym c.as_slice.ensures) c.in-Ok.ensures.accepted))
