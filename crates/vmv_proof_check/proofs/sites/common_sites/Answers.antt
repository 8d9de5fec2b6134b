use Rattle.vmv_proof_check.proofs.Founding.{found_start, found_next, found_all}
use Rattle.vmv_proof_check.proofs.sites.common_sites.Goals as goal

pub loop-row-init : goal.loop-row-init
loop-row-init c = λ program number box named is. found_start program number box c.args.rows.now

pub loop-row-preserved : goal.loop-row-preserved
loop-row-preserved c = λ program number box named is.
    found_next program number box c.args.rows.now c.loop-row.row-index c.row-item.result c.loop-row.found c.in_ok-found.found c.loop-row-test.true c.row-item.is (c.loop-row.invariant program number box named is) (c.in_ok-found.ensures program number box named is)

pub returns : goal.returns
returns c = λ program number box named is. found_all program number box c.args.rows.now c.loop-row.row-index c.loop-row.found c.loop-row-test.false (c.loop-row.invariant program number box named is)
