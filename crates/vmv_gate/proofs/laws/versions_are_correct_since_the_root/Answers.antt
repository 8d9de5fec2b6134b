-- The gate is a judge.
use Rattle.vmv_gate.proofs.laws.versions_are_correct_since_the_root.Goals as goal

pub returns : goal.returns
returns g c = c.well_rows_keep_chains.ensures
