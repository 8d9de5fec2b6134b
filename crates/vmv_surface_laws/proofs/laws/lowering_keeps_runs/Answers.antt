use Rattle.vmv_surface_laws.proofs.Programs.{run_to, run_from}
use Rattle.vmv_surface_laws.proofs.laws.lowering_keeps_runs.Goals as goal

pub returns : goal.returns
returns c = record { lowered = run_to; surface = run_from }
