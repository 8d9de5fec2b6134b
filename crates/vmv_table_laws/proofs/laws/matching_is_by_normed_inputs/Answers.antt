use Rattle.vmv_table_laws.proofs.Matching.{match_by_norm}
use Rattle.vmv_table_laws.proofs.laws.matching_is_by_normed_inputs.Goals as goal

pub returns : goal.returns
returns c = match_by_norm
