use Rattle.vmv_witness_laws.proofs.Fitting.{fits_once}
use Rattle.vmv_witness_laws.proofs.laws.a_witness_fits_in_one_way.Goals as goal

pub returns : goal.returns
returns c = fits_once
