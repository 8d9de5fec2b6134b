use Rattle.vmv_sample.proofs.Short.{texts_short}
use Rattle.vmv_sample.proofs.laws.sample_texts_are_short.Goals as goal

pub returns : goal.returns
returns c = texts_short
