use Rattle.vmv_words.proofs.Few.{asks_few}
use Rattle.vmv_words.proofs.laws.words_ask_for_few_workers.Goals as goal

pub returns : goal.returns
returns c = asks_few
