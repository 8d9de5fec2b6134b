use Rattle.vmv_words.proofs.Once.{asks_once}
use Rattle.vmv_words.proofs.laws.words_ask_for_one_thing.Goals as goal

pub returns : goal.returns
returns c = asks_once
