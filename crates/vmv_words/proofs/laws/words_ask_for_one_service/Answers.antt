use Rattle.vmv_words.proofs.OneService.{asks_service_once}
use Rattle.vmv_words.proofs.laws.words_ask_for_one_service.Goals as goal

pub returns : goal.returns
returns c = asks_service_once
