use Rattle.vmv_words.proofs.OneService.{asks_no_service_beside}
use Rattle.vmv_words.proofs.laws.words_ask_for_no_service_beside.Goals as goal

pub returns : goal.returns
returns c = asks_no_service_beside
