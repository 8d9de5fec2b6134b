use Rattle.vmv_words.proofs.OneService.{asks_service_few}
use Rattle.vmv_words.proofs.laws.services_are_done_by_few_workers.Goals as goal

pub returns : goal.returns
returns c = asks_service_few
