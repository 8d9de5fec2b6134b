use Rattle.vmv_command_laws.proofs.Words.{ask_alike}
use Rattle.vmv_command_laws.proofs.laws.words_that_name_another_number_ask_alike.Goals as goal

pub returns : goal.returns
returns c = ask_alike
