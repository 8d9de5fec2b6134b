use Rattle.vmv_zone.proofs.WordOrder.{word_mono}
use Rattle.vmv_zone.proofs.laws.assign_is_monotone_in_the_words.Goals as goal

pub returns : goal.returns
returns c = word_mono
