use Rattle.vmv_text.proofs.Naming.{text_mentions, mentioned_count}
use Rattle.vmv_text.proofs.laws.names_are_mentions.Goals as goal

pub returns : goal.returns
returns c = record { order = text_mentions; count = mentioned_count }
