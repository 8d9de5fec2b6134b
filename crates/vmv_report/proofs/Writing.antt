-- Texts that are put together.
use Rattle.std.proofs.Common.{append_assoc}
use Rattle.std.proofs.lemmas.List.{append-nil}

pub ruleset writing = (append-nil, append_assoc)
