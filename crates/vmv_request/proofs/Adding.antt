-- Values that are added to a list of them, and texts that are put together.
use Rattle.std.proofs.Common.{append_assoc}
use Rattle.std.proofs.lemmas.List.{append-nil, map-append}

pub ruleset adding = (append-nil, append_assoc, map-append)
