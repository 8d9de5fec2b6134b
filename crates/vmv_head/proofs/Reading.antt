-- Bytes that are read at a place, and lines that are counted.
use Rattle.std.proofs.Math.Seq.{drop-length}
use Rattle.std.proofs.lemmas.List.{get_or-drop, length-map}
use Rattle.vmv_head.proofs.Moving.{blank_more, blank_done}

pub ruleset reading = (get_or-drop)

pub ruleset blanks = (blank_more, blank_done, drop-length)

pub ruleset counting = (length-map)
