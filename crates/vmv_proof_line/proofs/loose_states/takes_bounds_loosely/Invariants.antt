use Rattle.std.proofs.Common.{List, []}
use Rattle.vmv_proof_text.specs.Loose.{SpelledBound}
use Rattle.vmv_proof_line.specs.LooseWords.{NextBound, things_of, spelled_triple}
use Rattle.vmv_proof_line.proofs.Climbing.{AreRead}
use Rattle.vmv_proof_line.proofs.loose_states.takes_bounds_loosely.Given as goal

abbrev pub invariant-loop : goal.invariant-loop
invariant-loop l = (read : List SpelledBound) × AreRead NextBound things_of spelled_triple ([], []) l.initial.words l.counter l.words (l.i, l.j) read
