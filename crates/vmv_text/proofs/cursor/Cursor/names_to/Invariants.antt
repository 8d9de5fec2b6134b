use Rattle.std.proofs.Common.{length}
use Rattle.vmv_text.specs.Symbols.{as_token}
use Rattle.vmv_text.specs.Grammar.{IsName}
use Rattle.vmv_text.proofs.CommaLists.{Reading}
use Rattle.vmv_text.proofs.cursor.Cursor.names_to.Given as goal

abbrev pub invariant-loop-names : goal.invariant-loop-names
invariant-loop-names l = Reading (as_token l.last) IsName l.initial.self l.names l.self

abbrev pub decreases-loop-names : goal.decreases-loop-names
decreases-loop-names l = length l.self
