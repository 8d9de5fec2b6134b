use Rattle.std.proofs.Common.{length}
use Rattle.vmv_text.specs.declared.token.Token.TheVariants.{CloseParen}
use Rattle.vmv_text.specs.Grammar.{IsParam}
use Rattle.vmv_text.proofs.CommaLists.{Reading}
use Rattle.vmv_text.proofs.cursor.Cursor.some_params.Given as goal

abbrev pub invariant-loop-params : goal.invariant-loop-params
invariant-loop-params l = Reading CloseParen IsParam l.initial.self l.params l.self

abbrev pub decreases-loop-params : goal.decreases-loop-params
decreases-loop-params l = length l.self
