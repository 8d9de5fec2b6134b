use Rattle.std.proofs.Common.{length}
use Rattle.vmv_text.specs.declared.token.Token.TheVariants.{CloseParen}
use Rattle.vmv_text.specs.Grammar.{IsOperand}
use Rattle.vmv_text.proofs.CommaLists.{Reading}
use Rattle.vmv_text.proofs.cursor.Cursor.some_operands.Given as goal

abbrev pub invariant-loop-args : goal.invariant-loop-args
invariant-loop-args l = Reading CloseParen IsOperand l.initial.self l.args l.self

abbrev pub decreases-loop-args : goal.decreases-loop-args
decreases-loop-args l = length l.self
