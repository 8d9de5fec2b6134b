use Rattle.std.proofs.Common.{List}
use Rattle.vmv_tree.specs.declared.tree.Operand.{Operand}
use Rattle.vmv_text.specs.declared.token.Token.TheVariants.{CloseParen}
use Rattle.vmv_text.specs.Grammar.{IsOperand}
use Rattle.vmv_text.specs.Reading.{Any, CommasTo, Listed}
use Rattle.vmv_text.proofs.OneBlock.{operand_close}
use Rattle.vmv_text.proofs.Steps.{carried}
use Rattle.vmv_text.proofs.CommaLists.{listed-none, listed-some}
use Rattle.vmv_text.proofs.cursor.Cursor.operands.Goals as goal

pub returns-then-takes : goal.returns-then-takes
returns-then-takes c = rw c.new.ensures (listed-none IsOperand operand_close _ _ c.if-takes.ensures.tests)

pub returns : goal.returns
returns c =
    carried (Listed IsOperand) (CommasTo CloseParen IsOperand) Any (λ (x : List Operand). x) c.some_operands.result _ _ c.some_operands.new.self (listed-some IsOperand _ _ c.if-takes.ensures.tests) c.some_operands.ensures
