use Rattle.std.proofs.Common.{List}
use Rattle.vmv_tree.specs.declared.tree.Param.{Param}
use Rattle.vmv_text.specs.declared.token.Token.TheVariants.{CloseParen}
use Rattle.vmv_text.specs.Grammar.{IsParam}
use Rattle.vmv_text.specs.Reading.{Any, CommasTo, Listed}
use Rattle.vmv_text.proofs.OneBlock.{param_close}
use Rattle.vmv_text.proofs.Steps.{carried}
use Rattle.vmv_text.proofs.CommaLists.{listed-none, listed-some}
use Rattle.vmv_text.proofs.cursor.Cursor.params.Goals as goal

pub returns-then-takes : goal.returns-then-takes
returns-then-takes c = rw c.new.ensures (listed-none IsParam param_close _ _ c.if-takes.ensures.tests)

pub returns : goal.returns
returns c =
    carried (Listed IsParam) (CommasTo CloseParen IsParam) Any (λ (x : List Param). x) c.some_params.result _ _ c.some_params.new.self (listed-some IsParam _ _ c.if-takes.ensures.tests) c.some_params.ensures
