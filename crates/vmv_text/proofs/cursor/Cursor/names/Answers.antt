use Rattle.std.proofs.Common.{List}
use Rattle.vmv_tree.specs.declared.name.Name.{Name}
use Rattle.vmv_text.specs.declared.token.Token.TheVariants.{CloseParen}
use Rattle.vmv_text.specs.Grammar.{IsName}
use Rattle.vmv_text.specs.Reading.{Any, CommasTo, Listed}
use Rattle.vmv_text.proofs.OneBlock.{name_close}
use Rattle.vmv_text.proofs.Steps.{carried}
use Rattle.vmv_text.proofs.CommaLists.{listed-none, listed-some}
use Rattle.vmv_text.proofs.cursor.Cursor.names.Goals as goal

pub returns-then-takes : goal.returns-then-takes
returns-then-takes c = rw c.new.ensures (listed-none IsName name_close _ _ c.if-takes.ensures.tests)

pub returns : goal.returns
returns c =
    carried (Listed IsName) (CommasTo CloseParen IsName) Any (λ (x : List Name). x) c.names_to.result _ _ c.names_to.new.self (listed-some IsName _ _ c.if-takes.ensures.tests) c.names_to.ensures
