use Rattle.std.proofs.Common.{List}
use Rattle.vmv_tree.specs.declared.name.Name.{Name}
use Rattle.vmv_text.specs.declared.token.Token.TheVariants.{Semicolon}
use Rattle.vmv_text.specs.Grammar.{IsName, IsVars}
use Rattle.vmv_text.specs.Reading.{NoVar, CommasTo}
use Rattle.vmv_text.proofs.Steps.{carried}
use Rattle.vmv_text.proofs.Items.{vars-declared, vars-absent, unvaried}
use Rattle.vmv_text.proofs.cursor.Cursor.vars.Goals as goal

pub returns-then-takes : goal.returns-then-takes
returns-then-takes c =
    carried IsVars (CommasTo Semicolon IsName) NoVar (λ (x : List Name). x) c.names_to.result _ _ c.names_to.new.self (vars-declared _ _ c.if-takes.ensures.tests)
    (unvaried c.names_to.result _ _ c.names_to.ensures)

pub returns : goal.returns
returns c = rw c.new.ensures (vars-absent _ _ c.if-takes.ensures.tests)
