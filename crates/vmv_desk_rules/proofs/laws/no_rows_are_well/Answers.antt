-- No rows are well.
use Rattle.vmv_keeper.specs.Tables.{no_rows}
use Rattle.vmv_desk_rules.specs.Causes.{Meaning}
use Rattle.vmv_desk_rules.specs.Well.{Well}
use Rattle.vmv_desk_rules.proofs.BegunLemmas.{Well-none}
use Rattle.vmv_desk_rules.proofs.HeardLemmas.{by_any}
use Rattle.vmv_desk_rules.proofs.laws.no_rows_are_well.Goals as goal

pub returns : goal.returns
returns g c =
    let judge = c.args._judge.now in
    let I = g.J.Judge.inspected judge in
    let C = g.J.Judge.compared judge in
    by_any I C (λ M. Well M no_rows) Well-none
