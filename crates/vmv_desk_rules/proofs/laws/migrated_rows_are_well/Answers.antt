-- Migrated rows are well.
use Rattle.vmv_desk_rules.specs.Causes.{Meaning}
use Rattle.vmv_desk_rules.specs.Well.{Well}
use Rattle.vmv_desk_rules.specs.Migrating.{WasWell}
use Rattle.vmv_desk_rules.proofs.MigratingLemmas.{Well-migrated}
use Rattle.vmv_desk_rules.proofs.HeardLemmas.{by_map}
use Rattle.vmv_desk_rules.proofs.laws.migrated_rows_are_well.Goals as goal

pub returns : goal.returns
returns g c tables was migrated =
    let judge = c.args._judge.now in
    let I = g.J.Judge.inspected judge in
    let C = g.J.Judge.compared judge in
    by_map I C (λ M. WasWell M tables) (λ M. Well M tables) (λ M w. Well-migrated M tables w migrated) was
