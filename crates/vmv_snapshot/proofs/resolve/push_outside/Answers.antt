use Rattle.std.proofs.Common.{◌∙◌}
use Rattle.vmv_snapshot.proofs.Helpers.{insert_new}
use Rattle.vmv_snapshot.proofs.resolve.push_outside.Goals as goal

pub returns-clause-outsides : goal.returns-clause-outsides
returns-clause-outsides c = c.in_ok-insert.ensures.keys ∙ insert_new c.args.tables.now.outsides.keys c.args.name.now c.requires
