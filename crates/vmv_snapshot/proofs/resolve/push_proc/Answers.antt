use Rattle.std.proofs.Common.{◌∙◌, refl}
use Rattle.vmv_snapshot.proofs.Helpers.{insert_new}
use Rattle.vmv_snapshot.proofs.resolve.push_proc.Goals as goal

pub returns : goal.returns
returns c = record {
  outsides = refl;
  names = c.in_ok-insert.ensures.keys ∙ insert_new c.args.tables.now.names.keys c.args.proc.name c.requires;
  procs = c.in_ok-push.ensures.items;
}
