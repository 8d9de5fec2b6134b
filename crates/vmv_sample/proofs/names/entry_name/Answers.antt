use Rattle.std.proofs.Common.{rules}
use Rattle.vmv_sample.proofs.Naming.{entry_named}
use Rattle.vmv_sample.proofs.names.entry_name.Goals as goal

-- src/names.rt:34:8
pub name-requires : goal.name-requires
name-requires c = search (rules, entry_named c.args.number c.requires)
