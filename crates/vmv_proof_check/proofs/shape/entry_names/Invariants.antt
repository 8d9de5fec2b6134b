use Rattle.std.proofs.Common.{◌≡◌, filter, map, take}
use Rattle.vmv_tree.specs.Run.{name_of}
use Rattle.vmv_snapshot.specs.Procs.{is_entry}
use Rattle.vmv_snapshot.specs.Resolution.{procs_of}
use Rattle.vmv_proof_check.proofs.shape.entry_names.Given as goal

abbrev pub invariant-loop-number : goal.invariant-loop-number
invariant-loop-number l = l.names.items ≡ map name_of (filter is_entry (take l.number (procs_of l.snapshot)))
