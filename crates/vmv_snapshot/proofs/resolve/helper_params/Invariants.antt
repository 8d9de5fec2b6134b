use Rattle.std.proofs.Common.{◌≡◌, map, take}
use Rattle.vmv_snapshot.specs.Procs.{any_word}
use Rattle.vmv_snapshot.proofs.resolve.helper_params.Given as goal

abbrev pub invariant-loop-name : goal.invariant-loop-name
invariant-loop-name l = l.params ≡ map any_word (take l.name-index l.names)
