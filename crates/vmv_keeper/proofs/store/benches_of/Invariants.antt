-- The benches so far are those of the projects so far.
use Rattle.std.proofs.Common.{◌≡◌, map, take}
use Rattle.vmv_keeper.specs.Tables.{bench_of}
use Rattle.vmv_keeper.proofs.store.benches_of.Given as goal

abbrev pub invariant-loop-project : goal.invariant-loop-project
invariant-loop-project l = l.benches ≡ map bench_of (take l.project-index l.projects)
