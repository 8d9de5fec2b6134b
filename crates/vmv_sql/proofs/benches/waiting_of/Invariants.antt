-- The numbers so far rise, and none is above the last one.
use Rattle.std.proofs.Common.{◌≡◌, ◌≤◌, length}
use Rattle.std.specs.List.{AllByRecursion}
use Rattle.vmv_keeper.specs.Formed.{Rises}
use Rattle.vmv_sql.proofs.benches.waiting_of.Given as goal

abbrev pub invariant-loop-row : goal.invariant-loop-row
invariant-loop-row l = record { count : length l.numbers ≡ l.row-index; rising : Rises 1 l.numbers; upto : AllByRecursion (λ n. n ≤ l.last) l.numbers }
