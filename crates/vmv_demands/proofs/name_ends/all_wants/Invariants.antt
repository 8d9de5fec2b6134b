use Rattle.std.proofs.Common.{◌≡◌}
use Rattle.vmv_demands.specs.Ends.{first_entries_want}
use Rattle.vmv_demands.proofs.name_ends.all_wants.Given as goal

abbrev pub invariant-loop-n : goal.invariant-loop-n
invariant-loop-n l = l.wanted ≡ first_entries_want l.snapshot l.n
