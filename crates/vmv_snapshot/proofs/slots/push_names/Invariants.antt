use Rattle.std.proofs.Common.{◌≡◌, ◌++◌, Some, map, take}
use Rattle.vmv_snapshot.proofs.slots.push_names.Given as goal

abbrev pub invariant-loop-name : goal.invariant-loop-name
invariant-loop-name l = l.slots.items ≡ l.initial.slots.items ++ map (λ name. Some name) (take l.name-index l.names)
