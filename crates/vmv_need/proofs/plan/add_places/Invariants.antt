use Rattle.std.proofs.Common.{◌≡◌, ◌++◌, map, take}
use Rattle.vmv_cert.specs.Tables.{Box}
use Rattle.vmv_need.proofs.plan.add_places.Given as goal

abbrev pub invariant-loop-within : goal.invariant-loop-within
invariant-loop-within l =
    l.places.items ≡ l.initial.places.items ++ map (λ (box : Box). (l.subject.entry, box)) (take l.within-index l.subject.boxes)
