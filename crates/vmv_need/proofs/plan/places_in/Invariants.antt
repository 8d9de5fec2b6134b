use Rattle.std.proofs.Common.{◌≡◌, take}
use Rattle.std.specs.List.{flat_map}
use Rattle.vmv_need.specs.Candidates.{places_in}
use Rattle.vmv_need.proofs.plan.places_in.Given as goal

abbrev pub invariant-loop-subject : goal.invariant-loop-subject
invariant-loop-subject l = l.places.items ≡ flat_map places_in (take l.subject-index l.scope.subjects)
