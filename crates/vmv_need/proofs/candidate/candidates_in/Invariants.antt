use Rattle.std.proofs.Common.{◌≡◌, take}
use Rattle.std.specs.List.{flat_map}
use Rattle.vmv_need.specs.Candidates.{of_subject}
use Rattle.vmv_need.proofs.candidate.candidates_in.Given as goal

abbrev pub invariant-loop-subject : goal.invariant-loop-subject
invariant-loop-subject l = l.candidates.items ≡ flat_map of_subject (take l.subject-index l.scope.subjects)
