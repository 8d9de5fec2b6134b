-- The path of a target, and its parts.
use Rattle.std.specs.Prelude.{ℕ, zero, suc, ◌==◌, Bool, List, [], ◌∷◌, Option, Some, None, length, nat_le, nat_lt, ◌&&◌, ◌^◌, if◌then◌else◌}
use Rattle.std.specs.Option.{option_map, option_and_then}
use Rattle.std.specs.Str.Parse.{digits_value}
use Rattle.vmv_keeper.specs.Label.{is_label}
use Rattle.vmv_head.specs.Lines.{is_digits}
use Rattle.vmv_routes.specs.declared.path.ProjectPath.{ProjectPath}
use Rattle.vmv_routes.specs.declared.path.SubmissionPath.{SubmissionPath}

-- what stands in front of the first byte of this kind; all, where there is none
abbrev pub before : ℕ → List ℕ → List ℕ
before stop [] = []
before stop (b ∷ rest) = if b == stop then [] else b ∷ before stop rest

-- what stands behind the first byte of this kind; nothing, where there is none
abbrev pub behind : ℕ → List ℕ → List ℕ
behind stop [] = []
behind stop (b ∷ rest) = if b == stop then rest else behind stop rest

abbrev pub question_mark : ℕ
question_mark = 63

abbrev pub slash : ℕ
slash = 47

-- the path of a target: up to its first question mark
abbrev pub path_of : List ℕ → List ℕ
path_of target = before question_mark target

-- a path's part of this number, from 0 on: what stands between its slashes
abbrev pub part_of : ℕ → List ℕ → List ℕ
part_of zero path = before slash path
part_of (suc n) path = part_of n (behind slash path)

-- a part that is a label
abbrev pub label_in : List ℕ → Option (List ℕ)
label_in part = if is_label part then Some part else None

-- 1 to 10 digits of a number below 2^32
abbrev pub is_number : List ℕ → Bool
is_number part = is_digits part && (nat_le (length part) 10 && nat_lt (digits_value 10 part) (2 ^ 32))

-- the number that a part writes
abbrev pub number_in : List ℕ → Option ℕ
number_in part = if is_number part then Some (digits_value 10 part) else None

-- the project that a path names by its owner and its name, where both are labels
abbrev pub project_in : List ℕ → Option ProjectPath
project_in path =
    option_and_then (λ owner. option_map (λ project. record { owner = owner; project = project }) (label_in (part_of 3 path))) (label_in (part_of 2 path))

-- and the submission that it names
abbrev pub submission_in : List ℕ → Option SubmissionPath
submission_in path =
    option_and_then (λ p. option_map (λ n. record { owner = p.owner; project = p.project; submission = n }) (number_in (part_of 5 path))) (project_in path)
