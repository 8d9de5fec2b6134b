-- The rows that a store holds, and what is found in them.
use Rattle.std.specs.Prelude.{ℕ, ◌==◌, ◌&&◌, ◌||◌, nat_eq, Bool, List, [], ◌∷◌, map, find, count_by, Option, option_and_then, if◌then◌else◌}
use Rattle.std.specs.Option.{option_map}
use Rattle.std.specs.List.{list_any}
use Rattle.std.specs.Cmp.Lexicographic.{pointwise}
use Rattle.vmv_keeper.specs.declared.project.Project.{Project}
use Rattle.vmv_keeper.specs.declared.project.Version.{Version}
use Rattle.vmv_keeper.specs.declared.project.Waiting.{Waiting}
use Rattle.vmv_keeper.specs.declared.project.Bench.{Bench}
use Rattle.vmv_keeper.specs.declared.project.Held.{Held}
use Rattle.vmv_keeper.specs.declared.project.Submitted.{Submitted}
use Rattle.vmv_keeper.specs.declared.reply.VersionRow.{VersionRow}
use Rattle.vmv_keeper.specs.declared.change.Change.{Change}
use Rattle.vmv_keeper.specs.declared.change.Kept.{Kept}

-- the projects, and the changes that were made, each with its reply
pub record Tables : Type 0 where
  pub projects : List Project
  pub replies : List Change

-- no rows
abbrev pub no_rows : Tables
no_rows = record { projects = []; replies = [] }

-- two labels have the same bytes
abbrev pub is_same : List ℕ → List ℕ → Bool
is_same a b = pointwise nat_eq a b

abbrev pub is_named : List ℕ → List ℕ → Project → Bool
is_named owner name project = is_same project.owner owner && is_same project.name name

abbrev pub project_in : List Project → List ℕ → List ℕ → Option Project
project_in projects owner name = find (is_named owner name) projects

-- the project of this owner and name
abbrev pub project_named : Tables → List ℕ → List ℕ → Option Project
project_named tables owner name = project_in tables.projects owner name

abbrev pub owned_count : List Project → List ℕ → ℕ
owned_count projects owner = count_by (λ project. is_same project.owner owner) projects

-- how many projects an owner has
abbrev pub project_count : Tables → List ℕ → ℕ
project_count tables owner = owned_count tables.projects owner

abbrev pub is_member : Project → List ℕ → Bool
is_member project caller = list_any (λ member. is_same member caller) project.members

abbrev pub is_version : ℕ → Version → Bool
is_version number version = version.row.number == number

abbrev pub version_of : ℕ → Project → Option Version
version_of number project = find (is_version number) project.versions

-- the text of the version of this number
abbrev pub version_text : ℕ → Project → Option (List ℕ)
version_text number project = option_map (λ version. version.text) (version_of number project)

-- a version that was opened or waived
abbrev pub is_root : VersionRow → Bool
is_root row = row.kind == 1 || row.kind == 3

-- the number of the latest root, which was this one before some versions
abbrev pub root_after : ℕ → List VersionRow → ℕ
root_after root [] = root
root_after root (row ∷ rest) = root_after (if is_root row then row.number else root) rest

-- the number of a project's latest root
abbrev pub root_number : Project → ℕ
root_number project = root_after 0 (map (λ version. version.row) project.versions)

abbrev pub is_submission : ℕ → Waiting → Bool
is_submission number waiting = waiting.row.submission == number

-- the submission of this number, where it waits
abbrev pub waiting_as : ℕ → Project → Option Waiting
waiting_as number project = find (is_submission number) project.pending

abbrev pub is_kept_under : List ℕ → List ℕ → Change → Bool
is_kept_under caller id change = is_same change.caller caller && is_same change.id id

abbrev pub change_under : List Change → List ℕ → List ℕ → Option Change
change_under replies caller id = find (is_kept_under caller id) replies

-- the change that was made under a caller's id
abbrev pub kept_under : Tables → List ℕ → List ℕ → Option Change
kept_under tables caller id = change_under tables.replies caller id

-- how many replies are kept for a caller
abbrev pub reply_count : Tables → List ℕ → ℕ
reply_count tables caller = count_by (λ change. is_same change.caller caller) tables.replies

-- what a store answers of its rows

abbrev pub bench_of : Project → Bench
bench_of project = record { owner = project.owner; name = project.name; pending = map (λ waiting. waiting.row.submission) project.pending }

abbrev pub benches_in : Tables → List Bench
benches_in tables = map bench_of tables.projects

abbrev pub held_of : Project → Held
held_of project = record { members = project.members; versions = map (λ version. version.row) project.versions; next = project.next }

abbrev pub held_in : List ℕ → List ℕ → Tables → Option Held
held_in owner name tables = option_map held_of (project_named tables owner name)

abbrev pub text_in : List ℕ → List ℕ → ℕ → Tables → Option (List ℕ)
text_in owner name number tables = option_and_then (version_text number) (project_named tables owner name)

abbrev pub submitted_of : Waiting → Submitted
submitted_of waiting = record { by = waiting.row.by; text = waiting.text }

abbrev pub submission_in : List ℕ → List ℕ → ℕ → Tables → Option Submitted
submission_in owner name number tables =
    option_and_then (λ project. option_map submitted_of (waiting_as number project)) (project_named tables owner name)

abbrev pub kept_of : Change → Kept
kept_of change = record { act = change.act; reply = change.reply }

abbrev pub kept_in : List ℕ → List ℕ → Tables → Option Kept
kept_in caller id tables = option_map kept_of (kept_under tables caller id)
