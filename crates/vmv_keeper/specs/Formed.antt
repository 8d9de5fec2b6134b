-- Which rows are well formed.
use Rattle.std.specs.Prelude.{◌≡◌, ℕ, ◌+◌, ◌≤◌, ◌<◌, ◌⊎◌, ◌&&◌, Bool, List, [], ◌∷◌, length, count_by, ⊤, IsUtf8}
use Rattle.std.specs.List.{AllByRecursion}
use Rattle.vmv_keeper.specs.declared.project.Project.{Project}
use Rattle.vmv_keeper.specs.declared.project.Bench.{Bench}
use Rattle.vmv_keeper.specs.declared.project.Held.{Held}
use Rattle.vmv_keeper.specs.declared.reply.VersionRow.{VersionRow}
use Rattle.vmv_keeper.specs.declared.reply.Reply.{Reply}
use Rattle.vmv_keeper.specs.declared.reply.Reply.TheVariants.{Opened, Members, Submitted, Withdrawn, Accepted, Waived}
use Rattle.vmv_keeper.specs.declared.act.Act.{Act}
use Rattle.vmv_keeper.specs.declared.act.Act.TheVariants.{OpenProject, AddMember, Submit, Withdraw, Accept, Waive}
use Rattle.vmv_keeper.specs.Tables.{Tables, is_same, is_named, project_count, reply_count, is_kept_under, bench_of, held_of}

-- numbers that rise, none below `low`
abbrev pub Rises : ℕ → List ℕ → Type 0
Rises low [] = ⊤
Rises low (number ∷ rest) = (low ≤ number) × Rises (number + 1) rest

-- rows that are numbered one after another
abbrev pub AreNumbered : ℕ → List VersionRow → Type 0
AreNumbered number [] = ⊤
AreNumbered number (row ∷ rest) = (row.number ≡ number) × AreNumbered (number + 1) rest

-- the first of some members
abbrev pub FirstIs : List ℕ → List (List ℕ) → Type 0
FirstIs owner [] = ⊥
FirstIs owner (member ∷ rest) = member ≡ owner

-- some versions, of which the first was opened
abbrev pub BeginOpened : List VersionRow → Type 0
BeginOpened [] = ⊥
BeginOpened (row ∷ rest) = row.kind ≡ 1

-- an accepted version or a waived one
abbrev pub IsLater : VersionRow → Type 0
IsLater row = (row.kind ≡ 2) ⊎ (row.kind ≡ 3)

-- versions of which all but the first were accepted or waived
abbrev pub AreLater : List VersionRow → Type 0
AreLater [] = ⊤
AreLater (row ∷ rest) = AllByRecursion IsLater rest

-- a project's members, versions and next number, within the limits
pub record IsHeld (owner : List ℕ) (held : Held) : Type 0 where
  pub owner_first : FirstIs owner held.members
  pub few_members : length held.members ≤ 64
  pub numbered : AreNumbered 1 held.versions
  pub opened : BeginOpened held.versions
  pub few_versions : length held.versions ≤ 1024
  pub begun : 1 ≤ held.next
  pub few_made : held.next ≤ 1000001

-- at most 32 numbers wait, which rise from 1 on
pub record IsBench (bench : Bench) : Type 0 where
  pub few : length bench.pending ≤ 32
  pub rising : Rises 1 bench.pending

abbrev pub is_bench_of : List ℕ → List ℕ → Bench → Bool
is_bench_of owner name bench = is_same bench.owner owner && is_same bench.name name

-- a bench for each project, no two for one owner and name
pub record AreBenches (benches : List Bench) : Type 0 where
  pub each : AllByRecursion IsBench benches
  pub distinct : (owner name : List ℕ) → count_by (is_bench_of owner name) benches ≤ 1

-- a project whose texts are UTF-8, too, whose pending numbers are below the next one, whose members are
-- distinct, and of whose versions the first alone was opened
pub record IsProject (project : Project) : Type 0 where
  pub held : IsHeld project.owner (held_of project)
  pub bench : IsBench (bench_of project)
  pub below : AllByRecursion (λ waiting. waiting.row.submission < project.next) project.pending
  pub texts : AllByRecursion (λ version. IsUtf8 version.text) project.versions
  pub pending_texts : AllByRecursion (λ waiting. IsUtf8 waiting.text) project.pending
  pub distinct : (label : List ℕ) → count_by (λ member. is_same member label) project.members ≤ 1
  pub later : AreLater (held_of project).versions

-- the reply has the variant of an act that was done
abbrev pub IsDone : Act → Reply → Type 0
IsDone (OpenProject name text) reply = (n : ℕ) × (reply ≡ Opened n)
IsDone (AddMember owner project member) reply = (n : ℕ) × (reply ≡ Members n)
IsDone (Submit owner project text) reply = (n : ℕ) × (reply ≡ Submitted n)
IsDone (Withdraw owner project submission) reply = (n : ℕ) × (reply ≡ Withdrawn n)
IsDone (Accept owner project submission) reply = (n : ℕ) × (reply ≡ Accepted n)
IsDone (Waive owner project submission) reply = (n : ℕ) × (reply ≡ Waived n)

-- well formed rows: keys are distinct, and counts are within the limits
pub record AreFormed (tables : Tables) : Type 0 where
  pub each : AllByRecursion IsProject tables.projects
  pub distinct : (owner name : List ℕ) → count_by (is_named owner name) tables.projects ≤ 1
  pub few_projects : (owner : List ℕ) → project_count tables owner ≤ 64
  pub done : AllByRecursion (λ change. IsDone change.act change.reply) tables.replies
  pub one_each : (caller id : List ℕ) → count_by (is_kept_under caller id) tables.replies ≤ 1
  pub few_replies : (caller : List ℕ) → reply_count tables caller ≤ 100000
