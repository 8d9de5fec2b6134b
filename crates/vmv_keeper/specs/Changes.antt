-- Which changes fit some rows, and what the rows are after them.
use Rattle.std.specs.Prelude.{◌≡◌, ℕ, ◌+◌, ◌≤◌, ◌<◌, ◌⊎◌, Bool, List, [], ◌∷◌, ◌++◌, length, None, unwrap_or, if◌then◌else◌, IsTrue, IsSome, IsSomeAnd, IsUtf8}
use Rattle.std.specs.Option.{option_map}
use Rattle.vmv_keeper.specs.declared.project.Project.{Project}
use Rattle.vmv_keeper.specs.declared.reply.VersionRow.{VersionRow}
use Rattle.vmv_keeper.specs.declared.reply.PendingRow.{PendingRow}
use Rattle.vmv_keeper.specs.declared.change.Change.{Change}
use Rattle.vmv_keeper.specs.declared.reply.Reply.{Reply}
use Rattle.vmv_keeper.specs.declared.reply.Reply.TheVariants.{Opened, Members, Submitted, Withdrawn, Accepted, Waived}
use Rattle.vmv_keeper.specs.declared.act.Act.{Act}
use Rattle.vmv_keeper.specs.declared.act.Act.TheVariants.{OpenProject, AddMember, Submit, Withdraw, Accept, Waive}
use Rattle.vmv_keeper.specs.Tables.{Tables, is_named, project_in, owned_count, is_member, is_submission, root_number, waiting_as, kept_under, reply_count}

-- a project as it is opened
abbrev pub opened : List ℕ → List ℕ → List ℕ → Project
opened caller name text =
    let row : VersionRow = record { number = 1; kind = 1; submission = 0; by = caller; against = 0 } in
    record { owner = caller; name = name; members = caller ∷ []; versions = record { row = row; text = text } ∷ []; next = 1; pending = [] }

-- one more member, where he isn't one
abbrev pub with_member : List ℕ → Project → Project
with_member member project =
    if is_member project member then project else record project { members = project.members ++ member ∷ [] }

-- one more submission, last in order
abbrev pub with_submission : List ℕ → List ℕ → Project → Project
with_submission caller text project =
    let row : PendingRow = record { submission = project.next; by = caller } in
    record project { pending = project.pending ++ record { row = row; text = text } ∷ []; next = project.next + 1 }

-- a list without the first element that passes the test
abbrev pub without : {X : Type 0} → (X → Bool) → List X → List X
without test [] = []
without test (x ∷ rest) = if test x then rest else x ∷ without test rest

abbrev pub without_submission : ℕ → Project → Project
without_submission number project = record project { pending = without (is_submission number) project.pending }

-- the text of a submission that waits
abbrev pub waiting_text : ℕ → Project → List ℕ
waiting_text number project = unwrap_or (option_map (λ waiting. waiting.text) (waiting_as number project)) []

-- one more version, which was the submission of this number
abbrev pub with_version : ℕ → ℕ → List ℕ → ℕ → Project → Project
with_version kind against caller number project =
    let row : VersionRow = record { number = length project.versions + 1; kind = kind; submission = number; by = caller; against = against } in
    record project { versions = project.versions ++ record { row = row; text = waiting_text number project } ∷ []; pending = without (is_submission number) project.pending }

-- the owner of the project that an act is about, and the project's name
abbrev pub owner_of : List ℕ → Act → List ℕ
owner_of caller (OpenProject name text) = caller
owner_of caller (AddMember owner project member) = owner
owner_of caller (Submit owner project text) = owner
owner_of caller (Withdraw owner project submission) = owner
owner_of caller (Accept owner project submission) = owner
owner_of caller (Waive owner project submission) = owner

abbrev pub name_of : Act → List ℕ
name_of (OpenProject name text) = name
name_of (AddMember owner project member) = project
name_of (Submit owner project text) = project
name_of (Withdraw owner project submission) = project
name_of (Accept owner project submission) = project
name_of (Waive owner project submission) = project

-- the project after an act on it
abbrev pub project_after : List ℕ → Act → Project → Project
project_after caller (OpenProject name text) p = p
project_after caller (AddMember owner project member) p = with_member member p
project_after caller (Submit owner project text) p = with_submission caller text p
project_after caller (Withdraw owner project submission) p = without_submission submission p
project_after caller (Accept owner project submission) p = with_version 2 (root_number p) caller submission p
project_after caller (Waive owner project submission) p = with_version 3 0 caller submission p

-- a list of which the first element that passes the test is changed
abbrev pub changed : {X : Type 0} → (X → Bool) → (X → X) → List X → List X
changed test f [] = []
changed test f (x ∷ rest) = if test x then f x ∷ rest else x ∷ changed test f rest

abbrev pub projects_after : List ℕ → Act → List Project → List Project
projects_after caller (OpenProject name text) projects = projects ++ opened caller name text ∷ []
projects_after caller act projects = changed (is_named (owner_of caller act) (name_of act)) (project_after caller act) projects

-- the rows after a change
abbrev pub after : Change → Tables → Tables
after change tables =
    record { projects = projects_after change.caller change.act tables.projects; replies = tables.replies ++ change ∷ [] }

-- what a project asks of an act on it
abbrev pub Allows : List ℕ → Act → Project → Type 0
Allows caller (OpenProject name text) p = ⊥
Allows caller (AddMember owner project member) p = (caller ≡ owner) × (IsTrue (is_member p member) ⊎ (length p.members < 64))
Allows caller (Submit owner project text) p = (length p.pending < 32) × (p.next ≤ 1000000) × IsUtf8 text
Allows caller (Withdraw owner project submission) p = IsSome (waiting_as submission p)
Allows caller (Accept owner project submission) p = IsSome (waiting_as submission p) × (length p.versions < 1024)
Allows caller (Waive owner project submission) p = (caller ≡ owner) × IsSome (waiting_as submission p) × (length p.versions < 1024)

-- the reply of an act that is done
abbrev pub reply_to : Act → Project → Reply
reply_to (OpenProject name text) p = Opened 1
reply_to (AddMember owner project member) p = Members (length (with_member member p).members)
reply_to (Submit owner project text) p = Submitted p.next
reply_to (Withdraw owner project submission) p = Withdrawn submission
reply_to (Accept owner project submission) p = Accepted (length p.versions + 1)
reply_to (Waive owner project submission) p = Waived (length p.versions + 1)

-- the number of the version that an act's submission is judged against: the root's for an accepted one, 0 for any other act
abbrev pub against_of : Act → Project → ℕ
against_of (OpenProject name text) p = 0
against_of (AddMember owner project member) p = 0
against_of (Submit owner project text) p = 0
against_of (Withdraw owner project submission) p = 0
against_of (Accept owner project submission) p = root_number p
against_of (Waive owner project submission) p = 0

-- an act fits some projects, has this reply, and was judged against the version of this number
abbrev pub ActFits : List Project → List ℕ → Act → Reply → ℕ → Type 0
ActFits projects caller (OpenProject name text) reply against =
    (project_in projects caller name ≡ None) × (owned_count projects caller < 64) × IsUtf8 text × (reply ≡ Opened 1) × (against ≡ 0)
ActFits projects caller act reply against =
    IsSomeAnd (project_in projects (owner_of caller act) (name_of act))
    (λ p. IsTrue (is_member p caller) × Allows caller act p × (reply ≡ reply_to act p) × (against ≡ against_of act p))

-- a change fits: its id is new, the caller has room for its reply, and its act fits
pub record Fits (tables : Tables) (change : Change) : Type 0 where
  pub new : kept_under tables change.caller change.id ≡ None
  pub room : reply_count tables change.caller < 100000
  pub act_fits : ActFits tables.projects change.caller change.act change.reply change.against
