-- What is found of a project in its rows at hand, without its texts.
use Rattle.std.specs.Prelude.{◌≡◌, ◌≢◌, ◌⊎◌, ◌==◌, ◌+◌, ◌&&◌, ℕ, Bool, List, [], ◌∷◌, ◌++◌, length, not, nat_le, nat_lt, Option, Some, None, IsSome, ⊤, if◌then◌else◌}
use Rattle.std.specs.List.{list_any}
use Rattle.vmv_keeper.specs.declared.project.Project.{Project}
use Rattle.vmv_keeper.specs.declared.project.Held.{Held}
use Rattle.vmv_keeper.specs.declared.project.Bench.{Bench}
use Rattle.vmv_keeper.specs.declared.act.Act.{Act}
use Rattle.vmv_keeper.specs.declared.act.Act.TheVariants.{OpenProject, AddMember, Submit, Withdraw, Accept, Waive}
use Rattle.vmv_keeper.specs.declared.reply.Reply.{Reply}
use Rattle.vmv_keeper.specs.declared.reply.Reply.TheVariants.{Opened, Members, Submitted, Withdrawn, Accepted, Waived, NotFound, NotAllowed, Full, IdReused}
use Rattle.vmv_keeper.specs.Tables.{Tables, is_same, root_after, project_named, waiting_as, held_of, benches_in}
use Rattle.vmv_keeper.specs.Outside.{OfTold}
use Rattle.vmv_keeper.specs.Formed.{is_bench_of}
use Rattle.vmv_keeper.specs.Changes.{changed}
use Rattle.vmv_desk_rules.specs.Causes.{Meaning, cause_if}
use Rattle.vmv_desk_rules.specs.Step.{Step}
use Rattle.vmv_desk_rules.specs.declared.outcome.Effect.{Effect}
use Rattle.vmv_keeper.specs.declared.change.Kept.{Kept}
use Rattle.vmv_keeper.specs.declared.act.Command.{Command}
use Rattle.vmv_desk.specs.Queues.{with_number, without_number}

-- the queues are those of the rows, where these are told
abbrev pub Agrees : Option Tables → List Bench → Type 0
Agrees told queues = OfTold told (λ tables. queues ≡ benches_in tables)

-- the first cause that comes
abbrev pub first_cause : List (Option Reply) → Option Reply
first_cause [] = None
first_cause (None ∷ causes) = first_cause causes
first_cause (Some cause ∷ causes) = Some cause

abbrev pub has_member : Held → List ℕ → Bool
has_member held caller = list_any (λ member. is_same member caller) held.members

abbrev pub is_queued : Bench → ℕ → Bool
is_queued queue submission = list_any (λ n. n == submission) queue.pending

-- the causes against an act that a project's rows show
abbrev pub causes_at : List ℕ → Act → Held → Bench → List (Option Reply)
causes_at caller (OpenProject name text) held queue = []
causes_at caller (AddMember owner project member) held queue =
    cause_if (not (is_same caller owner)) NotAllowed
    ∷ cause_if (not (has_member held member) && nat_le 64 (length held.members)) (Full 3) ∷ []
causes_at caller (Submit owner project text) held queue =
    cause_if (nat_le 32 (length queue.pending)) (Full 4) ∷ cause_if (nat_lt 1000000 held.next) (Full 5) ∷ []
causes_at caller (Withdraw owner project submission) held queue = cause_if (not (is_queued queue submission)) NotFound ∷ []
causes_at caller (Accept owner project submission) held queue =
    cause_if (not (is_queued queue submission)) NotFound ∷ cause_if (nat_le 1024 (length held.versions)) (Full 6) ∷ []
causes_at caller (Waive owner project submission) held queue =
    cause_if (not (is_same caller owner)) NotAllowed ∷ cause_if (not (is_queued queue submission)) NotFound
    ∷ cause_if (nat_le 1024 (length held.versions)) (Full 6) ∷ []

-- the reply of an act that is done
abbrev pub reply_at : Act → Held → Reply
reply_at (OpenProject name text) held = Opened 1
reply_at (AddMember owner project member) held = Members (if has_member held member then length held.members else length held.members + 1)
reply_at (Submit owner project text) held = Submitted held.next
reply_at (Withdraw owner project submission) held = Withdrawn submission
reply_at (Accept owner project submission) held = Accepted (length held.versions + 1)
reply_at (Waive owner project submission) held = Waived (length held.versions + 1)

-- the number of the version that it was judged against
abbrev pub against_at : Act → Held → ℕ
against_at (OpenProject name text) held = 0
against_at (AddMember owner project member) held = 0
against_at (Submit owner project text) held = 0
against_at (Withdraw owner project submission) held = 0
against_at (Accept owner project submission) held = root_after 0 held.versions
against_at (Waive owner project submission) held = 0

-- what an act leaves that is done
abbrev pub effect_at : Act → Held → Effect
effect_at act held = record { reply = reply_at act held; against = against_at act held }

-- what holds of the project that is at hand, where the rows are told
abbrev pub OfHeld : Option Tables → List ℕ → List ℕ → Held → (Project → Type 0) → Type 0
OfHeld told owner name held P = OfTold told (λ tables. (p : Project) → project_named tables owner name ≡ Some p → held ≡ held_of p → P p)

-- an act on a project that is there
abbrev pub IsOnProject : Act → Type 0
IsOnProject (OpenProject name text) = ⊥
IsOnProject (AddMember owner project member) = ⊤
IsOnProject (Submit owner project text) = ⊤
IsOnProject (Withdraw owner project submission) = ⊤
IsOnProject (Accept owner project submission) = ⊤
IsOnProject (Waive owner project submission) = ⊤

-- the submission that an act moves is there
abbrev pub Waits : Act → Project → Type 0
Waits (OpenProject name text) p = ⊤
Waits (AddMember owner project member) p = ⊤
Waits (Submit owner project text) p = ⊤
Waits (Withdraw owner project submission) p = ⊤
Waits (Accept owner project submission) p = IsSome (waiting_as submission p)
Waits (Waive owner project submission) p = IsSome (waiting_as submission p)

-- the number in the reply to a submission
abbrev pub submitted_number : Reply → ℕ
submitted_number (Submitted submission) = submission
submitted_number _ = 0

-- the queues after an act that was done with this reply
abbrev pub queues_after : List ℕ → Act → Reply → List Bench → List Bench
queues_after caller (OpenProject name text) reply queues = queues ++ record { owner = caller; name = name; pending = [] } ∷ []
queues_after caller (AddMember owner project member) reply queues = queues
queues_after caller (Submit owner project text) reply queues = changed (is_bench_of owner project) (with_number (submitted_number reply)) queues
queues_after caller (Withdraw owner project submission) reply queues = changed (is_bench_of owner project) (without_number submission) queues
queues_after caller (Accept owner project submission) reply queues = changed (is_bench_of owner project) (without_number submission) queues
queues_after caller (Waive owner project submission) reply queues = changed (is_bench_of owner project) (without_number submission) queues

-- the reply to an act whose id is kept
abbrev pub IsKept : Kept → Act → Reply → Type 0
IsKept kept act reply = ((kept.act ≡ act) × (reply ≡ kept.reply)) ⊎ ((kept.act ≢ act) × (reply ≡ IdReused))

-- where the rows are told, those after the command and its reply are its step's; where not, they aren't told then either
abbrev pub IsStepped : Meaning → Option Tables → Command → Option Tables → Reply → Type 0
IsStepped J None command told reply = told ≡ None
IsStepped J (Some tables) command told reply = (new : Tables) × (told ≡ Some new) × Step J tables command new reply
