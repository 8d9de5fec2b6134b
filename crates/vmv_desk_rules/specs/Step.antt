-- What a command does: the rows after it, and its reply.
use Rattle.std.specs.Prelude.{◌≡◌, ◌≢◌, ◌⊎◌, ℕ, List, map, length, codes, Option, Some, None, is_some, if◌then◌else◌}
use Rattle.vmv_keeper.specs.declared.project.Project.{Project}
use Rattle.vmv_keeper.specs.declared.change.Change.{Change}
use Rattle.vmv_keeper.specs.declared.act.Act.{Act}
use Rattle.vmv_keeper.specs.declared.act.Query.{Query}
use Rattle.vmv_keeper.specs.declared.act.Query.TheVariants.{ReportOf, Base as BaseOf, History as HistoryOf, Pending as PendingOf}
use Rattle.vmv_keeper.specs.declared.act.Command.{Command}
use Rattle.vmv_keeper.specs.declared.act.Command.TheVariants.{Change as ToChange, Ask}
use Rattle.vmv_keeper.specs.declared.reply.Reply.{Reply}
use Rattle.vmv_keeper.specs.declared.reply.Reply.TheVariants.{Report, Base, History, Pending, NotFound, IdReused, StoreFault, Memory}
use Rattle.vmv_keeper.specs.declared.judge.Compared.{Compared}
use Rattle.vmv_keeper.specs.declared.judge.Compared.TheVariants.{Judged, Unreadable}
use Rattle.vmv_keeper.specs.Tables.{Tables, is_member, root_number, waiting_as, project_named, kept_under}
use Rattle.vmv_keeper.specs.Changes.{after, waiting_text}
use Rattle.vmv_desk_rules.specs.declared.outcome.Outcome.{Outcome}
use Rattle.vmv_desk_rules.specs.declared.outcome.Outcome.TheVariants.{Done, NotDone}
pub use Rattle.vmv_desk_rules.specs.Causes.{Meaning, base_text, root_text, outcome}

-- the report on a submission against the version of this number, which is empty where a text doesn't parse
abbrev pub report_of : ℕ → Compared → Reply
report_of against (Judged verdict json) = Report verdict json against
report_of against (Unreadable which) = Report 0 (codes "{}") against

-- what a member is told of a project
abbrev pub told_of : Meaning → Query → Project → Reply
told_of J (ReportOf owner project submission) p =
    if is_some (waiting_as submission p) then report_of (root_number p) (J.compared (root_text p) (waiting_text submission p)) else NotFound
told_of J (BaseOf owner project) p = Base (length p.versions) (base_text p)
told_of J (HistoryOf owner project) p = History (map (λ version. version.row) p.versions)
told_of J (PendingOf owner project) p = Pending (map (λ waiting. waiting.row) p.pending)

abbrev pub asked_owner : Query → List ℕ
asked_owner (ReportOf owner project submission) = owner
asked_owner (BaseOf owner project) = owner
asked_owner (HistoryOf owner project) = owner
asked_owner (PendingOf owner project) = owner

abbrev pub asked_name : Query → List ℕ
asked_name (ReportOf owner project submission) = project
asked_name (BaseOf owner project) = project
asked_name (HistoryOf owner project) = project
asked_name (PendingOf owner project) = project

-- what is told of the project, should there be one: who isn't a member is told of none
abbrev pub answer_on : Meaning → List ℕ → Query → Option Project → Reply
answer_on J caller query None = NotFound
answer_on J caller query (Some p) = if is_member p caller then told_of J query p else NotFound

abbrev pub answer : Meaning → Tables → List ℕ → Query → Reply
answer J tables caller query = answer_on J caller query (project_named tables (asked_owner query) (asked_name query))

-- the id is kept: the same act has the kept reply, and another act none
abbrev pub IsRepeated : Change → Act → Reply → Type 0
IsRepeated kept act reply = ((kept.act ≡ act) × (reply ≡ kept.reply)) ⊎ ((kept.act ≢ act) × (reply ≡ IdReused))

-- an act that is done changes the rows, and its reply is kept
abbrev pub Acts : Tables → List ℕ → List ℕ → Act → Outcome → Tables → Reply → Type 0
Acts tables caller id act (Done done) new reply =
    (new ≡ after (record { caller = caller; id = id; act = act; reply = done.reply; against = done.against }) tables) × (reply ≡ done.reply)
Acts tables caller id act (NotDone cause) new reply = (new ≡ tables) × (reply ≡ cause)

abbrev pub Changes : Meaning → Tables → List ℕ → List ℕ → Act → Option Change → Tables → Reply → Type 0
Changes J tables caller id act (Some kept) new reply = (new ≡ tables) × IsRepeated kept act reply
Changes J tables caller id act None new reply = Acts tables caller id act (outcome J tables caller act) new reply

-- what a command does to the rows, and its reply
abbrev pub Step : Meaning → Tables → Command → Tables → Reply → Type 0
Step J tables (ToChange caller id act) new reply = Changes J tables caller id act (kept_under tables caller id) new reply
Step J tables (Ask caller query) new reply = (new ≡ tables) × (reply ≡ answer J tables caller query)

-- the store failed, or there was no memory
abbrev pub IsFault : Reply → Type 0
IsFault reply = (reply ≡ StoreFault) ⊎ (reply ≡ Memory)

-- a command is handled by its step, or a fault leaves the rows as they were
abbrev pub Handled : Meaning → Tables → Command → Option Tables → Reply → Type 0
Handled J tables command told reply =
    ((new : Tables) × (told ≡ Some new) × Step J tables command new reply) ⊎ ((told ≡ Some tables) × IsFault reply)
