-- The causes for which an act isn't done, in the order in which they are tried.
use Rattle.std.specs.Prelude.{ℕ, ◌==◌, ◌&&◌, Bool, List, [], ◌∷◌, ◌++◌, length, not, nat_le, nat_lt, Option, Some, None, is_some, is_none, if◌then◌else◌}
use Rattle.std.specs.List.{list_any}
use Rattle.vmv_keeper.specs.declared.project.Project.{Project}
use Rattle.vmv_keeper.specs.declared.project.Version.{Version}
use Rattle.vmv_keeper.specs.declared.act.Act.{Act}
use Rattle.vmv_keeper.specs.declared.act.Act.TheVariants.{OpenProject, AddMember, Submit, Withdraw, Accept, Waive}
use Rattle.vmv_keeper.specs.declared.reply.Reply.{Reply}
use Rattle.vmv_keeper.specs.declared.reply.Reply.TheVariants.{Opened, NotFound, NotAllowed, Full, TextRefused, NotCorrect, AlreadyOpen, VacuousText}
use Rattle.vmv_keeper.specs.declared.judge.Inspected.{Inspected}
use Rattle.vmv_keeper.specs.declared.judge.Inspected.TheVariants.{Fine, Refused, Vacuous}
use Rattle.vmv_keeper.specs.declared.judge.Compared.{Compared}
use Rattle.vmv_keeper.specs.declared.judge.Compared.TheVariants.{Judged, Unreadable}
use Rattle.vmv_keeper.specs.Tables.{Tables, is_same, is_member, is_root, waiting_as, project_named, project_count, reply_count}
use Rattle.vmv_keeper.specs.Changes.{owner_of, name_of, waiting_text, reply_to, against_of}
use Rattle.vmv_desk_rules.specs.declared.outcome.Effect.{Effect}
use Rattle.vmv_desk_rules.specs.declared.outcome.Outcome.{Outcome}
use Rattle.vmv_desk_rules.specs.declared.outcome.Outcome.TheVariants.{Done, NotDone}

-- what a judge says of a text, and of a second text against a first
pub record Meaning : Type 0 where
  pub inspected : List ℕ → Inspected
  pub compared : List ℕ → List ℕ → Compared

abbrev pub says : (List ℕ → Inspected) → (List ℕ → List ℕ → Compared) → Meaning
says inspected compared = record { inspected = inspected; compared = compared }

-- a cause, where it comes: the reply that it gives
abbrev pub cause_if : Bool → Reply → Option Reply
cause_if comes reply = if comes then Some reply else None

-- an act isn't done for the first cause that comes, and is done where none comes
abbrev pub tried : List (Option Reply) → Effect → Outcome
tried [] effect = Done effect
tried (None ∷ causes) effect = tried causes effect
tried (Some cause ∷ causes) effect = NotDone cause

-- what an act leaves that is done on a project
abbrev pub effect_on : Act → Project → Effect
effect_on act p = record { reply = reply_to act p; against = against_of act p }

-- what the opening of a project leaves
abbrev pub opening : Effect
opening = record { reply = Opened 1; against = 0 }

abbrev pub if_refused : Inspected → Option Reply
if_refused Fine = None
if_refused (Refused number line column) = Some (TextRefused number line column)
if_refused Vacuous = None

abbrev pub if_vacuous : Inspected → Option Reply
if_vacuous Fine = None
if_vacuous (Refused number line column) = None
if_vacuous Vacuous = Some VacuousText

-- the verdict, which is 0 where a text doesn't parse
abbrev pub verdict_of : Compared → ℕ
verdict_of (Judged verdict json) = verdict
verdict_of (Unreadable which) = 0

abbrev pub if_not_correct : Compared → Option Reply
if_not_correct said = cause_if (not (verdict_of said == 1)) (NotCorrect (verdict_of said))

abbrev pub last_text : List Version → List ℕ
last_text [] = []
last_text (version ∷ []) = version.text
last_text (version ∷ next ∷ rest) = last_text (next ∷ rest)

-- the text of a project's latest version
abbrev pub base_text : Project → List ℕ
base_text p = last_text p.versions

-- the versions from the latest root on: the latest that was opened or waived
abbrev pub from_root : List Version → List Version
from_root [] = []
from_root (version ∷ rest) = if list_any (λ later. is_root later.row) rest then from_root rest else version ∷ rest

-- the chain of a project: its versions from its latest root on, up to its base
abbrev pub chain : Project → List Version
chain p = from_root p.versions

abbrev pub first_text : List Version → List ℕ
first_text [] = []
first_text (version ∷ rest) = version.text

-- the text of the root of a project's chain
abbrev pub root_text : Project → List ℕ
root_text p = first_text (chain p)

-- the causes against an act that the project's rows show
abbrev pub row_causes : List ℕ → Act → Project → List (Option Reply)
row_causes caller (OpenProject name text) p = []
row_causes caller (AddMember owner project member) p =
    cause_if (not (is_same caller owner)) NotAllowed
    ∷ cause_if (not (is_member p member) && nat_le 64 (length p.members)) (Full 3) ∷ []
row_causes caller (Submit owner project text) p =
    cause_if (nat_le 32 (length p.pending)) (Full 4) ∷ cause_if (nat_lt 1000000 p.next) (Full 5) ∷ []
row_causes caller (Withdraw owner project submission) p = cause_if (is_none (waiting_as submission p)) NotFound ∷ []
row_causes caller (Accept owner project submission) p =
    cause_if (is_none (waiting_as submission p)) NotFound ∷ cause_if (nat_le 1024 (length p.versions)) (Full 6) ∷ []
row_causes caller (Waive owner project submission) p =
    cause_if (not (is_same caller owner)) NotAllowed ∷ cause_if (is_none (waiting_as submission p)) NotFound
    ∷ cause_if (nat_le 1024 (length p.versions)) (Full 6) ∷ []

-- the causes against it that a judge finds
abbrev pub judge_causes : Meaning → Act → Project → List (Option Reply)
judge_causes J (OpenProject name text) p = []
judge_causes J (AddMember owner project member) p = []
judge_causes J (Submit owner project text) p = if_refused (J.inspected text) ∷ []
judge_causes J (Withdraw owner project submission) p = []
judge_causes J (Accept owner project submission) p =
    let text = waiting_text submission p in if_not_correct (J.compared (root_text p) text) ∷ if_vacuous (J.inspected text) ∷ []
judge_causes J (Waive owner project submission) p = if_vacuous (J.inspected (waiting_text submission p)) ∷ []

-- what comes of an act on the project, should there be one: who isn't a member is told of none
abbrev pub outcome_on : Meaning → List ℕ → Act → Option Project → Outcome
outcome_on J caller act None = NotDone NotFound
outcome_on J caller act (Some p) =
    tried (cause_if (not (is_member p caller)) NotFound ∷ (row_causes caller act p ++ judge_causes J act p)) (effect_on act p)

abbrev pub outcome_of : Meaning → Tables → List ℕ → Act → Outcome
outcome_of J tables caller (OpenProject name text) =
    tried (cause_if (is_some (project_named tables caller name)) AlreadyOpen ∷ cause_if (nat_le 64 (project_count tables caller)) (Full 2)
    ∷ if_refused (J.inspected text) ∷ if_vacuous (J.inspected text) ∷ []) opening
outcome_of J tables caller act = outcome_on J caller act (project_named tables (owner_of caller act) (name_of act))

-- what comes of an act, where the caller has room for its reply
abbrev pub outcome : Meaning → Tables → List ℕ → Act → Outcome
outcome J tables caller act = if nat_le 100000 (reply_count tables caller) then NotDone (Full 1) else outcome_of J tables caller act
