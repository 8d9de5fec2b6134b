-- Which replies a command may have, whatever the rows.
use Rattle.std.specs.Prelude.{◌==◌, ◌||◌, ◌⊎◌, Bool, true, false, IsTrue}
use Rattle.vmv_keeper.specs.declared.act.Act.{Act}
use Rattle.vmv_keeper.specs.declared.act.Act.TheVariants.{OpenProject, AddMember, Submit, Withdraw, Accept, Waive}
use Rattle.vmv_keeper.specs.declared.act.Query.{Query}
use Rattle.vmv_keeper.specs.declared.act.Query.TheVariants.{ReportOf, Base as BaseOf, History as HistoryOf, Pending as PendingOf}
use Rattle.vmv_keeper.specs.declared.act.Command.{Command}
use Rattle.vmv_keeper.specs.declared.act.Command.TheVariants.{Change, Ask}
use Rattle.vmv_keeper.specs.declared.reply.Reply.{Reply}
use Rattle.vmv_keeper.specs.declared.reply.Reply.TheVariants.{Report, Base, History, Pending, NotFound, NotAllowed, Full, TextRefused, NotCorrect, IdReused, AlreadyOpen, VacuousText}
use Rattle.vmv_keeper.specs.Formed.{IsDone}
use Rattle.vmv_desk_rules.specs.declared.outcome.Outcome.{Outcome}
use Rattle.vmv_desk_rules.specs.declared.outcome.Outcome.TheVariants.{Done, NotDone}

-- why an act may not be done, by the kind of act

abbrev pub refuses_opening : Reply → Bool
refuses_opening (Full which) = which == 1 || which == 2
refuses_opening (TextRefused number line column) = true
refuses_opening IdReused = true
refuses_opening AlreadyOpen = true
refuses_opening VacuousText = true
refuses_opening _ = false

abbrev pub refuses_adding : Reply → Bool
refuses_adding NotFound = true
refuses_adding NotAllowed = true
refuses_adding (Full which) = which == 1 || which == 3
refuses_adding IdReused = true
refuses_adding _ = false

abbrev pub refuses_submitting : Reply → Bool
refuses_submitting NotFound = true
refuses_submitting (Full which) = which == 1 || which == 4 || which == 5
refuses_submitting (TextRefused number line column) = true
refuses_submitting IdReused = true
refuses_submitting _ = false

abbrev pub refuses_withdrawing : Reply → Bool
refuses_withdrawing NotFound = true
refuses_withdrawing (Full which) = which == 1
refuses_withdrawing IdReused = true
refuses_withdrawing _ = false

abbrev pub refuses_accepting : Reply → Bool
refuses_accepting NotFound = true
refuses_accepting (Full which) = which == 1 || which == 6
refuses_accepting (NotCorrect verdict) = true
refuses_accepting IdReused = true
refuses_accepting VacuousText = true
refuses_accepting _ = false

abbrev pub refuses_waiving : Reply → Bool
refuses_waiving NotFound = true
refuses_waiving NotAllowed = true
refuses_waiving (Full which) = which == 1 || which == 6
refuses_waiving IdReused = true
refuses_waiving VacuousText = true
refuses_waiving _ = false

abbrev pub may_refuse : Act → Reply → Bool
may_refuse (OpenProject name text) reply = refuses_opening reply
may_refuse (AddMember owner project member) reply = refuses_adding reply
may_refuse (Submit owner project text) reply = refuses_submitting reply
may_refuse (Withdraw owner project submission) reply = refuses_withdrawing reply
may_refuse (Accept owner project submission) reply = refuses_accepting reply
may_refuse (Waive owner project submission) reply = refuses_waiving reply

-- what comes of an act has a reply of the act
abbrev pub Belongs : Act → Outcome → Type 0
Belongs act (Done effect) = IsDone act effect.reply
Belongs act (NotDone reply) = IsTrue (may_refuse act reply)

abbrev pub is_report : Reply → Bool
is_report (Report verdict json against) = true
is_report NotFound = true
is_report _ = false

abbrev pub is_base : Reply → Bool
is_base (Base version text) = true
is_base NotFound = true
is_base _ = false

abbrev pub is_history : Reply → Bool
is_history (History versions) = true
is_history NotFound = true
is_history _ = false

abbrev pub is_pending : Reply → Bool
is_pending (Pending rows) = true
is_pending NotFound = true
is_pending _ = false

-- the answers that a question may have
abbrev pub may_answer : Query → Reply → Bool
may_answer (ReportOf owner project submission) reply = is_report reply
may_answer (BaseOf owner project) reply = is_base reply
may_answer (HistoryOf owner project) reply = is_history reply
may_answer (PendingOf owner project) reply = is_pending reply

-- a reply that the command may have
abbrev pub IsReplyTo : Command → Reply → Type 0
IsReplyTo (Change caller id act) reply = IsDone act reply ⊎ IsTrue (may_refuse act reply)
IsReplyTo (Ask caller query) reply = IsTrue (may_answer query reply)
