-- A command changes one project at most, and what is kept for its caller.
use Rattle.std.proofs.Common.{◌≡◌, ◌≢◌, ℕ, true, false, List, find, Option, Some, None, ap, sym, ◌∙◌}
use Rattle.std.specs.Cmp.Lexicographic.{same_text}
use Rattle.vmv_keeper.specs.declared.project.Project.{Project}
use Rattle.vmv_keeper.specs.declared.change.Change.{Change}
use Rattle.vmv_keeper.specs.declared.act.Act.{Act}
use Rattle.vmv_keeper.specs.declared.act.Act.TheVariants.{OpenProject, AddMember, Submit, Withdraw, Accept, Waive}
use Rattle.vmv_keeper.specs.declared.act.Command.{Command}
use Rattle.vmv_keeper.specs.declared.act.Command.TheVariants.{Change as ToChange, Ask}
use Rattle.vmv_keeper.specs.declared.reply.Reply.{Reply}
use Rattle.vmv_keeper.specs.Tables.{Tables, is_same, is_named, is_kept_under, project_in, project_named, kept_under}
use Rattle.vmv_keeper.specs.Changes.{changed, opened, project_after, projects_after, owner_of, name_of}
use Rattle.vmv_keeper.proofs.FormedReads.{and-true_both}
use Rattle.vmv_desk_rules.specs.declared.outcome.Outcome.{Outcome}
use Rattle.vmv_desk_rules.specs.declared.outcome.Outcome.TheVariants.{Done, NotDone}
use Rattle.vmv_desk_rules.specs.Causes.{Meaning, outcome}
use Rattle.vmv_desk_rules.specs.Step.{Step, Changes, Acts}
use Rattle.vmv_desk_laws.specs.Seen.{caller_of}
use Rattle.vmv_desk_laws.specs.Others.{MayChange}
use Rattle.vmv_desk_laws.proofs.NamedLemmas.{not_true, named_is, named_after, others_found, others_found_push}

-- a project of one owner and name isn't that of another
other_name : (owner name its_owner its_name : List ℕ) (p : Project) → ((its_owner ≡ owner) × (its_name ≡ name) → ⊥) → is_named its_owner its_name p ≡ true
    → is_named owner name p ≡ false
other_name owner name its_owner its_name p differ its =
    not_true (is_named owner name p) (λ e.
    let here = named_is owner name p e in
    let there = named_is its_owner its_name p its in differ (sym there.0 ∙ here.0, sym there.1 ∙ here.1))

changed_others : (caller : List ℕ) (act : Act) (projects : List Project) (owner name : List ℕ) → ((owner_of caller act ≡ owner) × (name_of act ≡ name) → ⊥)
    → find (is_named owner name) (changed (is_named (owner_of caller act) (name_of act)) (project_after caller act) projects) ≡ find (is_named owner name) projects
changed_others caller act projects owner name differ =
    others_found (is_named owner name) (is_named (owner_of caller act) (name_of act)) (project_after caller act) (named_after owner name caller act)
    (λ p its. other_name owner name (owner_of caller act) (name_of act) p differ its) projects

act_others : (caller : List ℕ) (act : Act) (projects : List Project) (owner name : List ℕ) → ((owner_of caller act ≡ owner) × (name_of act ≡ name) → ⊥)
    → project_in (projects_after caller act projects) owner name ≡ project_in projects owner name
act_others caller (OpenProject its text) projects owner name differ =
    others_found_push (is_named owner name) projects (opened caller its text)
    (not_true (is_named owner name (opened caller its text)) (λ e. differ (named_is owner name (opened caller its text) e)))
act_others caller (AddMember its project member) projects owner name differ = changed_others caller (AddMember its project member) projects owner name differ
act_others caller (Submit its project text) projects owner name differ = changed_others caller (Submit its project text) projects owner name differ
act_others caller (Withdraw its project s) projects owner name differ = changed_others caller (Withdraw its project s) projects owner name differ
act_others caller (Accept its project s) projects owner name differ = changed_others caller (Accept its project s) projects owner name differ
act_others caller (Waive its project s) projects owner name differ = changed_others caller (Waive its project s) projects owner name differ

acts_others : (tables new : Tables) (caller id : List ℕ) (act : Act) (o : Outcome) (reply : Reply) (owner name : List ℕ)
    → ((owner_of caller act ≡ owner) × (name_of act ≡ name) → ⊥) → Acts tables caller id act o new reply → project_named new owner name ≡ project_named tables owner name
acts_others tables new caller id act (Done done) reply owner name differ step =
    ap (λ t. project_named t owner name) step.0 ∙ act_others caller act tables.projects owner name differ
acts_others tables new caller id act (NotDone cause) reply owner name differ step = ap (λ t. project_named t owner name) step.0

changes_others : (J : Meaning) (tables new : Tables) (caller id : List ℕ) (act : Act) (found : Option Change) (reply : Reply) (owner name : List ℕ)
    → ((owner_of caller act ≡ owner) × (name_of act ≡ name) → ⊥) → Changes J tables caller id act found new reply → project_named new owner name ≡ project_named tables owner name
changes_others J tables new caller id act (Some kept) reply owner name differ step = ap (λ t. project_named t owner name) step.0
changes_others J tables new caller id act None reply owner name differ step = acts_others tables new caller id act (outcome J tables caller act) reply owner name differ step

-- a project that a command isn't about stays as it is
pub step_others : (J : Meaning) (tables new : Tables) (command : Command) (reply : Reply) (owner name : List ℕ) → Step J tables command new reply
    → (MayChange command owner name → ⊥) → project_named new owner name ≡ project_named tables owner name
step_others J tables new (ToChange caller id act) reply owner name step differ = changes_others J tables new caller id act (kept_under tables caller id) reply owner name differ step
step_others J tables new (Ask caller query) reply owner name step differ = ap (λ t. project_named t owner name) step.0

-- kept replies

other_caller : (other id : List ℕ) (kept : Change) → other ≢ kept.caller → is_kept_under other id kept ≡ false
other_caller other id kept differ =
    not_true (is_kept_under other id kept) (λ e. differ (sym (same_text kept.caller other (sym (and-true_both (is_same kept.caller other) (is_same kept.id id) e).0))))

acts_keep_others : (tables new : Tables) (caller id : List ℕ) (act : Act) (o : Outcome) (reply : Reply) (other its : List ℕ) → other ≢ caller
    → Acts tables caller id act o new reply → kept_under new other its ≡ kept_under tables other its
acts_keep_others tables new caller id act (Done done) reply other its differ step =
    let change : Change = record { caller = caller; id = id; act = act; reply = done.reply; against = done.against } in
    ap (λ t. kept_under t other its) step.0 ∙ others_found_push (is_kept_under other its) tables.replies change (other_caller other its change differ)
acts_keep_others tables new caller id act (NotDone cause) reply other its differ step = ap (λ t. kept_under t other its) step.0

changes_keep_others : (J : Meaning) (tables new : Tables) (caller id : List ℕ) (act : Act) (found : Option Change) (reply : Reply) (other its : List ℕ) → other ≢ caller
    → Changes J tables caller id act found new reply → kept_under new other its ≡ kept_under tables other its
changes_keep_others J tables new caller id act (Some kept) reply other its differ step = ap (λ t. kept_under t other its) step.0
changes_keep_others J tables new caller id act None reply other its differ step = acts_keep_others tables new caller id act (outcome J tables caller act) reply other its differ step

-- what is kept for another caller stays as it is
pub step_keeps_others : (J : Meaning) (tables new : Tables) (command : Command) (reply : Reply) (other its : List ℕ) → Step J tables command new reply
    → other ≢ caller_of command → kept_under new other its ≡ kept_under tables other its
step_keeps_others J tables new (ToChange caller id act) reply other its step differ = changes_keep_others J tables new caller id act (kept_under tables caller id) reply other its differ step
step_keeps_others J tables new (Ask caller query) reply other its step differ = ap (λ t. kept_under t other its) step.0
