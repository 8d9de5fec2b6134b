-- Versions stay, whatever is done.
use Rattle.std.proofs.Common.{◌≡◌, inl, inr, ℕ, Bool, true, false, cond, List, [], ◌∷◌, ◌++◌, find, Option, Some, None, IsSomeAnd, refl, ap, sym, ◌∙◌, subst}
use Rattle.std.proofs.lemmas.List.{append-nil, append_assoc}
use Rattle.vmv_keeper.specs.declared.project.Project.{Project}
use Rattle.vmv_keeper.specs.declared.project.Version.{Version}
use Rattle.vmv_keeper.specs.declared.change.Change.{Change}
use Rattle.vmv_keeper.specs.declared.act.Act.{Act}
use Rattle.vmv_keeper.specs.declared.act.Act.TheVariants.{OpenProject, AddMember, Submit, Withdraw, Accept, Waive}
use Rattle.vmv_keeper.specs.declared.act.Command.{Command}
use Rattle.vmv_keeper.specs.declared.act.Command.TheVariants.{Change as ToChange, Ask}
use Rattle.vmv_keeper.specs.declared.reply.Reply.{Reply}
use Rattle.vmv_keeper.specs.Tables.{Tables, is_named, is_member, project_in, project_named, kept_under}
use Rattle.vmv_keeper.specs.Changes.{changed, opened, project_after, projects_after, owner_of, name_of}
use Rattle.vmv_desk_rules.specs.declared.outcome.Outcome.{Outcome}
use Rattle.vmv_desk_rules.specs.declared.outcome.Outcome.TheVariants.{Done, NotDone}
use Rattle.vmv_desk_rules.specs.Causes.{Meaning, outcome}
use Rattle.vmv_desk_rules.specs.Step.{Step, Changes, Acts}
use Rattle.vmv_desk_rules.specs.Runs.{Turn, Runs}
use Rattle.vmv_desk_laws.specs.Versions.{Extends}
use Rattle.vmv_desk_laws.proofs.NamedLemmas.{named_after, found_changed, found_push}

extends_self : (vs : List Version) → Extends vs vs
extends_self vs = ([], sym (append-nil vs))

extends_on : (a b c : List Version) → Extends a b → Extends b c → Extends a c
extends_on a b c first second = (first.0 ++ second.0, second.1 ∙ ap (λ l. l ++ second.0) first.1 ∙ append_assoc a first.0 second.0)

-- the versions of one project, and those of another that has them
abbrev Keeps : Project → Project → Type 0
Keeps p q = Extends p.versions q.versions

member_keeps : (member : List ℕ) (p : Project) (b : Bool) → Keeps p (cond b p (record p { members = p.members ++ member ∷ [] }))
member_keeps member p true = extends_self p.versions
member_keeps member p false = extends_self p.versions

after_keeps : (caller : List ℕ) (act : Act) (p : Project) → Keeps p (project_after caller act p)
after_keeps caller (OpenProject name text) p = extends_self p.versions
after_keeps caller (AddMember owner project member) p = member_keeps member p (is_member p member)
after_keeps caller (Submit owner project text) p = extends_self p.versions
after_keeps caller (Withdraw owner project s) p = extends_self p.versions
after_keeps caller (Accept owner project s) p = (_, refl)
after_keeps caller (Waive owner project s) p = (_, refl)

-- the project of this owner and name is there, with the versions of p
abbrev Holds : Tables → List ℕ → List ℕ → Project → Type 0
Holds tables owner name p = IsSomeAnd (project_named tables owner name) (Keeps p)

holds_same : (found : Option Project) (p : Project) → found ≡ Some p → IsSomeAnd found (Keeps p)
holds_same found p e = let P : Option Project → Type 0 = λ o. IsSomeAnd o (Keeps p) in subst P (sym e) (extends_self p.versions)

changed_keeps : (caller : List ℕ) (act : Act) (projects : List Project) (owner name : List ℕ) (p : Project) → find (is_named owner name) projects ≡ Some p
    → IsSomeAnd (find (is_named owner name) (changed (is_named (owner_of caller act) (name_of act)) (project_after caller act) projects)) (Keeps p)
changed_keeps caller act projects owner name p e =
    found_changed Keeps (is_named owner name) (is_named (owner_of caller act) (name_of act)) (project_after caller act) (named_after owner name caller act)
    (λ q. extends_self q.versions) (after_keeps caller act) projects p e

act_keeps : (caller : List ℕ) (act : Act) (projects : List Project) (owner name : List ℕ) (p : Project) → project_in projects owner name ≡ Some p
    → IsSomeAnd (project_in (projects_after caller act projects) owner name) (Keeps p)
act_keeps caller (OpenProject its text) projects owner name p e =
    holds_same (project_in (projects ++ opened caller its text ∷ []) owner name) p (found_push (is_named owner name) projects (opened caller its text) p e)
act_keeps caller (AddMember its project member) projects owner name p e = changed_keeps caller (AddMember its project member) projects owner name p e
act_keeps caller (Submit its project text) projects owner name p e = changed_keeps caller (Submit its project text) projects owner name p e
act_keeps caller (Withdraw its project s) projects owner name p e = changed_keeps caller (Withdraw its project s) projects owner name p e
act_keeps caller (Accept its project s) projects owner name p e = changed_keeps caller (Accept its project s) projects owner name p e
act_keeps caller (Waive its project s) projects owner name p e = changed_keeps caller (Waive its project s) projects owner name p e

same_keeps : (tables new : Tables) (owner name : List ℕ) (p : Project) → new ≡ tables → project_named tables owner name ≡ Some p → Holds new owner name p
same_keeps tables new owner name p same e = holds_same (project_named new owner name) p (ap (λ t. project_named t owner name) same ∙ e)

acts_keep : (tables new : Tables) (caller id : List ℕ) (act : Act) (o : Outcome) (reply : Reply) (owner name : List ℕ) (p : Project)
    → Acts tables caller id act o new reply → project_named tables owner name ≡ Some p → Holds new owner name p
acts_keep tables new caller id act (Done done) reply owner name p step e =
    let P : Tables → Type 0 = λ t. Holds t owner name p in subst P (sym step.0) (act_keeps caller act tables.projects owner name p e)
acts_keep tables new caller id act (NotDone cause) reply owner name p step e = same_keeps tables new owner name p step.0 e

changes_keep : (J : Meaning) (tables new : Tables) (caller id : List ℕ) (act : Act) (found : Option Change) (reply : Reply) (owner name : List ℕ) (p : Project)
    → Changes J tables caller id act found new reply → project_named tables owner name ≡ Some p → Holds new owner name p
changes_keep J tables new caller id act (Some kept) reply owner name p step e = same_keeps tables new owner name p step.0 e
changes_keep J tables new caller id act None reply owner name p step e = acts_keep tables new caller id act (outcome J tables caller act) reply owner name p step e

-- a step leaves each project its versions
pub step_keeps_versions : (J : Meaning) (tables new : Tables) (command : Command) (reply : Reply) (owner name : List ℕ) (p : Project)
    → Step J tables command new reply → project_named tables owner name ≡ Some p → Holds new owner name p
step_keeps_versions J tables new (ToChange caller id act) reply owner name p step e =
    changes_keep J tables new caller id act (kept_under tables caller id) reply owner name p step e
step_keeps_versions J tables new (Ask caller query) reply owner name p step e = same_keeps tables new owner name p step.0 e

turn_keeps_versions : (J : Meaning) (tables new : Tables) (command : Command) (reply : Reply) (owner name : List ℕ) (p : Project)
    → Turn J tables command new reply → project_named tables owner name ≡ Some p → Holds new owner name p
turn_keeps_versions J tables new command reply owner name p (inl step) e = step_keeps_versions J tables new command reply owner name p step e
turn_keeps_versions J tables new command reply owner name p (inr fault) e = same_keeps tables new owner name p fault.0 e

held_on : (mid now : Option Project) (p : Project) → IsSomeAnd mid (Keeps p) → ((q : Project) → mid ≡ Some q → IsSomeAnd now (Keeps q)) → IsSomeAnd now (Keeps p)
held_on None now p first on = absurd first
held_on (Some q) None p first on = absurd (on q refl)
held_on (Some q) (Some r) p first on = extends_on p.versions q.versions r.versions first (on q refl)

-- however many commands come
pub runs_keep_versions : (J : Meaning) (tables now : Tables) (commands : List Command) (replies : List Reply) (owner name : List ℕ) (p : Project)
    → Runs J tables commands now replies → project_named tables owner name ≡ Some p → Holds now owner name p
runs_keep_versions J tables now [] replies owner name p runs e = same_keeps tables now owner name p runs.0 e
runs_keep_versions J tables now (command ∷ commands) replies owner name p runs e =
    let mid = runs.0 in
    held_on (project_named mid owner name) (project_named now owner name) p
    (turn_keeps_versions J tables mid command runs.1 owner name p runs.3 e)
    (λ q found. runs_keep_versions J mid now commands runs.2 owner name q runs.4 found)
