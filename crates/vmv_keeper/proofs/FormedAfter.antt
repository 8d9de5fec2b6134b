-- Well formed rows stay well formed under a change that fits.
use Rattle.std.proofs.Common.{◌≡◌, ℕ, ◌+◌, ◌≤◌, ◌<◌, ◌⊎◌, inl, inr, Bool, true, false, cond, List, [], ◌∷◌, ◌++◌, length, find, count_by, Option, Some, None, IfSome, IsSome, IsSomeAnd, IsTrue, IsUtf8, Result, Ok, Err, OnOk, OnErr, unwrap_or, ap, sym, ◌∙◌, subst, arith, refl, length-append}
use Rattle.std.specs.Option.{option_map}
use Rattle.std.specs.List.{AllByRecursion}
use Rattle.std.specs.Cmp.Lexicographic.{same_text}
use Rattle.std.proofs.lemmas.List.Sums.{count_by-le-length}
use Rattle.vmv_keeper.specs.declared.project.Project.{Project}
use Rattle.vmv_keeper.specs.declared.project.Version.{Version}
use Rattle.vmv_keeper.specs.declared.project.Waiting.{Waiting}
use Rattle.vmv_keeper.specs.declared.reply.VersionRow.{VersionRow}
use Rattle.vmv_keeper.specs.declared.change.Change.{Change}
use Rattle.vmv_keeper.specs.declared.act.Act.{Act}
use Rattle.vmv_keeper.specs.declared.act.Act.TheVariants.{OpenProject, AddMember, Submit, Withdraw, Accept, Waive}
use Rattle.vmv_keeper.specs.declared.reply.Reply.{Reply}
use Rattle.vmv_keeper.specs.Tables.{Tables, is_same, is_named, is_member, is_submission, is_kept_under, root_number, waiting_as, project_count, reply_count, project_named, kept_under}
use Rattle.vmv_keeper.specs.Formed.{AreFormed, IsProject, IsDone}
use Rattle.vmv_keeper.specs.Changes.{Fits, ActFits, Allows, after, projects_after, project_after, changed, opened, with_member, with_submission, without_submission, with_version, waiting_text, owner_of, name_of, reply_to, against_of}
use Rattle.vmv_keeper.proofs.FormedReads.{IfSome-find, and-true_both}
use Rattle.vmv_keeper.proofs.ListChanges.{All-push, All-weaken, All-changed, All-without, length_map-without, length_map-push, length_map-same, count_by-changed, count_by-push_few, count_by-not_found, count_by-not_any, Rises-without, Rises-push, AreNumbered-push, BeginOpened-push, AreLater-push, FirstIs-push}

-- a project that is opened

pub IsProject-opened : (caller name text : List ℕ) → IsUtf8 text → IsProject (opened caller name text)
IsProject-opened caller name text utf8 =
    record {
      held = record { owner_first = refl; few_members = omega arith; numbered = (refl, tt); opened = refl; few_versions = omega arith; begun = omega arith; few_made = omega arith };
      bench = record { few = omega arith; rising = tt };
      below = tt;
      texts = (utf8, tt);
      pending_texts = tt;
      distinct = λ label. count_by-le-length (λ member. is_same member label) (caller ∷ []);
      later = tt;
    }

-- one more member

joins : (member : List ℕ) (p : Project) → IsProject p → is_member p member ≡ false → length p.members < 64
    → IsProject (record p { members = p.members ++ member ∷ [] })
joins member p good new room =
    let longer = length-append p.members (member ∷ []) in
    record {
      held = record {
        owner_first = FirstIs-push p.owner p.members member good.held.owner_first;
        few_members = omega arith;
        numbered = good.held.numbered;
        opened = good.held.opened;
        few_versions = good.held.few_versions;
        begun = good.held.begun;
        few_made = good.held.few_made;
      };
      bench = good.bench;
      below = good.below;
      texts = good.texts;
      pending_texts = good.pending_texts;
      distinct = λ label. count_by-push_few (λ m. is_same m label) p.members member 1 (good.distinct label)
          (λ e. let same = same_text member label (sym e) in
          let P : List ℕ → Type 0 = λ l. count_by (λ m. is_same m l) p.members ≡ 0 in
          let none : count_by (λ m. is_same m label) p.members ≡ 0 = subst P same (count_by-not_any (λ m. is_same m member) p.members new) in
          omega arith);
      later = good.later;
    }

member_choice : (member : List ℕ) (p : Project) (b : Bool) → is_member p member ≡ b → IsProject p
    → (IsTrue b ⊎ (length p.members < 64)) → IsProject (cond b p (record p { members = p.members ++ member ∷ [] }))
member_choice member p true e good room = good
member_choice member p false e good (inl t) = absurd (cc t)
member_choice member p false e good (inr room) = joins member p good e room

-- one more submission

submits : (caller text : List ℕ) (p : Project) → IsProject p → length p.pending < 32 → p.next ≤ 1000000 → IsUtf8 text
    → IsProject (with_submission caller text p)
submits caller text p good room few utf8 =
    let number : Waiting → ℕ = λ w. w.row.submission in
    let one : Waiting = record { row = record { submission = p.next; by = caller }; text = text } in
    let longer = length_map-push number p.pending one in
    let same = length_map-same number p.pending in
    let begun = good.held.begun in
    record {
      held = record {
        owner_first = good.held.owner_first;
        few_members = good.held.few_members;
        numbered = good.held.numbered;
        opened = good.held.opened;
        few_versions = good.held.few_versions;
        begun = omega arith;
        few_made = omega arith;
      };
      bench = record { few = omega arith; rising = Rises-push number 1 p.pending one good.bench.rising good.below begun };
      below = All-push (λ w. w.row.submission < p.next + 1) p.pending one
          (All-weaken (λ w. w.row.submission < p.next) (λ w. w.row.submission < p.next + 1) (λ w h. omega arith) p.pending good.below) (omega arith);
      texts = good.texts;
      pending_texts = All-push (λ w. IsUtf8 w.text) p.pending one good.pending_texts utf8;
      distinct = good.distinct;
      later = good.later;
    }

-- a submission that waits no more

withdraws : (number : ℕ) (p : Project) → IsProject p → IsProject (without_submission number p)
withdraws number p good =
    let f : Waiting → ℕ = λ w. w.row.submission in
    let shorter = length_map-without f (is_submission number) p.pending in
    let few = good.bench.few in
    record {
      held = good.held;
      bench = record { few = omega arith; rising = Rises-without f (is_submission number) 1 p.pending good.bench.rising };
      below = All-without (λ w. w.row.submission < p.next) (is_submission number) p.pending good.below;
      texts = good.texts;
      pending_texts = All-without (λ w. IsUtf8 w.text) (is_submission number) p.pending good.pending_texts;
      distinct = good.distinct;
      later = good.later;
    }

-- one more version

text_of : (found : Option Waiting) (number : ℕ) → IfSome found (λ w. IsUtf8 w.text × (is_submission number w ≡ true)) → IsSome found
    → IsUtf8 (unwrap_or (option_map (λ (w : Waiting). w.text) found) [])
text_of None number h some = absurd (cc some)
text_of (Some w) number h some = h.0

moves : (kind against : ℕ) (caller : List ℕ) (number : ℕ) (p : Project) → IsProject p → (kind ≡ 2) ⊎ (kind ≡ 3) → IsSome (waiting_as number p)
    → length p.versions < 1024 → IsProject (with_version kind against caller number p)
moves kind against caller number p good later some room =
    let row : Version → VersionRow = λ v. v.row in
    let one : Version = record { row = record { number = length p.versions + 1; kind = kind; submission = number; by = caller; against = against }; text = waiting_text number p } in
    let longer = length_map-push row p.versions one in
    let same = length_map-same row p.versions in
    let rest = withdraws number p good in
    let utf8 = text_of (waiting_as number p) number (IfSome-find (λ w. IsUtf8 w.text) (is_submission number) p.pending good.pending_texts) some in
    record {
      held = record {
        owner_first = good.held.owner_first;
        few_members = good.held.few_members;
        numbered = AreNumbered-push row 1 p.versions one good.held.numbered (omega arith);
        opened = BeginOpened-push row p.versions one good.held.opened;
        few_versions = omega arith;
        begun = good.held.begun;
        few_made = good.held.few_made;
      };
      bench = rest.bench;
      below = rest.below;
      texts = All-push (λ v. IsUtf8 v.text) p.versions one good.texts utf8;
      pending_texts = rest.pending_texts;
      distinct = good.distinct;
      later = AreLater-push row p.versions one good.later later;
    }

-- an act on a project that allows it

pub IsProject-after : (caller : List ℕ) (act : Act) (p : Project) → IsProject p → Allows caller act p → IsProject (project_after caller act p)
IsProject-after caller (OpenProject name text) p good allows = absurd allows
IsProject-after caller (AddMember owner project member) p good allows = member_choice member p (is_member p member) refl good allows.1
IsProject-after caller (Submit owner project text) p good allows = submits caller text p good allows.0 allows.1 allows.2
IsProject-after caller (Withdraw owner project submission) p good allows = withdraws submission p good
IsProject-after caller (Accept owner project submission) p good allows = moves 2 (root_number p) caller submission p good (inl refl) allows.0 allows.1
IsProject-after caller (Waive owner project submission) p good allows = moves 3 0 caller submission p good (inr refl) allows.1 allows.2

-- an act that fits what is found
abbrev FitsFound : List ℕ → Act → Reply → ℕ → Option Project → Type 0
FitsFound caller act reply against found = IsSomeAnd found (λ p. IsTrue (is_member p caller) × Allows caller act p × (reply ≡ reply_to act p) × (against ≡ against_of act p))

after_found : (caller : List ℕ) (act : Act) (reply : Reply) (against : ℕ) (found : Option Project) (test : Project → Bool)
    → IfSome found (λ p. IsProject p × (test p ≡ true)) → FitsFound caller act reply against found → IfSome found (λ p. IsProject (project_after caller act p))
after_found caller act reply against None test good fits = tt
after_found caller act reply against (Some p) test good fits = IsProject-after caller act p good.0 fits.1

each_changed : (tables : Tables) (caller : List ℕ) (act : Act) (reply : Reply) (against : ℕ) → AllByRecursion IsProject tables.projects
    → FitsFound caller act reply against (project_named tables (owner_of caller act) (name_of act))
    → AllByRecursion IsProject (changed (is_named (owner_of caller act) (name_of act)) (project_after caller act) tables.projects)
each_changed tables caller act reply against all fits =
    let test = is_named (owner_of caller act) (name_of act) in
    All-changed IsProject test (project_after caller act) tables.projects all
    (after_found caller act reply against (find test tables.projects) test (IfSome-find IsProject test tables.projects all) fits)

each_after : (tables : Tables) (caller : List ℕ) (act : Act) (reply : Reply) (against : ℕ) → AllByRecursion IsProject tables.projects
    → ActFits tables.projects caller act reply against → AllByRecursion IsProject (projects_after caller act tables.projects)
each_after tables caller (OpenProject name text) reply against all fits = All-push IsProject tables.projects (opened caller name text) all (IsProject-opened caller name text fits.2)
each_after tables caller (AddMember owner project member) reply against all fits = each_changed tables caller (AddMember owner project member) reply against all fits
each_after tables caller (Submit owner project text) reply against all fits = each_changed tables caller (Submit owner project text) reply against all fits
each_after tables caller (Withdraw owner project submission) reply against all fits = each_changed tables caller (Withdraw owner project submission) reply against all fits
each_after tables caller (Accept owner project submission) reply against all fits = each_changed tables caller (Accept owner project submission) reply against all fits
each_after tables caller (Waive owner project submission) reply against all fits = each_changed tables caller (Waive owner project submission) reply against all fits

-- an act changes neither a project's owner nor its name

owner_of_choice : (b : Bool) (p : Project) (members : List (List ℕ)) → (cond b p (record p { members = members })).owner ≡ p.owner
owner_of_choice true p members = refl
owner_of_choice false p members = refl

name_of_choice : (b : Bool) (p : Project) (members : List (List ℕ)) → (cond b p (record p { members = members })).name ≡ p.name
name_of_choice true p members = refl
name_of_choice false p members = refl

pub owner_after : (caller : List ℕ) (act : Act) (p : Project) → (project_after caller act p).owner ≡ p.owner
owner_after caller (OpenProject name text) p = refl
owner_after caller (AddMember owner project member) p = owner_of_choice (is_member p member) p (p.members ++ member ∷ [])
owner_after caller (Submit owner project text) p = refl
owner_after caller (Withdraw owner project submission) p = refl
owner_after caller (Accept owner project submission) p = refl
owner_after caller (Waive owner project submission) p = refl

pub name_after : (caller : List ℕ) (act : Act) (p : Project) → (project_after caller act p).name ≡ p.name
name_after caller (OpenProject name text) p = refl
name_after caller (AddMember owner project member) p = name_of_choice (is_member p member) p (p.members ++ member ∷ [])
name_after caller (Submit owner project text) p = refl
name_after caller (Withdraw owner project submission) p = refl
name_after caller (Accept owner project submission) p = refl
name_after caller (Waive owner project submission) p = refl

-- what is asked of a project is its owner and its name
count_changed : (test : List ℕ → List ℕ → Bool) (here : Project → Bool) (caller : List ℕ) (act : Act) (ps : List Project)
    → count_by (λ p. test p.owner p.name) (changed here (project_after caller act) ps) ≡ count_by (λ p. test p.owner p.name) ps
count_changed test here caller act ps =
    count_by-changed (λ p. test p.owner p.name) here (project_after caller act)
    (λ p. ap (λ o. test o (project_after caller act p).name) (owner_after caller act p) ∙ ap (λ n. test p.owner n) (name_after caller act p)) ps

-- such a count, where a project that is opened may be counted
count_after : (test : List ℕ → List ℕ → Bool) (k : ℕ) (tables : Tables) (caller : List ℕ) (act : Act) (reply : Reply) (against : ℕ)
    → count_by (λ p. test p.owner p.name) tables.projects ≤ k
    → ((name : List ℕ) → project_named tables caller name ≡ None → project_count tables caller < 64 → test caller name ≡ true → count_by (λ p. test p.owner p.name) tables.projects < k)
    → ActFits tables.projects caller act reply against
    → count_by (λ p. test p.owner p.name) (projects_after caller act tables.projects) ≤ k
count_after test k tables caller (OpenProject name text) reply against few room fits =
    count_by-push_few (λ p. test p.owner p.name) tables.projects (opened caller name text) k few (room name fits.0 fits.1)
count_after test k tables caller (AddMember owner project member) reply against few room fits =
    let e = count_changed test (is_named owner project) caller (AddMember owner project member) tables.projects in let P : ℕ → Type 0 = λ n. n ≤ k in subst P (sym e) few
count_after test k tables caller (Submit owner project text) reply against few room fits =
    let e = count_changed test (is_named owner project) caller (Submit owner project text) tables.projects in let P : ℕ → Type 0 = λ n. n ≤ k in subst P (sym e) few
count_after test k tables caller (Withdraw owner project submission) reply against few room fits =
    let e = count_changed test (is_named owner project) caller (Withdraw owner project submission) tables.projects in let P : ℕ → Type 0 = λ n. n ≤ k in subst P (sym e) few
count_after test k tables caller (Accept owner project submission) reply against few room fits =
    let e = count_changed test (is_named owner project) caller (Accept owner project submission) tables.projects in let P : ℕ → Type 0 = λ n. n ≤ k in subst P (sym e) few
count_after test k tables caller (Waive owner project submission) reply against few room fits =
    let e = count_changed test (is_named owner project) caller (Waive owner project submission) tables.projects in let P : ℕ → Type 0 = λ n. n ≤ k in subst P (sym e) few

-- the reply of an act that fits is one of an act that was done

done_found : (caller : List ℕ) (act : Act) (reply : Reply) (against : ℕ) (found : Option Project) → ((p : Project) → IsDone act (reply_to act p)) → FitsFound caller act reply against found → IsDone act reply
done_found caller act reply against None each fits = absurd fits
done_found caller act reply against (Some p) each fits = let P : Reply → Type 0 = λ r. IsDone act r in subst P (sym fits.2) (each p)

done_act : (tables : Tables) (caller : List ℕ) (act : Act) (reply : Reply) (against : ℕ) → ActFits tables.projects caller act reply against → IsDone act reply
done_act tables caller (OpenProject name text) reply against fits = (1, fits.3)
done_act tables caller (AddMember owner project member) reply against fits =
    done_found caller (AddMember owner project member) reply against (project_named tables owner project) (λ p. (length (with_member member p).members, refl)) fits
done_act tables caller (Submit owner project text) reply against fits =
    done_found caller (Submit owner project text) reply against (project_named tables owner project) (λ p. (p.next, refl)) fits
done_act tables caller (Withdraw owner project submission) reply against fits =
    done_found caller (Withdraw owner project submission) reply against (project_named tables owner project) (λ p. (submission, refl)) fits
done_act tables caller (Accept owner project submission) reply against fits =
    done_found caller (Accept owner project submission) reply against (project_named tables owner project) (λ p. (length p.versions + 1, refl)) fits
done_act tables caller (Waive owner project submission) reply against fits =
    done_found caller (Waive owner project submission) reply against (project_named tables owner project) (λ p. (length p.versions + 1, refl)) fits

-- two labels that are the same

none_named : (tables : Tables) (caller name owner name_asked : List ℕ) → project_named tables caller name ≡ None
    → is_named owner name_asked (opened caller name []) ≡ true → count_by (is_named owner name_asked) tables.projects < 1
none_named tables caller name owner name_asked none same =
    let both = and-true_both (is_same caller owner) (is_same name name_asked) same in
    let P : List ℕ → Type 0 = λ o. count_by (is_named o name) tables.projects ≡ 0 in
    let Q : List ℕ → Type 0 = λ n. count_by (is_named owner n) tables.projects ≡ 0 in
    let zero_here : count_by (is_named owner name_asked) tables.projects ≡ 0 =
    subst Q (same_text name name_asked (sym both.1)) (subst P (same_text caller owner (sym both.0)) (count_by-not_found (is_named caller name) tables.projects none)) in
    omega arith

room_of_owner : (tables : Tables) (caller owner : List ℕ) → project_count tables caller < 64 → is_same caller owner ≡ true → project_count tables owner < 64
room_of_owner tables caller owner room same = let P : List ℕ → Type 0 = λ o. project_count tables o < 64 in subst P (same_text caller owner (sym same)) room

none_kept : (tables : Tables) (change : Change) (caller id : List ℕ) → kept_under tables change.caller change.id ≡ None
    → is_kept_under caller id change ≡ true → count_by (is_kept_under caller id) tables.replies < 1
none_kept tables change caller id none same =
    let both = and-true_both (is_same change.caller caller) (is_same change.id id) same in
    let P : List ℕ → Type 0 = λ o. count_by (is_kept_under o change.id) tables.replies ≡ 0 in
    let Q : List ℕ → Type 0 = λ n. count_by (is_kept_under caller n) tables.replies ≡ 0 in
    let zero_here : count_by (is_kept_under caller id) tables.replies ≡ 0 =
    subst Q (same_text change.id id (sym both.1)) (subst P (same_text change.caller caller (sym both.0)) (count_by-not_found (is_kept_under change.caller change.id) tables.replies none)) in
    omega arith

room_of_caller : (tables : Tables) (change : Change) (caller : List ℕ) → reply_count tables change.caller < 100000
    → is_same change.caller caller ≡ true → reply_count tables caller < 100000
room_of_caller tables change caller room same = let P : List ℕ → Type 0 = λ o. reply_count tables o < 100000 in subst P (same_text change.caller caller (sym same)) room

-- the rows after a change that fits are well formed
pub AreFormed-after : (tables : Tables) (change : Change) → AreFormed tables → Fits tables change → AreFormed (after change tables)
AreFormed-after tables change formed fits =
    record {
      each = each_after tables change.caller change.act change.reply change.against formed.each fits.act_fits;
      distinct = λ owner name. count_after (λ o n. is_named owner name (opened o n [])) 1 tables change.caller change.act change.reply change.against (formed.distinct owner name)
          (λ new none room same. none_named tables change.caller new owner name none same) fits.act_fits;
      few_projects = λ owner. count_after (λ o n. is_same o owner) 64 tables change.caller change.act change.reply change.against (formed.few_projects owner)
          (λ new none room same. room_of_owner tables change.caller owner room same) fits.act_fits;
      done = All-push (λ kept. IsDone kept.act kept.reply) tables.replies change formed.done (done_act tables change.caller change.act change.reply change.against fits.act_fits);
      one_each = λ caller id. count_by-push_few (is_kept_under caller id) tables.replies change 1 (formed.one_each caller id) (none_kept tables change caller id fits.new);
      few_replies = λ caller. count_by-push_few (λ kept. is_same kept.caller caller) tables.replies change 100000 (formed.few_replies caller) (room_of_caller tables change caller fits.room);
    }

-- rows that a change was made in, or that stand as they were
pub formed_committed : {E : Type 0} (result : Result (Unit {0}) E) (before : Tables) (projects : List Project) (replies : List Change) (change : Change)
    → AreFormed before → Fits before change
    → OnOk result (projects ≡ projects_after change.caller change.act before.projects) → OnOk result (replies ≡ before.replies ++ change ∷ [])
    → OnErr result (projects ≡ before.projects) → OnErr result (replies ≡ before.replies)
    → AreFormed (record { projects = projects; replies = replies })
formed_committed (Ok done) before projects replies change formed fits p r ep er =
    let P : List Project → Type 0 = λ l. AreFormed (record { projects = l; replies = replies }) in
    let Q : List Change → Type 0 = λ l. AreFormed (record { projects = projects_after change.caller change.act before.projects; replies = l }) in
    subst P (sym p) (subst Q (sym r) (AreFormed-after before change formed fits))
formed_committed (Err e) before projects replies change formed fits p r ep er =
    let P : List Project → Type 0 = λ l. AreFormed (record { projects = l; replies = replies }) in
    let Q : List Change → Type 0 = λ l. AreFormed (record { projects = before.projects; replies = l }) in
    subst P (sym ep) (subst Q (sym er) formed)
