-- Rows stay well under a step.
use Rattle.std.proofs.Common.{◌≡◌, ◌≢◌, ◌==◌, ℕ, Bool, true, false, cond, not, List, [], ◌∷◌, ◌++◌, find, ◌+◌, ◌<◌, inl, inr, Option, Some, None, IfSome, IsSome, IsSomeAnd, is_none, is_some, nat_le, nat_lt, length, unwrap_or, arith, refl, ap, sym, subst}
use Rattle.std.specs.Option.{option_map}
use Rattle.std.specs.List.{AllByRecursion}
use borrow.Author.Tests.{eqb-true}
use Rattle.vmv_keeper.specs.declared.project.Project.{Project}
use Rattle.vmv_keeper.specs.declared.project.Version.{Version}
use Rattle.vmv_keeper.specs.declared.project.Waiting.{Waiting}
use Rattle.vmv_keeper.specs.declared.change.Change.{Change}
use Rattle.vmv_keeper.specs.declared.act.Act.{Act}
use Rattle.vmv_keeper.specs.declared.act.Act.TheVariants.{OpenProject, AddMember, Submit, Withdraw, Accept, Waive}
use Rattle.vmv_keeper.specs.declared.act.Command.{Command}
use Rattle.vmv_keeper.specs.declared.act.Command.TheVariants.{Change as ToChange, Ask}
use Rattle.vmv_keeper.specs.declared.reply.Reply.{Reply}
use Rattle.vmv_keeper.specs.declared.reply.Reply.TheVariants.{NotFound, NotAllowed, AlreadyOpen, Full, NotCorrect}
use Rattle.vmv_keeper.specs.declared.judge.Inspected.{Inspected}
use Rattle.vmv_keeper.specs.declared.judge.Inspected.TheVariants.{Fine, Refused, Vacuous}
use Rattle.vmv_keeper.specs.declared.judge.Compared.{Compared}
use Rattle.vmv_keeper.specs.declared.judge.Compared.TheVariants.{Judged, Unreadable}
use Rattle.vmv_keeper.specs.Judging.{HasVerdict}
use Rattle.vmv_keeper.specs.Formed.{IsProject}
use Rattle.vmv_keeper.specs.Tables.{Tables, is_same, project_count, is_member, is_named, is_submission, root_number, version_text, waiting_as, project_named, kept_under, reply_count}
use Rattle.vmv_keeper.specs.Changes.{changed, project_after, projects_after, opened, with_version, waiting_text, owner_of, name_of}
use Rattle.vmv_keeper.proofs.FormedAfter.{AreFormed-after}
use Rattle.vmv_keeper.proofs.FormedReads.{IfSome-find}
use Rattle.vmv_keeper.proofs.ListChanges.{All-push, All-weaken, All-changed, All-without}
use Rattle.vmv_desk_rules.specs.declared.outcome.Effect.{Effect}
use Rattle.vmv_desk_rules.specs.declared.outcome.Outcome.{Outcome}
use Rattle.vmv_desk_rules.specs.declared.outcome.Outcome.TheVariants.{Done, NotDone}
use Rattle.vmv_desk_rules.specs.Causes.{Meaning, cause_if, tried, if_refused, if_vacuous, if_not_correct, verdict_of, effect_on, opening, root_text, row_causes, judge_causes, outcome_on, outcome_of, outcome}
use Rattle.vmv_desk_rules.specs.Step.{Step, Changes, Acts}
use Rattle.vmv_desk_rules.specs.Well.{Well, IsReviewed, IsAccepted, IsAgainst, Parses}
use Rattle.vmv_desk_rules.specs.Keeping.{ReadsUtf8}
use Rattle.vmv_desk_rules.proofs.RootLemmas.{AreAgainst-push, text_more, root_below, root_text_at, begun_root, all_both}
use Rattle.vmv_desk_rules.proofs.FitsLemmas.{tried_none, cause_none, parses_of, fits_kept, outcome_step}

not_vacuous : (said : Inspected) → if_vacuous said ≡ None → said ≢ Vacuous
not_vacuous Fine e same = cc
not_vacuous (Refused number line column) e same = cc
not_vacuous Vacuous e same = absurd (cc e)

verdict_is : (said : Compared) (b : Bool) → (verdict_of said == 1) ≡ b → cause_if (not b) (NotCorrect (verdict_of said)) ≡ None → HasVerdict 1 said
verdict_is said false e h = absurd (cc h)
verdict_is (Judged verdict json) true e h = let one = eqb-true verdict 1 e in (json, ap (λ v. Judged v json) one)
verdict_is (Unreadable which) true e h = absurd (cc e)

-- a project that is opened

opened_reviewed : (J : Meaning) (caller name text : List ℕ) → Parses J text → J.inspected text ≢ Vacuous → IsReviewed J (opened caller name text)
opened_reviewed J caller name text good alive = record { texts = (good, tt); pending_texts = tt; none_vacuous = (alive, tt); against = (inr ((λ e. cc e), refl), tt); accepted = ((λ e. absurd (cc e)), tt) }

member_reviewed : (J : Meaning) (member : List ℕ) (p : Project) (b : Bool) → IsReviewed J p → IsReviewed J (cond b p (record p { members = p.members ++ member ∷ [] }))
member_reviewed J member p true good = good
member_reviewed J member p false good = record { texts = good.texts; pending_texts = good.pending_texts; none_vacuous = good.none_vacuous; against = good.against; accepted = good.accepted }

-- the text of a submission that waits parses
waiting_parses : (J : Meaning) (s : ℕ) (found : Option Waiting) → IfSome found (λ w. Parses J w.text × (is_submission s w ≡ true)) → IsSome found
    → Parses J (unwrap_or (option_map (λ (w : Waiting). w.text) found) [])
waiting_parses J s None h some = absurd (cc some)
waiting_parses J s (Some w) h some = h.0

version_reviewed : (J : Meaning) (kind against : ℕ) (caller : List ℕ) (s : ℕ) (p : Project) → IsReviewed J p → IsSome (waiting_as s p)
    → J.inspected (waiting_text s p) ≢ Vacuous → IsAgainst (root_number p) (record { number = length p.versions + 1; kind = kind; submission = s; by = caller; against = against })
    → (kind ≡ 2 → IsSomeAnd (version_text against p) (λ text. HasVerdict 1 (J.compared text (waiting_text s p)))) → IsReviewed J (with_version kind against caller s p)
version_reviewed J kind against caller s p good some alive judged correct =
    let parsed = waiting_parses J s (waiting_as s p) (IfSome-find (λ w. Parses J w.text) (is_submission s) p.pending good.pending_texts) some in
    let v : Version = record { row = record { number = length p.versions + 1; kind = kind; submission = s; by = caller; against = against }; text = waiting_text s p } in
    record {
      texts = All-push (λ w. Parses J w.text) p.versions v good.texts parsed;
      pending_texts = All-without (λ w. Parses J w.text) (is_submission s) p.pending good.pending_texts;
      none_vacuous = All-push (λ w. J.inspected w.text ≢ Vacuous) p.versions v good.none_vacuous alive;
      against = AreAgainst-push 0 p.versions v good.against judged;
      accepted = All-push (IsAccepted J (with_version kind against caller s p)) p.versions v
          (All-weaken (IsAccepted J p) (IsAccepted J (with_version kind against caller s p))
          (λ w h two. text_more w.row.against p.versions v (λ text. HasVerdict 1 (J.compared text w.text)) (h two)) p.versions good.accepted)
          (λ two. text_more against p.versions v (λ text. HasVerdict 1 (J.compared text (waiting_text s p))) (correct two));
    }

-- the root's number is below the next version's
root_less : (p : Project) → IsProject p → root_number p < length p.versions + 1
root_less p formed = let less = root_below 1 0 p.versions formed.held.numbered (omega arith) in omega (arith, less)

root_verdict : (J : Meaning) (p : Project) (text : List ℕ) → IsProject p → HasVerdict 1 (J.compared (root_text p) text)
    → IsSomeAnd (version_text (root_number p) p) (λ root. HasVerdict 1 (J.compared root text))
root_verdict J p text formed judged =
    let P : Option (List ℕ) → Type 0 = λ found. IsSomeAnd found (λ root. HasVerdict 1 (J.compared root text)) in
    subst P (sym (root_text_at 1 0 p.versions formed.held.numbered (begun_root p.versions formed.held.opened))) judged

some_of : {X : Type 0} (found : Option X) → is_none found ≡ false → IsSome found
some_of None e = absurd (cc e)
some_of (Some x) e = refl

-- an act that is done on a project that was reviewed leaves it reviewed
act_reviewed : (J : Meaning) (caller : List ℕ) (act : Act) (p : Project) (r : Effect) → IsProject p → IsReviewed J p
    → tried (row_causes caller act p ++ judge_causes J act p) (effect_on act p) ≡ Done r → IsReviewed J (project_after caller act p)
act_reviewed J caller (OpenProject name text) p r formed good e = good
act_reviewed J caller (AddMember owner project member) p r formed good e = member_reviewed J member p (is_member p member) good
act_reviewed J caller (Submit owner project text) p r formed good e =
    let done = effect_on (Submit owner project text) p in
    let five = cause_if (nat_lt 1000000 p.next) (Full 5) in
    let first = tried_none (cause_if (nat_le 32 (length p.pending)) (Full 4)) (five ∷ if_refused (J.inspected text) ∷ []) done r e in
    let second = tried_none five (if_refused (J.inspected text) ∷ []) done r first.1 in
    let third = tried_none (if_refused (J.inspected text)) [] done r second.1 in
    record {
      texts = good.texts;
      pending_texts = All-push (λ w. Parses J w.text) p.pending _ good.pending_texts (parses_of (J.inspected text) third.0);
      none_vacuous = good.none_vacuous;
      against = good.against;
      accepted = good.accepted;
    }
act_reviewed J caller (Withdraw owner project submission) p r formed good e =
    record {
      texts = good.texts;
      pending_texts = All-without (λ w. Parses J w.text) (is_submission submission) p.pending good.pending_texts;
      none_vacuous = good.none_vacuous;
      against = good.against;
      accepted = good.accepted;
    }
act_reviewed J caller (Accept owner project submission) p r formed good e =
    let text = waiting_text submission p in
    let done = effect_on (Accept owner project submission) p in
    let found = if_not_correct (J.compared (root_text p) text) ∷ if_vacuous (J.inspected text) ∷ [] in
    let six = cause_if (nat_le 1024 (length p.versions)) (Full 6) in
    let first = tried_none (cause_if (is_none (waiting_as submission p)) NotFound) (six ∷ found) done r e in
    let second = tried_none six found done r first.1 in
    let third = tried_none (if_not_correct (J.compared (root_text p) text)) (if_vacuous (J.inspected text) ∷ []) done r second.1 in
    let fourth = tried_none (if_vacuous (J.inspected text)) [] done r third.1 in
    version_reviewed J 2 (root_number p) caller submission p good (some_of (waiting_as submission p) (cause_none (is_none (waiting_as submission p)) NotFound first.0)) (not_vacuous (J.inspected text) fourth.0)
    (inl (refl, omega arith, root_less p formed))
    (λ kind. root_verdict J p text formed (verdict_is (J.compared (root_text p) text) (verdict_of (J.compared (root_text p) text) == 1) refl third.0))
act_reviewed J caller (Waive owner project submission) p r formed good e =
    let text = waiting_text submission p in
    let done = effect_on (Waive owner project submission) p in
    let found = if_vacuous (J.inspected text) ∷ [] in
    let six = cause_if (nat_le 1024 (length p.versions)) (Full 6) in
    let absent = cause_if (is_none (waiting_as submission p)) NotFound in
    let first = tried_none (cause_if (not (is_same caller owner)) NotAllowed) (absent ∷ six ∷ found) done r e in
    let second = tried_none absent (six ∷ found) done r first.1 in
    let third = tried_none six found done r second.1 in
    let fourth = tried_none (if_vacuous (J.inspected text)) [] done r third.1 in
    version_reviewed J 3 0 caller submission p good (some_of (waiting_as submission p) (cause_none (is_none (waiting_as submission p)) NotFound second.0)) (not_vacuous (J.inspected text) fourth.0)
    (inr ((λ kind. absurd (omega (arith, kind))), refl)) (λ kind. absurd (omega (arith, kind)))

found_reviewed : (J : Meaning) (caller : List ℕ) (act : Act) (test : Project → Bool) (found : Option Project) (r : Effect) → IfSome found (λ p. (IsProject p × IsReviewed J p) × (test p ≡ true))
    → outcome_on J caller act found ≡ Done r → IfSome found (λ p. IsReviewed J (project_after caller act p))
found_reviewed J caller act test None r all e = tt
found_reviewed J caller act test (Some p) r all e =
    act_reviewed J caller act p r all.0.0 all.0.1
    (tried_none (cause_if (not (is_member p caller)) NotFound) (row_causes caller act p ++ judge_causes J act p) (effect_on act p) r e).1

changed_reviewed : (J : Meaning) (tables : Tables) (caller : List ℕ) (act : Act) (r : Effect) → AllByRecursion IsProject tables.projects → AllByRecursion (IsReviewed J) tables.projects
    → outcome_on J caller act (project_named tables (owner_of caller act) (name_of act)) ≡ Done r
    → AllByRecursion (IsReviewed J) (changed (is_named (owner_of caller act) (name_of act)) (project_after caller act) tables.projects)
changed_reviewed J tables caller act r formed all e =
    let test = is_named (owner_of caller act) (name_of act) in
    All-changed (IsReviewed J) test (project_after caller act) tables.projects all
    (found_reviewed J caller act test (find test tables.projects) r (IfSome-find (λ p. IsProject p × IsReviewed J p) test tables.projects (all_both IsProject (IsReviewed J) tables.projects formed all)) e)

each_reviewed : (J : Meaning) (tables : Tables) (caller : List ℕ) (act : Act) (r : Effect) → AllByRecursion IsProject tables.projects → AllByRecursion (IsReviewed J) tables.projects
    → outcome_of J tables caller act ≡ Done r → AllByRecursion (IsReviewed J) (projects_after caller act tables.projects)
each_reviewed J tables caller (OpenProject name text) r formed all e =
    let found = if_refused (J.inspected text) ∷ if_vacuous (J.inspected text) ∷ [] in
    let two = cause_if (nat_le 64 (project_count tables caller)) (Full 2) in
    let first = tried_none (cause_if (is_some (project_named tables caller name)) AlreadyOpen) (two ∷ found) opening r e in
    let second = tried_none two found opening r first.1 in
    let third = tried_none (if_refused (J.inspected text)) (if_vacuous (J.inspected text) ∷ []) opening r second.1 in
    let fourth = tried_none (if_vacuous (J.inspected text)) [] opening r third.1 in
    All-push (IsReviewed J) tables.projects (opened caller name text) all
    (opened_reviewed J caller name text (parses_of (J.inspected text) third.0) (not_vacuous (J.inspected text) fourth.0))
each_reviewed J tables caller (AddMember owner project member) r formed all e = changed_reviewed J tables caller (AddMember owner project member) r formed all e
each_reviewed J tables caller (Submit owner project text) r formed all e = changed_reviewed J tables caller (Submit owner project text) r formed all e
each_reviewed J tables caller (Withdraw owner project submission) r formed all e = changed_reviewed J tables caller (Withdraw owner project submission) r formed all e
each_reviewed J tables caller (Accept owner project submission) r formed all e = changed_reviewed J tables caller (Accept owner project submission) r formed all e
each_reviewed J tables caller (Waive owner project submission) r formed all e = changed_reviewed J tables caller (Waive owner project submission) r formed all e

acts_well : (J : Meaning) (tables new : Tables) (caller id : List ℕ) (act : Act) (reply : Reply) (o : Outcome) → ReadsUtf8 J → Well J tables
    → kept_under tables caller id ≡ None → outcome J tables caller act ≡ o → Acts tables caller id act o new reply → Well J new
acts_well J tables new caller id act reply (NotDone cause) utf8 well absent is acts = subst (Well J) (sym acts.0) well
acts_well J tables new caller id act reply (Done done) utf8 well absent is acts =
    let change : Change = record { caller = caller; id = id; act = act; reply = done.reply; against = done.against } in
    let fits = fits_kept J utf8 tables caller id act done absent is in
    let split = outcome_step (nat_le 100000 (reply_count tables caller)) (outcome_of J tables caller act) done is in
    subst (Well J) (sym acts.0) (record {
      formed = AreFormed-after tables change well.formed fits;
      reviewed = each_reviewed J tables caller act done well.formed.each well.reviewed split.1;
    })

changes_well : (J : Meaning) (tables new : Tables) (caller id : List ℕ) (act : Act) (reply : Reply) (found : Option Change) → ReadsUtf8 J → Well J tables
    → kept_under tables caller id ≡ found → Changes J tables caller id act found new reply → Well J new
changes_well J tables new caller id act reply (Some kept) utf8 well is step = subst (Well J) (sym step.0) well
changes_well J tables new caller id act reply None utf8 well is step = acts_well J tables new caller id act reply (outcome J tables caller act) utf8 well is refl step

-- a step keeps rows well
pub Well-step : (J : Meaning) (tables new : Tables) (command : Command) (reply : Reply) → ReadsUtf8 J → Well J tables → Step J tables command new reply → Well J new
Well-step J tables new (ToChange caller id act) reply utf8 well step = changes_well J tables new caller id act reply (kept_under tables caller id) utf8 well refl step
Well-step J tables new (Ask caller query) reply utf8 well step = subst (Well J) (sym step.0) well
