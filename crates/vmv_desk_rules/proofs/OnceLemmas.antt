-- An act that was done is kept, and is done once.
use Rattle.std.proofs.Common.{◌≡◌, inl, inr, ◌&&◌, ℕ, Bool, true, false, cond, not, nat_le, nat_lt, nat_eq, ◌==◌, List, [], ◌∷◌, ◌++◌, length, find, Option, Some, None, IfSome, is_none, is_some, IsTrue, refl, ap, sym, ◌∙◌, subst}
use Rattle.std.specs.List.{AllByRecursion}
use borrow.Author.Tests.{eq-eqb}
use Rattle.vmv_keeper.specs.declared.project.Project.{Project}
use Rattle.vmv_keeper.specs.declared.change.Change.{Change}
use Rattle.vmv_keeper.specs.declared.act.Act.{Act}
use Rattle.vmv_keeper.specs.declared.act.Act.TheVariants.{OpenProject, AddMember, Submit, Withdraw, Accept, Waive}
use Rattle.vmv_keeper.specs.declared.act.Command.{Command}
use Rattle.vmv_keeper.specs.declared.act.Command.TheVariants.{Change as ToChange, Ask}
use Rattle.vmv_keeper.specs.declared.reply.Reply.{Reply}
use Rattle.vmv_keeper.specs.declared.reply.Reply.TheVariants.{NotFound, NotAllowed, Full, NotCorrect, AlreadyOpen, IdReused}
use Rattle.vmv_keeper.specs.declared.judge.Inspected.{Inspected}
use Rattle.vmv_keeper.specs.declared.judge.Inspected.TheVariants.{Fine, Refused, Vacuous}
use Rattle.vmv_keeper.specs.Formed.{IsDone}
use Rattle.vmv_keeper.specs.Tables.{Tables, is_same, is_member, is_kept_under, kept_under, waiting_as, project_named, project_count, reply_count}
use Rattle.vmv_keeper.specs.Changes.{waiting_text, reply_to}
use Rattle.vmv_desk_rules.specs.declared.outcome.Effect.{Effect}
use Rattle.vmv_desk_rules.specs.declared.outcome.Outcome.{Outcome}
use Rattle.vmv_desk_rules.specs.declared.outcome.Outcome.TheVariants.{Done, NotDone}
use Rattle.vmv_desk_rules.specs.Causes.{Meaning, cause_if, tried, if_refused, if_vacuous, verdict_of, effect_on, opening, root_text, row_causes, judge_causes, outcome_on, outcome_of, outcome}
use Rattle.vmv_desk_rules.specs.Step.{Step, Changes, Acts}
use Rattle.vmv_desk_rules.specs.Replies.{may_refuse, Belongs}
use Rattle.vmv_desk_rules.specs.Runs.{Turn, Runs}

-- causes that an act may have
abbrev May : Act → Option Reply → Type 0
May act cause = IfSome cause (λ r. IsTrue (may_refuse act r))

cause_belongs : (act : Act) (b : Bool) (r : Reply) → IsTrue (may_refuse act r) → May act (cause_if b r)
cause_belongs act true r h = h
cause_belongs act false r h = tt

tried_belongs : (act : Act) (causes : List (Option Reply)) (done : Effect) → AllByRecursion (May act) causes → IsDone act done.reply → Belongs act (tried causes done)
tried_belongs act [] done all h = h
tried_belongs act (None ∷ causes) done all h = tried_belongs act causes done all.1 h
tried_belongs act (Some cause ∷ causes) done all h = all.0

all_both : (act : Act) (front back : List (Option Reply)) → AllByRecursion (May act) front → AllByRecursion (May act) back → AllByRecursion (May act) (front ++ back)
all_both act [] back f b = b
all_both act (c ∷ front) back f b = (f.0, all_both act front back f.1 b)

opening_refused : (name text : List ℕ) (said : Inspected) → May (OpenProject name text) (if_refused said) × May (OpenProject name text) (if_vacuous said)
opening_refused name text Fine = (tt, tt)
opening_refused name text (Refused number line column) = (refl, tt)
opening_refused name text Vacuous = (tt, refl)

submitting_refused : (owner project text : List ℕ) (said : Inspected) → May (Submit owner project text) (if_refused said)
submitting_refused owner project text Fine = tt
submitting_refused owner project text (Refused number line column) = refl
submitting_refused owner project text Vacuous = tt

accepting_vacuous : (owner project : List ℕ) (s : ℕ) (said : Inspected) → May (Accept owner project s) (if_vacuous said)
accepting_vacuous owner project s Fine = tt
accepting_vacuous owner project s (Refused number line column) = tt
accepting_vacuous owner project s Vacuous = refl

waiving_vacuous : (owner project : List ℕ) (s : ℕ) (said : Inspected) → May (Waive owner project s) (if_vacuous said)
waiving_vacuous owner project s Fine = tt
waiving_vacuous owner project s (Refused number line column) = tt
waiving_vacuous owner project s Vacuous = refl

rows_belong : (caller : List ℕ) (act : Act) (p : Project) → AllByRecursion (May act) (row_causes caller act p)
rows_belong caller (OpenProject name text) p = tt
rows_belong caller (AddMember owner project member) p = (
  cause_belongs (AddMember owner project member) (not (is_same caller owner)) NotAllowed refl,
  (cause_belongs (AddMember owner project member) (not (is_member p member) && nat_le 64 (length p.members)) (Full 3) refl, tt),
)
rows_belong caller (Submit owner project text) p =
    (cause_belongs (Submit owner project text) (nat_le 32 (length p.pending)) (Full 4) refl, (cause_belongs (Submit owner project text) (nat_lt 1000000 p.next) (Full 5) refl, tt))
rows_belong caller (Withdraw owner project s) p = (cause_belongs (Withdraw owner project s) (is_none (waiting_as s p)) NotFound refl, tt)
rows_belong caller (Accept owner project s) p =
    (cause_belongs (Accept owner project s) (is_none (waiting_as s p)) NotFound refl, (cause_belongs (Accept owner project s) (nat_le 1024 (length p.versions)) (Full 6) refl, tt))
rows_belong caller (Waive owner project s) p = (
  cause_belongs (Waive owner project s) (not (is_same caller owner)) NotAllowed refl,
  (
    cause_belongs (Waive owner project s) (is_none (waiting_as s p)) NotFound refl,
    (cause_belongs (Waive owner project s) (nat_le 1024 (length p.versions)) (Full 6) refl, tt),
  ),
)

judged_belong : (J : Meaning) (act : Act) (p : Project) → AllByRecursion (May act) (judge_causes J act p)
judged_belong J (OpenProject name text) p = tt
judged_belong J (AddMember owner project member) p = tt
judged_belong J (Submit owner project text) p = (submitting_refused owner project text (J.inspected text), tt)
judged_belong J (Withdraw owner project s) p = tt
judged_belong J (Accept owner project s) p =
    let said = J.compared (root_text p) (waiting_text s p) in
    (cause_belongs (Accept owner project s) (not (verdict_of said == 1)) (NotCorrect (verdict_of said)) refl, (accepting_vacuous owner project s (J.inspected (waiting_text s p)), tt))
judged_belong J (Waive owner project s) p = (waiving_vacuous owner project s (J.inspected (waiting_text s p)), tt)

-- an act on a project that is there
abbrev IsOn : Act → Type 0
IsOn (OpenProject name text) = ⊥
IsOn _ = Unit {0}

not_found_belongs : (act : Act) → IsOn act → IsTrue (may_refuse act NotFound)
not_found_belongs (OpenProject name text) on = absurd on
not_found_belongs (AddMember owner project member) on = refl
not_found_belongs (Submit owner project text) on = refl
not_found_belongs (Withdraw owner project s) on = refl
not_found_belongs (Accept owner project s) on = refl
not_found_belongs (Waive owner project s) on = refl

reply_done : (act : Act) (p : Project) → IsDone act (reply_to act p)
reply_done (OpenProject name text) p = (_, refl)
reply_done (AddMember owner project member) p = (_, refl)
reply_done (Submit owner project text) p = (_, refl)
reply_done (Withdraw owner project s) p = (_, refl)
reply_done (Accept owner project s) p = (_, refl)
reply_done (Waive owner project s) p = (_, refl)

on_belongs : (J : Meaning) (caller : List ℕ) (act : Act) (found : Option Project) → IsOn act → Belongs act (outcome_on J caller act found)
on_belongs J caller act None on = not_found_belongs act on
on_belongs J caller act (Some p) on =
    tried_belongs act (cause_if (not (is_member p caller)) NotFound ∷ (row_causes caller act p ++ judge_causes J act p)) (effect_on act p)
    (cause_belongs act (not (is_member p caller)) NotFound (not_found_belongs act on), all_both act (row_causes caller act p) (judge_causes J act p) (rows_belong caller act p) (judged_belong J act p))
    (reply_done act p)

of_belongs : (J : Meaning) (tables : Tables) (caller : List ℕ) (act : Act) → Belongs act (outcome_of J tables caller act)
of_belongs J tables caller (OpenProject name text) =
    let act : Act = OpenProject name text in
    let both = opening_refused name text (J.inspected text) in
    tried_belongs act (cause_if (is_some (project_named tables caller name)) AlreadyOpen ∷ cause_if (nat_le 64 (project_count tables caller)) (Full 2)
    ∷ if_refused (J.inspected text) ∷ if_vacuous (J.inspected text) ∷ []) opening
    (cause_belongs act (is_some (project_named tables caller name)) AlreadyOpen refl, (cause_belongs act (nat_le 64 (project_count tables caller)) (Full 2) refl, (both.0, (both.1, tt)))) (1, refl)
of_belongs J tables caller (AddMember owner project member) = on_belongs J caller (AddMember owner project member) (project_named tables owner project) tt
of_belongs J tables caller (Submit owner project text) = on_belongs J caller (Submit owner project text) (project_named tables owner project) tt
of_belongs J tables caller (Withdraw owner project s) = on_belongs J caller (Withdraw owner project s) (project_named tables owner project) tt
of_belongs J tables caller (Accept owner project s) = on_belongs J caller (Accept owner project s) (project_named tables owner project) tt
of_belongs J tables caller (Waive owner project s) = on_belongs J caller (Waive owner project s) (project_named tables owner project) tt

full_belongs : (act : Act) → IsTrue (may_refuse act (Full 1))
full_belongs (OpenProject name text) = refl
full_belongs (AddMember owner project member) = refl
full_belongs (Submit owner project text) = refl
full_belongs (Withdraw owner project s) = refl
full_belongs (Accept owner project s) = refl
full_belongs (Waive owner project s) = refl

full_step : (act : Act) (full : Bool) (of : Outcome) → Belongs act of → Belongs act (cond full (NotDone (Full 1)) of)
full_step act true of h = full_belongs act
full_step act false of h = h

pub outcome_belongs : (J : Meaning) (tables : Tables) (caller : List ℕ) (act : Act) → Belongs act (outcome J tables caller act)
outcome_belongs J tables caller act = full_step act (nat_le 100000 (reply_count tables caller)) (outcome_of J tables caller act) (of_belongs J tables caller act)

-- the reply of an act that was done is no refusal
done_is_none : (act : Act) (r : Reply) → IsDone act r → IsTrue (may_refuse act r) → ⊥
done_is_none (OpenProject name text) r done h = let P : Reply → Type 0 = λ x. IsTrue (may_refuse (OpenProject name text) x) in let reply_may = subst P done.1 h in absurd (cc reply_may)
done_is_none (AddMember owner project member) r done h = let P : Reply → Type 0 = λ x. IsTrue (may_refuse (AddMember owner project member) x) in let reply_may = subst P done.1 h in absurd (cc reply_may)
done_is_none (Submit owner project text) r done h = let P : Reply → Type 0 = λ x. IsTrue (may_refuse (Submit owner project text) x) in let reply_may = subst P done.1 h in absurd (cc reply_may)
done_is_none (Withdraw owner project s) r done h = let P : Reply → Type 0 = λ x. IsTrue (may_refuse (Withdraw owner project s) x) in let reply_may = subst P done.1 h in absurd (cc reply_may)
done_is_none (Accept owner project s) r done h = let P : Reply → Type 0 = λ x. IsTrue (may_refuse (Accept owner project s) x) in let reply_may = subst P done.1 h in absurd (cc reply_may)
done_is_none (Waive owner project s) r done h = let P : Reply → Type 0 = λ x. IsTrue (may_refuse (Waive owner project s) x) in let reply_may = subst P done.1 h in absurd (cc reply_may)

reused_belongs : (act : Act) → IsTrue (may_refuse act IdReused)
reused_belongs (OpenProject name text) = refl
reused_belongs (AddMember owner project member) = refl
reused_belongs (Submit owner project text) = refl
reused_belongs (Withdraw owner project s) = refl
reused_belongs (Accept owner project s) = refl
reused_belongs (Waive owner project s) = refl

-- what is kept, and one more

find_new_step : {X : Type 0} (y x : X) (found later : Option X) (b : Bool) → cond b (Some y) found ≡ None → (found ≡ None → later ≡ Some x) → cond b (Some y) later ≡ Some x
find_new_step y x found later true e h = absurd (cc e)
find_new_step y x found later false e h = h e

find_here : {X : Type 0} (x : X) (b : Bool) → b ≡ true → cond b (Some x) None ≡ Some x
find_here x true e = refl
find_here x false e = absurd (cc e)

find_new : {X : Type 0} (test : X → Bool) (xs : List X) (x : X) → find test xs ≡ None → test x ≡ true → find test (xs ++ x ∷ []) ≡ Some x
find_new test [] x e h = find_here x (test x) h
find_new test (y ∷ ys) x e h = find_new_step y x (find test ys) (find test (ys ++ x ∷ [])) (test y) e (λ rest. find_new test ys x rest h)

find_old_step : {X : Type 0} (y k : X) (found later : Option X) (b : Bool) → cond b (Some y) found ≡ Some k → (found ≡ Some k → later ≡ Some k) → cond b (Some y) later ≡ Some k
find_old_step y k found later true e h = e
find_old_step y k found later false e h = h e

find_old : {X : Type 0} (test : X → Bool) (xs : List X) (x k : X) → find test xs ≡ Some k → find test (xs ++ x ∷ []) ≡ Some k
find_old test [] x k e = absurd (cc e)
find_old test (y ∷ ys) x k e = find_old_step y k (find test ys) (find test (ys ++ x ∷ [])) (test y) e (find_old test ys x k)

acts_keep : (tables new : Tables) (caller id : List ℕ) (act : Act) (o : Outcome) (reply : Reply) (other other_id : List ℕ) (k : Change)
    → Acts tables caller id act o new reply → kept_under tables other other_id ≡ Some k → kept_under new other other_id ≡ Some k
acts_keep tables new caller id act (NotDone cause) reply other other_id k step e = ap (λ t. kept_under t other other_id) step.0 ∙ e
acts_keep tables new caller id act (Done done) reply other other_id k step e =
    ap (λ t. kept_under t other other_id) step.0
    ∙ find_old (is_kept_under other other_id) tables.replies (record { caller = caller; id = id; act = act; reply = done.reply; against = done.against }) k e

changes_keep : (J : Meaning) (tables new : Tables) (caller id : List ℕ) (act : Act) (found : Option Change) (reply : Reply) (other other_id : List ℕ) (k : Change)
    → Changes J tables caller id act found new reply → kept_under tables other other_id ≡ Some k → kept_under new other other_id ≡ Some k
changes_keep J tables new caller id act (Some kept) reply other other_id k step e = ap (λ t. kept_under t other other_id) step.0 ∙ e
changes_keep J tables new caller id act None reply other other_id k step e = acts_keep tables new caller id act (outcome J tables caller act) reply other other_id k step e

step_keeps : (J : Meaning) (tables new : Tables) (command : Command) (reply : Reply) (other other_id : List ℕ) (k : Change)
    → Step J tables command new reply → kept_under tables other other_id ≡ Some k → kept_under new other other_id ≡ Some k
step_keeps J tables new (ToChange caller id act) reply other other_id k step e =
    changes_keep J tables new caller id act (kept_under tables caller id) reply other other_id k step e
step_keeps J tables new (Ask caller query) reply other other_id k step e = ap (λ t. kept_under t other other_id) step.0 ∙ e

turn_keeps : (J : Meaning) (tables new : Tables) (command : Command) (reply : Reply) (other other_id : List ℕ) (k : Change)
    → Turn J tables command new reply → kept_under tables other other_id ≡ Some k → kept_under new other other_id ≡ Some k
turn_keeps J tables new command reply other other_id k (inl step) e = step_keeps J tables new command reply other other_id k step e
turn_keeps J tables new command reply other other_id k (inr fault) e = ap (λ t. kept_under t other other_id) fault.0 ∙ e

-- what is kept stays kept over any commands
pub runs_keep : (J : Meaning) (tables new : Tables) (commands : List Command) (replies : List Reply) (other other_id : List ℕ) (k : Change)
    → Runs J tables commands new replies → kept_under tables other other_id ≡ Some k → kept_under new other other_id ≡ Some k
runs_keep J tables new [] replies other other_id k runs e = ap (λ t. kept_under t other other_id) runs.0 ∙ e
runs_keep J tables new (command ∷ commands) replies other other_id k runs e =
    runs_keep J runs.0 new commands runs.2 other other_id k runs.4 (turn_keeps J tables runs.0 command runs.1 other other_id k runs.3 e)

both_true : (a b : Bool) → a ≡ true → b ≡ true → (a && b) ≡ true
both_true true b e h = h
both_true false b e h = absurd (cc e)

same_label : (a : List ℕ) → is_same a a ≡ true
same_label [] = refl
same_label (x ∷ xs) = both_true (nat_eq x x) (is_same xs xs) (eq-eqb x x refl) (same_label xs)

-- an act that was done is kept

acts_kept : (tables new : Tables) (caller id : List ℕ) (act : Act) (o : Outcome) (reply : Reply) → kept_under tables caller id ≡ None → Belongs act o
    → Acts tables caller id act o new reply → IsDone act reply → (k : Change) × (kept_under new caller id ≡ Some k) × (k.act ≡ act) × (k.reply ≡ reply)
acts_kept tables new caller id act (NotDone cause) reply absent belongs step done =
    absurd (done_is_none act reply done (let P : Reply → Type 0 = λ r. IsTrue (may_refuse act r) in subst P (sym step.1) belongs))
acts_kept tables new caller id act (Done r) reply absent belongs step done =
    let change : Change = record { caller = caller; id = id; act = act; reply = r.reply; against = r.against } in (
      change,
      ap (λ t. kept_under t caller id) step.0
          ∙ find_new (is_kept_under caller id) tables.replies change absent (both_true (is_same caller caller) (is_same id id) (same_label caller) (same_label id)),
      refl,
      sym step.1,
    )

changes_kept : (J : Meaning) (tables new : Tables) (caller id : List ℕ) (act : Act) (found : Option Change) (reply : Reply) → kept_under tables caller id ≡ found
    → Changes J tables caller id act found new reply → IsDone act reply → (k : Change) × (kept_under new caller id ≡ Some k) × (k.act ≡ act) × (k.reply ≡ reply)
changes_kept J tables new caller id act (Some kept) reply is (same, inl repeated) done = (kept, ap (λ t. kept_under t caller id) same ∙ is, repeated.0, sym repeated.1)
changes_kept J tables new caller id act (Some kept) reply is (same, inr other) done =
    absurd (done_is_none act reply done (let P : Reply → Type 0 = λ r. IsTrue (may_refuse act r) in subst P (sym other.1) (reused_belongs act)))
changes_kept J tables new caller id act None reply is step done =
    acts_kept tables new caller id act (outcome J tables caller act) reply is (outcome_belongs J tables caller act) step done

again_step : (J : Meaning) (tables new : Tables) (caller id : List ℕ) (act : Act) (found : Option Change) (reply : Reply) (k : Change) → found ≡ Some k → k.act ≡ act
    → Changes J tables caller id act found new reply → (reply ≡ k.reply) × (new ≡ tables)
again_step J tables new caller id act None reply k is same step = absurd (cc is)
again_step J tables new caller id act (Some kept) reply k is same (unchanged, inl repeated) = let e : kept ≡ k = cc is in (repeated.1 ∙ ap (λ (x : Change). x.reply) e, unchanged)
again_step J tables new caller id act (Some kept) reply k is same (unchanged, inr other) = let e : kept ≡ k = cc is in absurd (other.0 (ap (λ (x : Change). x.act) e ∙ same))

-- an act that was done is kept, whatever came since
pub kept_since : (J : Meaning) (before behind now : Tables) (caller id : List ℕ) (act : Act) (reply : Reply) (commands : List Command) (replies : List Reply)
    → Step J before (ToChange caller id act) behind reply → IsDone act reply → Runs J behind commands now replies
    → (k : Change) × (kept_under now caller id ≡ Some k) × (k.act ≡ act) × (k.reply ≡ reply)
kept_since J before behind now caller id act reply commands replies step done runs =
    let kept = changes_kept J before behind caller id act (kept_under before caller id) reply refl step done in
    (kept.0, runs_keep J behind now commands replies caller id kept.0 runs kept.1, kept.2, kept.3)

-- an id acts once
pub once : (J : Meaning) (before behind now then : Tables) (caller id : List ℕ) (act : Act) (reply again : Reply) (commands : List Command) (replies : List Reply)
    → Step J before (ToChange caller id act) behind reply → IsDone act reply → Runs J behind commands now replies
    → Step J now (ToChange caller id act) then again → (again ≡ reply) × (then ≡ now)
once J before behind now then caller id act reply again commands replies step done runs repeated =
    let kept = kept_since J before behind now caller id act reply commands replies step done runs in
    let same = again_step J now then caller id act (kept_under now caller id) again kept.0 kept.1 kept.2 repeated in
    (same.0 ∙ kept.3, same.1)
