-- The rows show what was done.
use Rattle.std.proofs.Common.{◌≡◌, ◌≤◌, ◌<◌, ◌+◌, ◌==◌, ◌||◌, ℕ, Bool, true, false, cond, not, nat_le, List, [], ◌∷◌, ◌++◌, map, length, find, Option, Some, None, is_none, is_some, IsSomeAnd, unwrap_or, refl, ap, sym, ◌∙◌, subst, arith, length-append}
use Rattle.std.specs.Option.{option_map, option_and_then}
use Rattle.std.specs.List.{AllByRecursion, list_any}
use Rattle.std.proofs.lemmas.Bool.{eqb-true, eq-eqb}
use Rattle.vmv_keeper.specs.declared.project.Project.{Project}
use Rattle.vmv_keeper.specs.declared.project.Version.{Version}
use Rattle.vmv_keeper.specs.declared.project.Waiting.{Waiting}
use Rattle.vmv_keeper.specs.declared.reply.VersionRow.{VersionRow}
use Rattle.vmv_keeper.specs.declared.change.Change.{Change}
use Rattle.vmv_keeper.specs.declared.act.Act.{Act}
use Rattle.vmv_keeper.specs.declared.act.Act.TheVariants.{OpenProject, AddMember, Submit, Withdraw, Accept, Waive}
use Rattle.vmv_keeper.specs.declared.act.Command.TheVariants.{Change as ToChange}
use Rattle.vmv_keeper.specs.declared.reply.Reply.{Reply}
use Rattle.vmv_keeper.specs.declared.reply.Reply.TheVariants.{NotFound, NotAllowed, Full, AlreadyOpen}
use Rattle.vmv_keeper.specs.Tables.{Tables, is_same, is_named, is_member, is_version, is_submission, root_number, waiting_as, submitted_of, submission_in, project_named, project_count, kept_under, reply_count}
use Rattle.vmv_keeper.specs.Formed.{AreFormed, IsProject, IsDone, Rises, AreNumbered}
use Rattle.vmv_keeper.specs.Changes.{after, opened, without, with_submission, with_version, waiting_text, changed, project_after, owner_of, name_of, reply_to}
use Rattle.vmv_keeper.proofs.FormedReads.{IsProject-found}
use Rattle.vmv_keeper.proofs.ListChanges.{All-weaken}
use Rattle.vmv_desk_rules.specs.declared.outcome.Effect.{Effect}
use Rattle.vmv_desk_rules.specs.declared.outcome.Outcome.{Outcome}
use Rattle.vmv_desk_rules.specs.declared.outcome.Outcome.TheVariants.{Done, NotDone}
use Rattle.vmv_desk_rules.specs.Causes.{Meaning, cause_if, tried, effect_on, opening, if_refused, if_vacuous, last_text, row_causes, judge_causes, outcome_on, outcome_of, outcome}
use Rattle.vmv_desk_rules.specs.Step.{Step, Changes, Acts}
use Rattle.vmv_desk_rules.proofs.FitsLemmas.{tried_none, cause_none, outcome_step}
use Rattle.vmv_desk_rules.proofs.OnceLemmas.{kept_since}
use Rattle.vmv_desk_laws.specs.Shown.{Shows, root_in, IsLatest, BecameVersion, IsOpened}
use Rattle.vmv_desk_laws.proofs.SeenLemmas.{both_true, same_label}
use Rattle.vmv_desk_laws.proofs.NamedLemmas.{not_true, named_after, new_found_push, changed_found}

some_and : {X : Type 0} (found : Option X) (x : X) (P : X → Type 0) → found ≡ Some x → P x → IsSomeAnd found P
some_and found x P e h = let Q : Option _ → Type 0 = λ o. IsSomeAnd o P in subst Q (sym e) h

none_found : {X : Type 0} (p : X → Bool) (xs : List X) → AllByRecursion (λ x. p x ≡ false) xs → find p xs ≡ None
none_found p [] all = refl
none_found p (x ∷ xs) all = ap (λ b. cond b (Some x) (find p xs)) all.0 ∙ none_found p xs all.1

other_number : (a b : ℕ) → a < b → (a == b) ≡ false
other_number a b less = not_true (a == b) (λ e. let same = eqb-true a b e in omega arith)

-- the latest version

versions_below : (n k : ℕ) (vs : List Version) → AreNumbered k (map (λ (v : Version). v.row) vs) → k + length vs ≤ n → AllByRecursion (λ v. is_version n v ≡ false) vs
versions_below n k [] numbered le = tt
versions_below n k (v ∷ vs) numbered le =
    let at = numbered.0 in (other_number v.row.number n (omega arith), versions_below n (k + 1) vs numbered.1 (omega arith))

last_pushed : (vs : List Version) (v : Version) → last_text (vs ++ v ∷ []) ≡ v.text
last_pushed [] v = refl
last_pushed (x ∷ []) v = refl
last_pushed (x ∷ y ∷ rest) v = last_pushed (y ∷ rest) v

latest_after : (kind against : ℕ) (caller : List ℕ) (s : ℕ) (p : Project) (text : List ℕ) → IsProject p → waiting_text s p ≡ text
    → IsLatest (record { number = length p.versions + 1; kind = kind; submission = s; by = caller; against = against }) text (with_version kind against caller s p)
latest_after kind against caller s p text good is =
    let n = length p.versions + 1 in
    let row : VersionRow = record { number = n; kind = kind; submission = s; by = caller; against = against } in
    let with_text : List ℕ → Version = λ t. record { row = row; text = t } in
    let v = with_text (waiting_text s p) in (
      new_found_push (is_version n) p.versions v (none_found (is_version n) p.versions (versions_below n 1 p.versions good.held.numbered (omega arith))) (eq-eqb n n refl)
          ∙ ap (λ t. Some (with_text t)) is,
      length-append p.versions (v ∷ []),
      last_pushed p.versions v ∙ is,
    )

-- what waits

below_none : (s low : ℕ) (ws : List Waiting) → Rises low (map (λ (w : Waiting). w.row.submission) ws) → s < low → find (is_submission s) ws ≡ None
below_none s low [] rises less = refl
below_none s low (w ∷ ws) rises less =
    let le = rises.0 in
    let differ : is_submission s w ≡ false = not_true (is_submission s w) (λ e. let same = eqb-true w.row.submission s e in omega arith) in
    ap (λ b. cond b (Some w) (find (is_submission s) ws)) differ ∙ below_none s (w.row.submission + 1) ws rises.1 (omega arith)

gone_step : (s : ℕ) (w : Waiting) (ws later : List Waiting) (b : Bool) → is_submission s w ≡ b → (b ≡ true → find (is_submission s) ws ≡ None) → find (is_submission s) later ≡ None
    → find (is_submission s) (cond b ws (w ∷ later)) ≡ None
gone_step s w ws later true e alone h = alone refl
gone_step s w ws later false e alone h = ap (λ b. cond b (Some w) (find (is_submission s) later)) e ∙ h

gone : (s low : ℕ) (ws : List Waiting) → Rises low (map (λ (w : Waiting). w.row.submission) ws) → find (is_submission s) (without (is_submission s) ws) ≡ None
gone s low [] rises = refl
gone s low (w ∷ ws) rises =
    gone_step s w ws (without (is_submission s) ws) (is_submission s w) refl
    (λ e. let same = eqb-true w.row.submission s e in below_none s (w.row.submission + 1) ws rises.1 (omega arith)) (gone s (w.row.submission + 1) ws rises.1)

waits_after : (caller text : List ℕ) (p : Project) → IsProject p
    → waiting_as p.next (with_submission caller text p) ≡ Some (record { row = record { submission = p.next; by = caller }; text = text })
waits_after caller text p good =
    let below = All-weaken (λ (w : Waiting). w.row.submission < p.next) (λ (w : Waiting). is_submission p.next w ≡ false) (λ w less. other_number w.row.submission p.next less) p.pending good.below in
    new_found_push (is_submission p.next) p.pending (record { row = record { submission = p.next; by = caller }; text = text }) (none_found (is_submission p.next) p.pending below) (eq-eqb p.next p.next refl)

-- members

any_last_step : (b any : Bool) → any ≡ true → (b || any) ≡ true
any_last_step true any e = refl
any_last_step false any e = e

any_last : {X : Type 0} (p : X → Bool) (xs : List X) (x : X) → p x ≡ true → list_any p (xs ++ x ∷ []) ≡ true
any_last p [] x e = ap (λ b. b || false) e
any_last p (y ∷ ys) x e = any_last_step (p y) (list_any p (ys ++ x ∷ [])) (any_last p ys x e)

member_after : (member : List ℕ) (p : Project) (b : Bool) → is_member p member ≡ b → is_member (cond b p (record p { members = p.members ++ member ∷ [] })) member ≡ true
member_after member p true e = e
member_after member p false e = any_last (λ m. is_same m member) p.members member (same_label member)

-- an act that is done, on a project that is there

done_reply : (causes : List (Option Reply)) (done r : Effect) → tried causes done ≡ Done r → r ≡ done
done_reply [] done r e = cc e
done_reply (None ∷ causes) done r e = done_reply causes done r e
done_reply (Some cause ∷ causes) done r e = absurd (cc e)

done_on : (J : Meaning) (caller : List ℕ) (act : Act) (found : Option Project) (r : Effect) → outcome_on J caller act found ≡ Done r
    → (p : Project) × (found ≡ Some p) × (r.reply ≡ reply_to act p) × (tried (row_causes caller act p ++ judge_causes J act p) (effect_on act p) ≡ Done r)
done_on J caller act None r e = absurd (cc e)
done_on J caller act (Some p) r e =
    let causes = row_causes caller act p ++ judge_causes J act p in
    let tried_rest = (tried_none (cause_if (not (is_member p caller)) NotFound) causes (effect_on act p) r e).1 in
    (p, refl, ap (λ (x : Effect). x.reply) (done_reply causes (effect_on act p) r tried_rest), tried_rest)

some_found : {X : Type 0} (found : Option X) → is_none found ≡ false → (x : X) × (found ≡ Some x)
some_found None e = absurd (cc e)
some_found (Some x) e = (x, refl)

waits_where : (causes : List (Option Reply)) (done r : Effect) (s : ℕ) (p : Project) → tried (cause_if (is_none (waiting_as s p)) NotFound ∷ causes) done ≡ Done r
    → (w : Waiting) × (waiting_as s p ≡ Some w)
waits_where causes done r s p e =
    some_found (waiting_as s p) (cause_none (is_none (waiting_as s p)) NotFound (tried_none (cause_if (is_none (waiting_as s p)) NotFound) causes done r e).0)

none_of : {X : Type 0} (found : Option X) → is_some found ≡ false → found ≡ None
none_of None e = refl
none_of (Some x) e = absurd (cc e)

-- the project that was changed
changed_named : (before : Tables) (caller : List ℕ) (act : Act) (p : Project) → project_named before (owner_of caller act) (name_of act) ≡ Some p
    → find (is_named (owner_of caller act) (name_of act)) (changed (is_named (owner_of caller act) (name_of act)) (project_after caller act) before.projects) ≡ Some (project_after caller act p)
changed_named before caller act p e =
    changed_found (is_named (owner_of caller act) (name_of act)) (project_after caller act) (named_after (owner_of caller act) (name_of act) caller act) before.projects p e

became : (before : Tables) (kind against : ℕ) (caller owner project : List ℕ) (s : ℕ) (p : Project) (w : Waiting) (found : Option Project) → AreFormed before
    → project_named before owner project ≡ Some p → waiting_as s p ≡ Some w → found ≡ Some (with_version kind against caller s p)
    → IsSomeAnd (submission_in owner project s before) (λ waited. IsSomeAnd found (BecameVersion (length p.versions + 1) kind against s caller waited))
became before kind against caller owner project s p w found formed e waits now =
    let good = IsProject-found owner project before.projects p formed.each e in
    let n = length p.versions + 1 in
    some_and (submission_in owner project s before) (submitted_of w) (λ waited. IsSomeAnd found (BecameVersion n kind against s caller waited))
    (ap (λ o. option_and_then (λ q. option_map submitted_of (waiting_as s q)) o) e ∙ ap (λ o. option_map submitted_of o) waits)
    (some_and found (with_version kind against caller s p) (BecameVersion n kind against s caller (submitted_of w)) now
    (latest_after kind against caller s p w.text good (ap (λ o. unwrap_or (option_map (λ (x : Waiting). x.text) o) []) waits), gone s 1 p.pending good.bench.rising))

shown_of : (J : Meaning) (before : Tables) (caller id : List ℕ) (act : Act) (r : Effect) → AreFormed before → outcome_of J before caller act ≡ Done r
    → Shows before (after (record { caller = caller; id = id; act = act; reply = r.reply; against = r.against }) before) caller act r.reply
shown_of J before caller id (OpenProject name text) r formed e =
    let known = is_some (project_named before caller name) in
    let causes = cause_if (nat_le 64 (project_count before caller)) (Full 2) ∷ if_refused (J.inspected text) ∷ if_vacuous (J.inspected text) ∷ [] in
    let first = tried_none (cause_if known AlreadyOpen) causes opening r e in
    let absent = none_of (project_named before caller name) (cause_none known AlreadyOpen first.0) in
    let named = both_true (is_same caller caller) (is_same name name) (same_label caller) (same_label name) in (
      ap (λ (x : Effect). x.reply) (done_reply causes opening r first.1),
      some_and _ (opened caller name text) (IsOpened caller text) (new_found_push (is_named caller name) before.projects (opened caller name text) absent named) ((refl, refl, refl), refl, refl),
    )
shown_of J before caller id (AddMember owner project member) r formed e =
    let act : Act = AddMember owner project member in
    let there = done_on J caller act (project_named before owner project) r e in
    let p = there.0 in (
      _,
      there.2,
      some_and _ (project_after caller act p) _ (changed_named before caller act p there.1) (member_after member p (is_member p member) refl, refl),
    )
shown_of J before caller id (Submit owner project text) r formed e =
    let act : Act = Submit owner project text in
    let there = done_on J caller act (project_named before owner project) r e in
    let p = there.0 in (
      p.next,
      there.2,
      some_and _ (project_after caller act p) _ (changed_named before caller act p there.1) (waits_after caller text p (IsProject-found owner project before.projects p formed.each there.1)),
    )
shown_of J before caller id (Withdraw owner project s) r formed e =
    let act : Act = Withdraw owner project s in
    let there = done_on J caller act (project_named before owner project) r e in
    let p = there.0 in (
      there.2,
      some_and _ (project_after caller act p) _ (changed_named before caller act p there.1) (gone s 1 p.pending (IsProject-found owner project before.projects p formed.each there.1).bench.rising),
    )
shown_of J before caller id (Accept owner project s) r formed e =
    let act : Act = Accept owner project s in
    let there = done_on J caller act (project_named before owner project) r e in
    let p = there.0 in
    let causes = cause_if (nat_le 1024 (length p.versions)) (Full 6) ∷ judge_causes J act p in
    let waits = waits_where causes (effect_on act p) r s p there.3 in
    let now = project_named (after (record { caller = caller; id = id; act = act; reply = r.reply; against = r.against }) before) owner project in
    let P : ℕ → Type 0 = λ against. IsSomeAnd (submission_in owner project s before) (λ waited. IsSomeAnd now (BecameVersion (length p.versions + 1) 2 against s caller waited)) in
    let root : root_number p ≡ root_in owner project before = ap (λ o. unwrap_or (option_map root_number o) 0) (sym there.1) in
    (length p.versions + 1, there.2, subst P root (became before 2 (root_number p) caller owner project s p waits.0 now formed there.1 waits.1 (changed_named before caller act p there.1)))
shown_of J before caller id (Waive owner project s) r formed e =
    let act : Act = Waive owner project s in
    let there = done_on J caller act (project_named before owner project) r e in
    let p = there.0 in
    let causes = cause_if (nat_le 1024 (length p.versions)) (Full 6) ∷ judge_causes J act p in
    let owned = tried_none (cause_if (not (is_same caller owner)) NotAllowed) (cause_if (is_none (waiting_as s p)) NotFound ∷ causes) (effect_on act p) r there.3 in
    let waits = waits_where causes (effect_on act p) r s p owned.1 in
    (length p.versions + 1, there.2, became before 3 0 caller owner project s p waits.0 _ formed there.1 waits.1 (changed_named before caller act p there.1))

shown_acts : (J : Meaning) (before behind : Tables) (caller id : List ℕ) (act : Act) (o : Outcome) (reply : Reply) (k : Change) → AreFormed before
    → kept_under before caller id ≡ None → kept_under behind caller id ≡ Some k → outcome J before caller act ≡ o → Acts before caller id act o behind reply
    → Shows before behind caller act reply
shown_acts J before behind caller id act (NotDone cause) reply k formed absent kept e step =
    absurd (let both : None ≡ Some k = sym absent ∙ ap (λ t. kept_under t caller id) (sym step.0) ∙ kept in cc both)
shown_acts J before behind caller id act (Done done) reply k formed absent kept e step =
    let split = outcome_step (nat_le 100000 (reply_count before caller)) (outcome_of J before caller act) done e in
    let P : Tables → Type 0 = λ t. Shows before t caller act reply in
    let Q : Reply → Type 0 = λ r. Shows before (after (record { caller = caller; id = id; act = act; reply = done.reply; against = done.against }) before) caller act r in
    subst P (sym step.0) (subst Q (sym step.1) (shown_of J before caller id act done formed split.1))

-- what was done under a new id is in the rows
pub shown_step : (J : Meaning) (before behind : Tables) (caller id : List ℕ) (act : Act) (reply : Reply) → AreFormed before → kept_under before caller id ≡ None
    → Step J before (ToChange caller id act) behind reply → IsDone act reply → Shows before behind caller act reply
shown_step J before behind caller id act reply formed absent step done =
    let kept = kept_since J before behind behind caller id act reply [] [] step done (refl, refl) in
    let P : Option Change → Type 0 = λ found. Changes J before caller id act found behind reply in
    shown_acts J before behind caller id act (outcome J before caller act) reply kept.0 formed absent kept.1 refl (subst P absent step)
