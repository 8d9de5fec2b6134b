-- What comes of a command by what a judge said.
use Rattle.std.proofs.Common.{map, count_by, ◌+◌, ◌≤◌, ◌≡◌, ◌<◌, ℕ, Bool, true, false, cond, nat_le, List, [], ◌∷◌, Option, Some, None, is_some, Result, Ok, Err, IfOk, OnOk, OnErr, IsTrue, IsUtf8, refl, ap, sym, ◌∙◌, subst, arith}
use Rattle.std.specs.Option.{option_map}
use Rattle.std.specs.List.{fold}
use borrow.Author.Tests.{leb-true, leb-false}
use Rattle.vmv_keeper.specs.declared.project.Project.{Project}
use Rattle.vmv_keeper.specs.declared.project.Held.{Held}
use Rattle.vmv_keeper.specs.declared.change.Change.{Change}
use Rattle.vmv_keeper.specs.declared.change.Kept.{Kept}
use Rattle.vmv_keeper.specs.declared.act.Act.{Act}
use Rattle.vmv_keeper.specs.declared.act.Act.TheVariants.{OpenProject, AddMember, Submit, Withdraw, Accept, Waive}
use Rattle.vmv_keeper.specs.declared.act.Query.{Query}
use Rattle.vmv_keeper.specs.declared.act.Command.{Command}
use Rattle.vmv_keeper.specs.declared.act.Command.TheVariants.{Change as ToChange, Ask}
use Rattle.vmv_keeper.specs.declared.reply.Reply.{Reply}
use Rattle.vmv_keeper.specs.declared.reply.Reply.TheVariants.{AlreadyOpen, Full}
use Rattle.vmv_keeper.specs.declared.judge.Inspected.{Inspected}
use Rattle.vmv_keeper.specs.declared.judge.Compared.{Compared}
use Rattle.vmv_keeper.specs.declared.fault.KeepFault.{KeepFault}
use Rattle.vmv_keeper.specs.Judging.{parses}
use Rattle.vmv_keeper.specs.declared.project.Bench.{Bench}
use Rattle.vmv_keeper.specs.Tables.{Tables, is_same, held_of, bench_of, held_in, project_named, project_count, reply_count, kept_under, kept_of, kept_in}
use Rattle.vmv_keeper.specs.Outside.{OfTold, IsAsIn}
use Rattle.vmv_keeper.specs.Formed.{AreFormed}
use Rattle.vmv_keeper.specs.Changes.{Fits, after, owner_of, name_of}
use Rattle.vmv_desk_rules.specs.declared.outcome.Effect.{Effect}
use Rattle.vmv_desk_rules.specs.declared.outcome.Outcome.{Outcome}
use Rattle.vmv_desk_rules.specs.declared.outcome.Outcome.TheVariants.{Done, NotDone}
use Rattle.vmv_desk_rules.specs.Causes.{Meaning, cause_if, tried, if_refused, if_vacuous, opening, outcome_on, outcome_of, outcome}
use Rattle.vmv_desk_rules.specs.Step.{Changes, Acts, answer}
use Rattle.vmv_desk_rules.specs.Heard.{BySaid}
use Rattle.vmv_desk_rules.proofs.FitsLemmas.{fits_told}
use Rattle.vmv_desk_rules.proofs.HeardLemmas.{by_map, meant, by_out}
use Rattle.vmv_desk.specs.AtHand.{Agrees, first_cause, IsOnProject, IsKept, IsStepped}

pub each_ok : {A E : Type 0} (result : Result A E) (P Q : A → Type 0) → IfOk result P → ((x : A) → P x → Q x) → IfOk result Q
each_ok (Ok x) P Q h w = w x h
each_ok (Err e) P Q h w = tt

-- causes one behind the other

pub stopped : (cause : Option Reply) (rest : List (Option Reply)) (r : Reply) → cause ≡ Some r → Some r ≡ first_cause (cause ∷ rest)
stopped cause rest r e = sym (ap (λ x. first_cause (x ∷ rest)) e)

pub passed : (cause : Option Reply) (rest : List (Option Reply)) → cause ≡ None → first_cause rest ≡ first_cause (cause ∷ rest)
passed cause rest e = sym (ap (λ x. first_cause (x ∷ rest)) e)

pub one_cause : (cause : Option Reply) → cause ≡ first_cause (cause ∷ [])
one_cause None = refl
one_cause (Some r) = refl

-- a project is opened

abbrev pub opening_by : List ℕ → List ℕ → Inspected → Tables → Outcome
opening_by caller name said tables =
    tried (cause_if (is_some (project_named tables caller name)) AlreadyOpen ∷ cause_if (nat_le 64 (project_count tables caller)) (Full 2) ∷ if_refused said ∷ if_vacuous said ∷ []) opening

pub opening_at : (told : Option Tables) (M : Meaning) (caller name text : List ℕ) (said : Inspected) (found : Outcome) → M.inspected text ≡ said
    → IsAsIn (opening_by caller name said) told found → IsAsIn (λ tables. outcome_of M tables caller (OpenProject name text)) told found
opening_at told M caller name text said found e h = subst (λ x. IsAsIn (opening_by caller name x) told found) (sym e) h

fold_same : (caller : List ℕ) (n : ℕ) (ps : List Project) → fold (λ a (q : Bench). a + cond (is_same q.owner caller) 1 0) n (map bench_of ps) ≡ fold (λ a (p : Project). a + cond (is_same p.owner caller) 1 0) n ps
fold_same caller n [] = refl
fold_same caller n (p ∷ ps) = fold_same caller (n + cond (is_same p.owner caller) 1 0) ps

count_same : (caller : List ℕ) (ps : List Project) → count_by (λ (q : Bench). is_same q.owner caller) (map bench_of ps) ≡ count_by (λ (p : Project). is_same p.owner caller) ps
count_same caller ps = fold_same caller 0 ps

no_project : (held : Option Held) (found : Option Project) → held ≡ option_map held_of found → is_some held ≡ false → is_some found ≡ false
no_project held None e none = refl
no_project held (Some p) e none = sym (ap is_some e) ∙ none

-- what comes of it where the caller owns no project of that name
pub opening_found : (told : Option Tables) (caller name : List ℕ) (said : Inspected) (held : Option Held) (queues : List Bench) (n : ℕ) (full : Bool) (found : Outcome)
    → Agrees told queues → IsAsIn (held_in caller name) told held → is_some held ≡ false → n ≡ count_by (λ (q : Bench). is_same q.owner caller) queues → nat_le 64 n ≡ full
    → found ≡ tried (None ∷ cause_if full (Full 2) ∷ if_refused said ∷ if_vacuous said ∷ []) opening → IsAsIn (opening_by caller name said) told found
opening_found None caller name said held queues n full found agrees loaded none count is e = tt
opening_found (Some tables) caller name said held queues n full found agrees loaded none count is e =
    let absent = no_project held (project_named tables caller name) loaded none in
    let many : n ≡ project_count tables caller = count ∙ (ap (count_by (λ (q : Bench). is_same q.owner caller)) agrees ∙ count_same caller tables.projects) in
    let test : nat_le 64 (project_count tables caller) ≡ full = ap (nat_le 64) (sym many) ∙ is in
    e ∙ (sym (ap (λ b. tried (None ∷ cause_if b (Full 2) ∷ if_refused said ∷ if_vacuous said ∷ []) opening) test)
    ∙ sym (ap (λ b. tried (cause_if b AlreadyOpen ∷ cause_if (nat_le 64 (project_count tables caller)) (Full 2) ∷ if_refused said ∷ if_vacuous said ∷ []) opening) absent))

pub is_full : (n : ℕ) → 64 ≤ n → nat_le 64 n ≡ true
is_full n most = by_test (nat_le 64 n) refl
  where
    by_test : (b : Bool) → nat_le 64 n ≡ b → nat_le 64 n ≡ true
    by_test true e = e
    by_test false e = let less = leb-false 64 n e in absurd (omega (arith, most, less))

pub is_not_full : (n : ℕ) → n < 64 → nat_le 64 n ≡ false
is_not_full n less = by_test (nat_le 64 n) refl
  where
    by_test : (b : Bool) → nat_le 64 n ≡ b → nat_le 64 n ≡ false
    by_test false e = e
    by_test true e = let most = leb-true 64 n e in absurd (omega (arith, most, less))

pub tried_refused : (said : Inspected) (r : Reply) → if_refused said ≡ Some r → NotDone r ≡ tried (None ∷ None ∷ if_refused said ∷ if_vacuous said ∷ []) opening
tried_refused said r e = sym (ap (λ x. tried (None ∷ None ∷ x ∷ if_vacuous said ∷ []) opening) e)

pub tried_vacuous : (said : Inspected) (r : Reply) → if_refused said ≡ None → if_vacuous said ≡ Some r → NotDone r ≡ tried (None ∷ None ∷ if_refused said ∷ if_vacuous said ∷ []) opening
tried_vacuous said r d e =
    sym (ap (λ x. tried (None ∷ None ∷ None ∷ x ∷ []) opening) e) ∙ sym (ap (λ x. tried (None ∷ None ∷ x ∷ if_vacuous said ∷ []) opening) d)

pub tried_fine : (said : Inspected) → if_refused said ≡ None → if_vacuous said ≡ None → Done opening ≡ tried (None ∷ None ∷ if_refused said ∷ if_vacuous said ∷ []) opening
tried_fine said d e =
    sym (ap (λ x. tried (None ∷ None ∷ None ∷ x ∷ []) opening) e) ∙ sym (ap (λ x. tried (None ∷ None ∷ x ∷ if_vacuous said ∷ []) opening) d)

-- the caller has room for a reply

has_room : (n : ℕ) → n < 100000 → nat_le 100000 n ≡ false
has_room n less = by_test (nat_le 100000 n) refl
  where
    by_test : (b : Bool) → nat_le 100000 n ≡ b → nat_le 100000 n ≡ false
    by_test false e = e
    by_test true e = let most = leb-true 100000 n e in absurd (omega (arith, most, less))

room_at : (told : Option Tables) (M : Meaning) (caller : List ℕ) (act : Act) (n : ℕ) (found : Outcome) → IsAsIn (λ t. reply_count t caller) told n → n < 100000
    → IsAsIn (λ t. outcome_of M t caller act) told found → IsAsIn (λ t. outcome M t caller act) told found
room_at None M caller act n found count less h = tt
room_at (Some tables) M caller act n found count less h =
    let no : nat_le 100000 (reply_count tables caller) ≡ false = ap (nat_le 100000) (sym count) ∙ has_room n less in
    h ∙ sym (ap (λ b. cond b (NotDone (Full 1)) (outcome_of M tables caller act)) no)

pub outcome_opened : (told then : Option Tables) (M : Meaning) (caller name text : List ℕ) (act : Act) (n : ℕ) (found : Outcome) → then ≡ told → act ≡ OpenProject name text
    → IsAsIn (λ t. reply_count t caller) told n → n < 100000 → IsAsIn (λ t. outcome_of M t caller (OpenProject name text)) then found → IsAsIn (λ t. outcome M t caller act) told found
outcome_opened told then M caller name text act n found kept is count less h =
    room_at told M caller act n found count less
    (subst (λ a. IsAsIn (λ t. outcome_of M t caller a) told found) (sym is) (subst (λ t. IsAsIn (λ t. outcome_of M t caller (OpenProject name text)) t found) kept h))

on_project : (M : Meaning) (caller : List ℕ) (act : Act) (tables : Tables) → IsOnProject act
    → outcome_on M caller act (project_named tables (owner_of caller act) (name_of act)) ≡ outcome_of M tables caller act
on_project M caller (OpenProject name text) tables on = absurd on
on_project M caller (AddMember owner project member) tables on = refl
on_project M caller (Submit owner project text) tables on = refl
on_project M caller (Withdraw owner project s) tables on = refl
on_project M caller (Accept owner project s) tables on = refl
on_project M caller (Waive owner project s) tables on = refl

acted_at : (told : Option Tables) (M : Meaning) (caller : List ℕ) (act : Act) (found : Outcome) → IsOnProject act
    → IsAsIn (λ t. outcome_on M caller act (project_named t (owner_of caller act) (name_of act))) told found → IsAsIn (λ t. outcome_of M t caller act) told found
acted_at None M caller act found on h = tt
acted_at (Some tables) M caller act found on h = h ∙ on_project M caller act tables on

pub outcome_acted : (told then : Option Tables) (M : Meaning) (caller owner name : List ℕ) (act : Act) (n : ℕ) (found : Outcome) → then ≡ told → owner_of caller act ≡ owner → name_of act ≡ name
    → IsOnProject act → IsAsIn (λ t. reply_count t caller) told n → n < 100000 → IsAsIn (λ t. outcome_on M caller act (project_named t owner name)) then found
    → IsAsIn (λ t. outcome M t caller act) told found
outcome_acted told then M caller owner name act n found kept eo en on count less h =
    let P : List ℕ → Type 0 = λ o. IsAsIn (λ t. outcome_on M caller act (project_named t o name)) told found in
    let Q : List ℕ → Type 0 = λ m. IsAsIn (λ t. outcome_on M caller act (project_named t (owner_of caller act) m)) told found in
    room_at told M caller act n found count less
    (acted_at told M caller act found on
    (subst Q (sym en) (subst P (sym eo) (subst (λ t. IsAsIn (λ t. outcome_on M caller act (project_named t owner name)) t found) kept h))))

-- what a change does

repeated_at : (M : Meaning) (tables : Tables) (caller id : List ℕ) (act : Act) (kept : Kept) (found : Option Change) (reply : Reply) → Some kept ≡ option_map kept_of found → IsKept kept act reply
    → Changes M tables caller id act found tables reply
repeated_at M tables caller id act kept None reply e h = absurd (cc e)
repeated_at M tables caller id act kept (Some change) reply e h =
    let same : kept ≡ kept_of change = cc e in (refl, subst (λ k. IsKept k act reply) same h)

pub stepped_repeated : (told then : Option Tables) (M : Meaning) (caller id : List ℕ) (act : Act) (kept : Kept) (reply : Reply) → then ≡ told → IsAsIn (kept_in caller id) told (Some kept)
    → IsKept kept act reply → IsStepped M told (ToChange caller id act) then reply
stepped_repeated None then M caller id act kept reply same new h = same
stepped_repeated (Some tables) then M caller id act kept reply same new h =
    (tables, same, repeated_at M tables caller id act kept (kept_under tables caller id) reply new h)

unkept : (found : Option Change) → None ≡ option_map kept_of found → found ≡ None
unkept None e = refl
unkept (Some change) e = absurd (cc e)

-- an act that isn't done
pub stepped_not : (told mid then : Option Tables) (M : Meaning) (caller id : List ℕ) (act : Act) (came : Outcome) (reply : Reply) → mid ≡ told → then ≡ told → IsAsIn (kept_in caller id) told None
    → came ≡ NotDone reply → IsAsIn (λ t. outcome M t caller act) mid came → IsStepped M told (ToChange caller id act) then reply
stepped_not None mid then M caller id act came reply before same new is h = same
stepped_not (Some tables) mid then M caller id act came reply before same new is h =
    let here : came ≡ outcome M tables caller act = subst (λ t. IsAsIn (λ t. outcome M t caller act) t came) before h in
    let none = unkept (kept_under tables caller id) new in (
      tables,
      same,
      subst (λ found. Changes M tables caller id act found tables reply) (sym none)
          (subst (λ o. Acts tables caller id act o tables reply) (sym is ∙ here) (refl, refl)),
    )

done_at : (told mid then : Option Tables) (M : Meaning) (caller id : List ℕ) (act : Act) (came : Outcome) (effect : Effect) (reply : Reply) → mid ≡ told
    → then ≡ option_map (after (record { caller = caller; id = id; act = act; reply = effect.reply; against = effect.against })) told → IsAsIn (kept_in caller id) told None
    → came ≡ Done effect → reply ≡ effect.reply → IsAsIn (λ t. outcome M t caller act) mid came → IsStepped M told (ToChange caller id act) then reply
done_at None mid then M caller id act came effect reply before made new is told h = made
done_at (Some tables) mid then M caller id act came effect reply before made new is told h =
    let here : came ≡ outcome M tables caller act = subst (λ t. IsAsIn (λ t. outcome M t caller act) t came) before h in
    let none = unkept (kept_under tables caller id) new in
    let behind : Tables = after (record { caller = caller; id = id; act = act; reply = effect.reply; against = effect.against }) tables in (
      behind,
      made,
      subst (λ found. Changes M tables caller id act found behind reply) (sym none)
          (subst (λ o. Acts tables caller id act o behind reply) (sym is ∙ here) (refl, told)),
    )

-- an act that is done
pub stepped_done : (I : List ℕ → Inspected → Type 0) (C : List ℕ → List ℕ → Compared → Type 0) (told mid before then : Option Tables) (caller id : List ℕ) (act : Act) (came : Outcome) (effect : Effect)
    (result : Result Reply KeepFault) → mid ≡ told → before ≡ told
    → OnOk result (then ≡ option_map (after (record { caller = caller; id = id; act = act; reply = effect.reply; against = effect.against })) before)
    → IfOk result (λ reply. reply ≡ effect.reply) → IsAsIn (kept_in caller id) told None → came ≡ Done effect → BySaid I C (λ M. IsAsIn (λ t. outcome M t caller act) mid came)
    → IfOk result (λ reply. BySaid I C (λ M. IsStepped M told (ToChange caller id act) then reply))
stepped_done I C told mid before then caller id act came effect (Err e) same rows made reply new is by = tt
stepped_done I C told mid before then caller id act came effect (Ok r) same rows made reply new is by =
    let change : Change = record { caller = caller; id = id; act = act; reply = effect.reply; against = effect.against } in
    let now : then ≡ option_map (after change) told = made ∙ ap (option_map (after change)) rows in
    by_map I C (λ M. IsAsIn (λ t. outcome M t caller act) mid came) (λ M. IsStepped M told (ToChange caller id act) then r)
    (λ M h. done_at told mid then M caller id act came effect r same now new is reply h) by

-- a question changes nothing
pub stepped_asked : (told then : Option Tables) (M : Meaning) (command : Command) (caller : List ℕ) (query : Query) (reply : Reply) → command ≡ Ask caller query → then ≡ told
    → (OfTold told AreFormed → IsAsIn (λ t. answer M t caller query) told reply) → OfTold told AreFormed → IsStepped M told command then reply
stepped_asked None then M command caller query reply is same h formed = same
stepped_asked (Some tables) then M command caller query reply is same h formed =
    subst (λ c. IsStepped M (Some tables) c then reply) (sym is) (tables, same, (refl, h formed))

untold : (M : Meaning) (command : Command) (then : Option Tables) (r : Reply) → (OfTold None AreFormed → IsStepped M None command then r) → then ≡ None
untold M command then r h = h tt

module _ (I : List ℕ → Inspected → Type 0) (C : List ℕ → List ℕ → Compared → Type 0)
    (one_inspected : (text : List ℕ) (a b : Inspected) → I text a → I text b → a ≡ b)
    (one_compared : (base revision : List ℕ) (a b : Compared) → C base revision a → C base revision b → a ≡ b)
    (utf8 : (text : List ℕ) (said : Inspected) → I text said → IsTrue (parses said) → IsUtf8 text) where
  -- an act that is done fits
  pub fits_by : (told mid then : Option Tables) (caller id : List ℕ) (act : Act) (came : Outcome) (effect : Effect) → mid ≡ told → then ≡ told → came ≡ Done effect
      → IsAsIn (kept_in caller id) told None → BySaid I C (λ M. IsAsIn (λ t. outcome M t caller act) mid came)
      → OfTold then (λ tables. Fits tables (record { caller = caller; id = id; act = act; reply = effect.reply; against = effect.against }))
  fits_by told mid then caller id act came effect before same is new by =
      let it = meant I C one_inspected one_compared utf8 (λ M. IsAsIn (λ t. outcome M t caller act) mid came) by in
      let M = it.0 in
      fits_told told then M it.1.utf8_read caller id act effect same new
      (subst (λ o. IsAsIn (λ t. outcome M t caller act) told o) is (subst (λ t. IsAsIn (λ t. outcome M t caller act) t came) before it.2))

  -- rows that aren't told aren't told then
  pub untold_by : (told then : Option Tables) (command : Command) (result : Result Reply KeepFault)
      → IfOk result (λ r. BySaid I C (λ M. OfTold told AreFormed → IsStepped M told command then r)) → OnErr result (then ≡ told) → told ≡ None → then ≡ None
  untold_by told then command (Err e) stepped kept none = kept ∙ none
  untold_by told then command (Ok r) stepped kept none =
      by_out I C one_inspected one_compared utf8
      (by_map I C (λ M. OfTold told AreFormed → IsStepped M told command then r) (λ M. then ≡ None)
      (λ M h. untold M command then r (subst (λ t. OfTold t AreFormed → IsStepped M t command then r) none h)) stepped)
