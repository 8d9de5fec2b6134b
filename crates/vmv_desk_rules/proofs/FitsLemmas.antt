-- An act that is done fits the rows.
use Rattle.std.proofs.Common.{◌≡◌, ◌<◌, ◌⊎◌, inl, inr, ℕ, Bool, true, false, cond, not, ◌&&◌, nat_le, List, [], ◌∷◌, ◌++◌, length, Option, Some, None, is_some, is_none, IsSome, IsSomeAnd, IsTrue, IsUtf8, refl, ap, sym, subst}
use Rattle.std.specs.Option.{option_map}
use Rattle.std.specs.Cmp.Lexicographic.{same_text}
use borrow.Author.Tests.{leb-false, ltb-false}
use Rattle.vmv_keeper.specs.declared.project.Project.{Project}
use Rattle.vmv_keeper.specs.declared.act.Act.{Act}
use Rattle.vmv_keeper.specs.declared.act.Act.TheVariants.{OpenProject, AddMember, Submit, Withdraw, Accept, Waive}
use Rattle.vmv_keeper.specs.declared.change.Change.{Change}
use Rattle.vmv_keeper.specs.declared.reply.Reply.{Reply}
use Rattle.vmv_keeper.specs.declared.reply.Reply.TheVariants.{NotFound, Full}
use Rattle.vmv_keeper.specs.declared.judge.Inspected.{Inspected}
use Rattle.vmv_keeper.specs.declared.judge.Inspected.TheVariants.{Fine, Refused, Vacuous}
use Rattle.vmv_keeper.specs.Judging.{parses}
use Rattle.vmv_keeper.specs.Tables.{Tables, is_same, is_member, waiting_as, project_named, project_count, reply_count, kept_under, kept_of, kept_in}
use Rattle.vmv_keeper.specs.Outside.{OfTold, IsAsIn}
use Rattle.vmv_keeper.specs.Changes.{Fits, ActFits, Allows, reply_to, against_of, waiting_text}
use Rattle.vmv_desk_rules.specs.declared.outcome.Effect.{Effect}
use Rattle.vmv_desk_rules.specs.declared.outcome.Outcome.{Outcome}
use Rattle.vmv_desk_rules.specs.declared.outcome.Outcome.TheVariants.{Done, NotDone}
use Rattle.vmv_desk_rules.specs.Causes.{Meaning, cause_if, tried, if_refused, if_vacuous, if_not_correct, effect_on, opening, root_text, row_causes, judge_causes, outcome_on, outcome_of, outcome}

-- where an act is done, no cause came

pub tried_none : (cause : Option Reply) (causes : List (Option Reply)) (done r : Effect) → tried (cause ∷ causes) done ≡ Done r
    → (cause ≡ None) × (tried causes done ≡ Done r)
tried_none None causes done r e = (refl, e)
tried_none (Some x) causes done r e = absurd (cc e)

pub cause_none : (b : Bool) (r : Reply) → cause_if b r ≡ None → b ≡ false
cause_none true r e = absurd (cc e)
cause_none false r e = refl

pub not_false : (b : Bool) → not b ≡ false → b ≡ true
not_false true e = refl
not_false false e = absurd (cc e)

some_of : {X : Type 0} (found : Option X) → is_none found ≡ false → IsSome found
some_of None e = absurd (cc e)
some_of (Some x) e = refl

none_of : {X : Type 0} (found : Option X) → is_some found ≡ false → found ≡ None
none_of None e = refl
none_of (Some x) e = absurd (cc e)

pub parses_of : (said : Inspected) → if_refused said ≡ None → IsTrue (parses said)
parses_of Fine e = refl
parses_of (Refused number line column) e = absurd (cc e)
parses_of Vacuous e = refl

room_of : (member full : Bool) (n : ℕ) → nat_le 64 n ≡ full → (not member && full) ≡ false → IsTrue member ⊎ (n < 64)
room_of true full n e h = inl refl
room_of false true n e h = absurd (cc h)
room_of false false n e h = inr (leb-false 64 n e)

-- an act on a project
abbrev IsOn : Act → Type 0
IsOn (OpenProject name text) = ⊥
IsOn _ = Unit {0}

done_is : (done r : Effect) → tried [] done ≡ Done r → r ≡ done
done_is done r e = cc e

-- an act that is done is allowed by its project
allows_of : (J : Meaning) (utf8 : (text : List ℕ) → IsTrue (parses (J.inspected text)) → IsUtf8 text) (caller : List ℕ) (act : Act) (p : Project) (r : Effect)
    → IsOn act → tried (row_causes caller act p ++ judge_causes J act p) (effect_on act p) ≡ Done r → Allows caller act p × (r ≡ effect_on act p)
allows_of J utf8 caller (OpenProject name text) p r on e = absurd on
allows_of J utf8 caller (AddMember owner project member) p r on e =
    let first = tried_none _ _ _ r e in
    let second = tried_none _ _ _ r first.1 in
    let owns = not_false (is_same caller owner) (cause_none _ _ first.0) in (
      (same_text caller owner (sym owns), room_of (is_member p member) (nat_le 64 (length p.members)) (length p.members) refl (cause_none _ _ second.0)),
      done_is _ r second.1,
    )
allows_of J utf8 caller (Submit owner project text) p r on e =
    let first = tried_none _ _ _ r e in
    let second = tried_none _ _ _ r first.1 in
    let third = tried_none _ _ _ r second.1 in (
      (leb-false 32 (length p.pending) (cause_none _ _ first.0), ltb-false 1000000 p.next (cause_none _ _ second.0), utf8 text (parses_of (J.inspected text) third.0)),
      done_is _ r third.1,
    )
allows_of J utf8 caller (Withdraw owner project submission) p r on e =
    let first = tried_none _ _ _ r e in
    (some_of (waiting_as submission p) (cause_none _ _ first.0), done_is _ r first.1)
allows_of J utf8 caller (Accept owner project submission) p r on e =
    let first = tried_none _ _ _ r e in
    let second = tried_none _ _ _ r first.1 in
    let third = tried_none (if_not_correct (J.compared (root_text p) (waiting_text submission p))) (if_vacuous (J.inspected (waiting_text submission p)) ∷ []) (effect_on (Accept owner project submission) p) r second.1 in
    let fourth = tried_none (if_vacuous (J.inspected (waiting_text submission p))) [] (effect_on (Accept owner project submission) p) r third.1 in
    ((some_of (waiting_as submission p) (cause_none _ _ first.0), leb-false 1024 (length p.versions) (cause_none _ _ second.0)), done_is _ r fourth.1)
allows_of J utf8 caller (Waive owner project submission) p r on e =
    let first = tried_none _ _ _ r e in
    let second = tried_none _ _ _ r first.1 in
    let third = tried_none _ _ _ r second.1 in
    let fourth = tried_none (if_vacuous (J.inspected (waiting_text submission p))) [] (effect_on (Waive owner project submission) p) r third.1 in
    let owns = not_false (is_same caller owner) (cause_none _ _ first.0) in
    ((same_text caller owner (sym owns), some_of (waiting_as submission p) (cause_none _ _ second.0), leb-false 1024 (length p.versions) (cause_none _ _ third.0)), done_is _ r fourth.1)

on_found : (J : Meaning) (utf8 : (text : List ℕ) → IsTrue (parses (J.inspected text)) → IsUtf8 text) (caller : List ℕ) (act : Act) (found : Option Project) (r : Effect)
    → IsOn act → outcome_on J caller act found ≡ Done r → IsSomeAnd found (λ p. IsTrue (is_member p caller) × Allows caller act p × (r.reply ≡ reply_to act p) × (r.against ≡ against_of act p))
on_found J utf8 caller act None r on e = absurd (cc e)
on_found J utf8 caller act (Some p) r on e =
    let first = tried_none (cause_if (not (is_member p caller)) NotFound) (row_causes caller act p ++ judge_causes J act p) (effect_on act p) r e in
    let allowed = allows_of J utf8 caller act p r on first.1 in
    (not_false (is_member p caller) (cause_none _ _ first.0), allowed.0, ap (λ (x : Effect). x.reply) allowed.1, ap (λ (x : Effect). x.against) allowed.1)

pub act_fits : (J : Meaning) (utf8 : (text : List ℕ) → IsTrue (parses (J.inspected text)) → IsUtf8 text) (tables : Tables) (caller : List ℕ) (act : Act) (r : Effect)
    → outcome_of J tables caller act ≡ Done r → ActFits tables.projects caller act r.reply r.against
act_fits J utf8 tables caller (OpenProject name text) r e =
    let first = tried_none _ _ _ r e in
    let second = tried_none _ _ _ r first.1 in
    let third = tried_none _ _ _ r second.1 in
    let fourth = tried_none (if_vacuous (J.inspected text)) [] opening r third.1 in
    let is = done_is _ r fourth.1 in (
      none_of (project_named tables caller name) (cause_none _ _ first.0),
      leb-false 64 (project_count tables caller) (cause_none _ _ second.0),
      utf8 text (parses_of (J.inspected text) third.0),
      ap (λ (x : Effect). x.reply) is,
      ap (λ (x : Effect). x.against) is,
    )
act_fits J utf8 tables caller (AddMember owner project member) r e = on_found J utf8 caller (AddMember owner project member) (project_named tables owner project) r tt e
act_fits J utf8 tables caller (Submit owner project text) r e = on_found J utf8 caller (Submit owner project text) (project_named tables owner project) r tt e
act_fits J utf8 tables caller (Withdraw owner project submission) r e = on_found J utf8 caller (Withdraw owner project submission) (project_named tables owner project) r tt e
act_fits J utf8 tables caller (Accept owner project submission) r e = on_found J utf8 caller (Accept owner project submission) (project_named tables owner project) r tt e
act_fits J utf8 tables caller (Waive owner project submission) r e = on_found J utf8 caller (Waive owner project submission) (project_named tables owner project) r tt e

pub outcome_step : (full : Bool) (of : Outcome) (r : Effect) → cond full (NotDone (Full 1)) of ≡ Done r → (full ≡ false) × (of ≡ Done r)
outcome_step true of r e = absurd (cc e)
outcome_step false of r e = (refl, e)

unkept : (found : Option Change) → None ≡ option_map kept_of found → found ≡ None
unkept None e = refl
unkept (Some change) e = absurd (cc e)

-- an act that is done under a new id fits
pub fits_kept : (J : Meaning) (utf8 : (text : List ℕ) → IsTrue (parses (J.inspected text)) → IsUtf8 text) (tables : Tables) (caller id : List ℕ) (act : Act) (r : Effect)
    → kept_under tables caller id ≡ None → outcome J tables caller act ≡ Done r → Fits tables (record { caller = caller; id = id; act = act; reply = r.reply; against = r.against })
fits_kept J utf8 tables caller id act r new e =
    let split = outcome_step (nat_le 100000 (reply_count tables caller)) (outcome_of J tables caller act) r e in
    record { new = new; room = leb-false 100000 (reply_count tables caller) split.0; act_fits = act_fits J utf8 tables caller act r split.1 }

pub fits_done : (J : Meaning) (utf8 : (text : List ℕ) → IsTrue (parses (J.inspected text)) → IsUtf8 text) (tables : Tables) (caller id : List ℕ) (act : Act) (r : Effect)
    → None ≡ kept_in caller id tables → outcome J tables caller act ≡ Done r → Fits tables (record { caller = caller; id = id; act = act; reply = r.reply; against = r.against })
fits_done J utf8 tables caller id act r new e = fits_kept J utf8 tables caller id act r (unkept (kept_under tables caller id) new) e

pub fits_told : (told then : Option Tables) (J : Meaning) (utf8 : (text : List ℕ) → IsTrue (parses (J.inspected text)) → IsUtf8 text) (caller id : List ℕ) (act : Act) (r : Effect)
    → then ≡ told → IsAsIn (kept_in caller id) told None → IsAsIn (λ tables. outcome J tables caller act) told (Done r)
    → OfTold then (λ tables. Fits tables (record { caller = caller; id = id; act = act; reply = r.reply; against = r.against }))
fits_told None then J utf8 caller id act r kept new done =
    let P : Option Tables → Type 0 = λ t. OfTold t (λ tables. Fits tables (record { caller = caller; id = id; act = act; reply = r.reply; against = r.against })) in subst P (sym kept) tt
fits_told (Some tables) then J utf8 caller id act r kept new done =
    let P : Option Tables → Type 0 = λ t. OfTold t (λ tables. Fits tables (record { caller = caller; id = id; act = act; reply = r.reply; against = r.against })) in
    subst P (sym kept) (fits_done J utf8 tables caller id act r new (sym done))
