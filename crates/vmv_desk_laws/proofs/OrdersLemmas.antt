-- What a caller is told doesn't hang on the order of projects.
use Rattle.std.proofs.Common.{◌≡◌, ◌≤◌, ◌+◌, ℕ, Bool, true, false, cond, List, [], ◌∷◌, ◌++◌, find, filter, count_by, nat_le, Option, Some, None, is_some, refl, ap, sym, ◌∙◌, subst, arith, append_assoc}
use Rattle.vmv_keeper.specs.declared.project.Project.{Project}
use Rattle.vmv_keeper.specs.declared.change.Change.{Change}
use Rattle.vmv_keeper.specs.declared.act.Act.{Act}
use Rattle.vmv_keeper.specs.declared.act.Act.TheVariants.{OpenProject, AddMember, Submit, Withdraw, Accept, Waive}
use Rattle.vmv_keeper.specs.declared.act.Command.{Command}
use Rattle.vmv_keeper.specs.declared.act.Command.TheVariants.{Change as ToChange, Ask}
use Rattle.vmv_keeper.specs.declared.reply.Reply.{Reply}
use Rattle.vmv_keeper.specs.declared.reply.Reply.TheVariants.{Full, AlreadyOpen}
use Rattle.vmv_keeper.specs.Formed.{AreFormed}
use Rattle.vmv_keeper.specs.Tables.{Tables, is_same, is_named, is_member, change_under, project_named, kept_under}
use Rattle.vmv_keeper.specs.Changes.{changed, opened, project_after, projects_after}
use Rattle.vmv_keeper.proofs.FormedReads.{count_by-cons}
use Rattle.vmv_desk_rules.specs.declared.outcome.Outcome.{Outcome}
use Rattle.vmv_desk_rules.specs.declared.outcome.Outcome.TheVariants.{Done, NotDone}
use Rattle.vmv_desk_rules.specs.Causes.{Meaning, cause_if, tried, opening, if_refused, if_vacuous, outcome_on, outcome_of, outcome}
use Rattle.vmv_desk_rules.specs.Step.{Step, Changes, Acts, answer_on, asked_owner, asked_name}
use Rattle.vmv_desk_laws.specs.Seen.{seen_by, caller_of}
use Rattle.vmv_desk_laws.specs.Orders.{Reordered, SeesSame}
use Rattle.vmv_desk_laws.proofs.SeenLemmas.{seen_step}
use Rattle.vmv_desk_laws.proofs.DeterminedLemmas.{one_reply}

-- counts, and what is found

count_put : (test : Project → Bool) (p : Project) (front back : List Project) → count_by test (front ++ p ∷ back) ≡ cond (test p) 1 0 + count_by test (front ++ back)
count_put test p [] back = count_by-cons test p back
count_put test p (q ∷ front) back =
    let whole = count_by-cons test q (front ++ p ∷ back) in
    let rest = count_put test p front back in
    let less = count_by-cons test q (front ++ back) in
    omega (arith, whole, rest, less)

pub count_same : (test : Project → Bool) (ps qs : List Project) → Reordered ps qs → count_by test ps ≡ count_by test qs
count_same test [] qs same = ap (count_by test) (sym same)
count_same test (p ∷ ps) qs (front, back, is, rest) =
    count_by-cons test p ps ∙ ap (λ n. cond (test p) 1 0 + n) (count_same test ps (front ++ back) rest) ∙ sym (count_put test p front back) ∙ ap (count_by test) (sym is)

-- at most one passes
abbrev IsFew : (Project → Bool) → List Project → Type 0
IsFew test ps = count_by test ps ≤ 1

few_rest : (test : Project → Bool) (p : Project) (ps : List Project) → IsFew test (p ∷ ps) → IsFew test ps
few_rest test p ps few = let e = count_by-cons test p ps in omega (arith, e, few)

is_counted : (b : Bool) → b ≡ true → ◌≡◌ {A = ℕ} (cond b 1 0) 1
is_counted true e = refl
is_counted false e = absurd (cc e)

found_step : (test : Project → Bool) (p q : Project) (front back : List Project) (found later : Option Project) (b c : Bool) → test p ≡ b → test q ≡ c → IsFew test (q ∷ (front ++ p ∷ back))
    → found ≡ cond b (Some p) later → cond c (Some q) found ≡ cond b (Some p) (cond c (Some q) later)
found_step test p q front back found later true true ep eq few h =
    let whole = count_by-cons test q (front ++ p ∷ back) in
    let rest = count_put test p front back in
    let one = is_counted (test p) ep in
    let other = is_counted (test q) eq in
    absurd (omega (arith, whole, rest, one, other, few))
found_step test p q front back found later true false ep eq few h = h
found_step test p q front back found later false true ep eq few h = refl
found_step test p q front back found later false false ep eq few h = h

found_put : (test : Project → Bool) (p : Project) (front back : List Project) → IsFew test (front ++ p ∷ back) → find test (front ++ p ∷ back) ≡ cond (test p) (Some p) (find test (front ++ back))
found_put test p [] back few = refl
found_put test p (q ∷ front) back few =
    found_step test p q front back (find test (front ++ p ∷ back)) (find test (front ++ back)) (test p) (test q) refl refl few
    (found_put test p front back (few_rest test q (front ++ p ∷ back) few))

pub found_same : (test : Project → Bool) (ps qs : List Project) → Reordered ps qs → IsFew test ps → find test ps ≡ find test qs
found_same test [] qs same few = ap (find test) (sym same)
found_same test (p ∷ ps) qs (front, back, is, rest) few =
    let P : ℕ → Type 0 = λ n. n ≤ 1 in
    let there = subst P (count_same test (p ∷ ps) (front ++ p ∷ back) (front, back, refl, rest)) few in
    ap (λ found. cond (test p) (Some p) found) (found_same test ps (front ++ back) rest (few_rest test p ps few))
    ∙ sym (found_put test p front back there) ∙ ap (find test) (sym is)

-- one more, and one that is changed

push_same : (p : Project) (ps qs : List Project) → Reordered ps qs → Reordered (ps ++ p ∷ []) (qs ++ p ∷ [])
push_same p [] qs same = ([], [], ap (λ l. l ++ p ∷ []) same, refl)
push_same p (q ∷ ps) qs (front, back, is, rest) =
    let P : List Project → Type 0 = λ l. Reordered (ps ++ p ∷ []) l in (
      front,
      back ++ p ∷ [],
      ap (λ l. l ++ p ∷ []) is ∙ append_assoc front (q ∷ back) (p ∷ []),
      subst P (append_assoc front back (p ∷ [])) (push_same p ps (front ++ back) rest),
    )

-- the one that is changed, among others that aren't
here_step : (test : Project → Bool) (f : Project → Project) (p q : Project) (front back later : List Project) (c : Bool) → test p ≡ true → test q ≡ c → IsFew test (q ∷ (front ++ p ∷ back))
    → later ≡ front ++ f p ∷ back → cond c (f q ∷ (front ++ p ∷ back)) (q ∷ later) ≡ q ∷ (front ++ f p ∷ back)
here_step test f p q front back later true ep eq few h =
    let whole = count_by-cons test q (front ++ p ∷ back) in
    let rest = count_put test p front back in
    let one = is_counted (test p) ep in
    let other = is_counted (test q) eq in
    absurd (omega (arith, whole, rest, one, other, few))
here_step test f p q front back later false ep eq few h = ap (λ l. q ∷ l) h

changed_here : (test : Project → Bool) (f : Project → Project) (p : Project) (front back : List Project) → test p ≡ true → IsFew test (front ++ p ∷ back)
    → changed test f (front ++ p ∷ back) ≡ front ++ f p ∷ back
changed_here test f p [] back e few = ap (λ b. cond b (f p ∷ back) (p ∷ changed test f back)) e
changed_here test f p (q ∷ front) back e few =
    here_step test f p q front back (changed test f (front ++ p ∷ back)) (test q) e refl few (changed_here test f p front back e (few_rest test q (front ++ p ∷ back) few))

-- lists that are two parts round one that isn't changed, and these parts alone
abbrev IsRound : Project → List Project → List Project → Type 0
IsRound p whole less = (front : List Project) × (back : List Project) × (whole ≡ front ++ p ∷ back) × (less ≡ front ++ back)

round_step : (f : Project → Project) (p q : Project) (front back later less : List Project) (c : Bool) → IsRound p later less
    → IsRound p (cond c (f q ∷ (front ++ p ∷ back)) (q ∷ later)) (cond c (f q ∷ (front ++ back)) (q ∷ less))
round_step f p q front back later less true h = (f q ∷ front, back, refl, refl)
round_step f p q front back later less false h = (q ∷ h.0, h.1, ap (λ l. q ∷ l) h.2, ap (λ l. q ∷ l) h.3)

changed_round : (test : Project → Bool) (f : Project → Project) (p : Project) (front back : List Project) → test p ≡ false
    → IsRound p (changed test f (front ++ p ∷ back)) (changed test f (front ++ back))
changed_round test f p [] back e = ([], changed test f back, ap (λ b. cond b (f p ∷ back) (p ∷ changed test f back)) e, refl)
changed_round test f p (q ∷ front) back e =
    round_step f p q front back (changed test f (front ++ p ∷ back)) (changed test f (front ++ back)) (test q) (changed_round test f p front back e)

changed_step : (test : Project → Bool) (f : Project → Project) (p : Project) (ps qs front back : List Project) (b : Bool) → test p ≡ b → IsFew test (front ++ p ∷ back)
    → qs ≡ front ++ p ∷ back → Reordered ps (front ++ back) → Reordered (changed test f ps) (changed test f (front ++ back))
    → Reordered (cond b (f p ∷ ps) (p ∷ changed test f ps)) (changed test f qs)
changed_step test f p ps qs front back true e few is rest later = (front, back, ap (changed test f) is ∙ changed_here test f p front back e few, rest)
changed_step test f p ps qs front back false e few is rest later =
    let round = changed_round test f p front back e in
    let P : List Project → Type 0 = λ l. Reordered (changed test f ps) l in
    (round.0, round.1, ap (changed test f) is ∙ round.2, subst P round.3 later)

changed_reordered : (test : Project → Bool) (f : Project → Project) (ps qs : List Project) → Reordered ps qs → IsFew test ps → Reordered (changed test f ps) (changed test f qs)
changed_reordered test f [] qs same few = ap (changed test f) same
changed_reordered test f (p ∷ ps) qs (front, back, is, rest) few =
    let P : ℕ → Type 0 = λ n. n ≤ 1 in
    let there = subst P (count_same test (p ∷ ps) (front ++ p ∷ back) (front, back, refl, rest)) few in
    changed_step test f p ps qs front back (test p) refl there is rest (changed_reordered test f ps (front ++ back) rest (few_rest test p ps few))

-- rows of which no two projects have one owner and name

abbrev IsDistinct : Tables → Type 0
IsDistinct tables = (owner name : List ℕ) → count_by (is_named owner name) tables.projects ≤ 1

abbrev AreSame : Tables → Tables → Type 0
AreSame tables others = Reordered tables.projects others.projects × (tables.replies ≡ others.replies)

named_same : (tables others : Tables) (owner name : List ℕ) → IsDistinct tables → AreSame tables others → project_named tables owner name ≡ project_named others owner name
named_same tables others owner name distinct same = found_same (is_named owner name) tables.projects others.projects same.0 (distinct owner name)

of_same : (J : Meaning) (tables others : Tables) (caller : List ℕ) (act : Act) → IsDistinct tables → AreSame tables others → outcome_of J tables caller act ≡ outcome_of J others caller act
of_same J tables others caller (OpenProject name text) distinct same =
    ap (λ found. tried (cause_if (is_some found) AlreadyOpen ∷ cause_if (nat_le 64 (count_by (λ p. is_same p.owner caller) tables.projects)) (Full 2) ∷ if_refused (J.inspected text) ∷ if_vacuous (J.inspected text) ∷ []) opening)
    (named_same tables others caller name distinct same)
    ∙ ap (λ n. tried (cause_if (is_some (project_named others caller name)) AlreadyOpen ∷ cause_if (nat_le 64 n) (Full 2) ∷ if_refused (J.inspected text) ∷ if_vacuous (J.inspected text) ∷ []) opening)
    (count_same (λ p. is_same p.owner caller) tables.projects others.projects same.0)
of_same J tables others caller (AddMember owner project member) distinct same = ap (outcome_on J caller (AddMember owner project member)) (named_same tables others owner project distinct same)
of_same J tables others caller (Submit owner project text) distinct same = ap (outcome_on J caller (Submit owner project text)) (named_same tables others owner project distinct same)
of_same J tables others caller (Withdraw owner project s) distinct same = ap (outcome_on J caller (Withdraw owner project s)) (named_same tables others owner project distinct same)
of_same J tables others caller (Accept owner project s) distinct same = ap (outcome_on J caller (Accept owner project s)) (named_same tables others owner project distinct same)
of_same J tables others caller (Waive owner project s) distinct same = ap (outcome_on J caller (Waive owner project s)) (named_same tables others owner project distinct same)

outcome_same : (J : Meaning) (tables others : Tables) (caller : List ℕ) (act : Act) → IsDistinct tables → AreSame tables others → outcome J tables caller act ≡ outcome J others caller act
outcome_same J tables others caller act distinct same =
    let kept : List Change → ℕ = λ replies. count_by (λ k. is_same k.caller caller) replies in
    ap (λ replies. cond (nat_le 100000 (kept replies)) (NotDone (Full 1)) (outcome_of J tables caller act)) same.1
    ∙ ap (λ o. cond (nat_le 100000 (kept others.replies)) (NotDone (Full 1)) o) (of_same J tables others caller act distinct same)

projects_same : (tables others : Tables) (caller : List ℕ) (act : Act) → IsDistinct tables → Reordered tables.projects others.projects
    → Reordered (projects_after caller act tables.projects) (projects_after caller act others.projects)
projects_same tables others caller (OpenProject name text) distinct same = push_same (opened caller name text) tables.projects others.projects same
projects_same tables others caller (AddMember owner project member) distinct same =
    changed_reordered (is_named owner project) (project_after caller (AddMember owner project member)) tables.projects others.projects same (distinct owner project)
projects_same tables others caller (Submit owner project text) distinct same =
    changed_reordered (is_named owner project) (project_after caller (Submit owner project text)) tables.projects others.projects same (distinct owner project)
projects_same tables others caller (Withdraw owner project s) distinct same =
    changed_reordered (is_named owner project) (project_after caller (Withdraw owner project s)) tables.projects others.projects same (distinct owner project)
projects_same tables others caller (Accept owner project s) distinct same =
    changed_reordered (is_named owner project) (project_after caller (Accept owner project s)) tables.projects others.projects same (distinct owner project)
projects_same tables others caller (Waive owner project s) distinct same =
    changed_reordered (is_named owner project) (project_after caller (Waive owner project s)) tables.projects others.projects same (distinct owner project)

-- rows that are others are the same as these

same_moved : (tables others new behind : Tables) → new ≡ tables → behind ≡ others → AreSame tables others → AreSame new behind
same_moved tables others new behind e h same = let P : Tables → Type 0 = λ t. AreSame t behind in let Q : Tables → Type 0 = λ t. AreSame tables t in subst P (sym e) (subst Q (sym h) same)

acts_same : (tables others new behind : Tables) (caller id : List ℕ) (act : Act) (o : Outcome) (r s : Reply) → IsDistinct tables → AreSame tables others
    → Acts tables caller id act o new r → Acts others caller id act o behind s → (r ≡ s) × AreSame new behind
acts_same tables others new behind caller id act (NotDone cause) r s distinct same a b = (a.1 ∙ sym b.1, same_moved tables others new behind a.0 b.0 same)
acts_same tables others new behind caller id act (Done done) r s distinct same a b =
    let change : Change = record { caller = caller; id = id; act = act; reply = done.reply; against = done.against } in
    let after_same : AreSame (record { projects = projects_after caller act tables.projects; replies = tables.replies ++ change ∷ [] }) (record { projects = projects_after caller act others.projects; replies = others.replies ++ change ∷ [] }) =
    (projects_same tables others caller act distinct same.0, ap (λ l. l ++ change ∷ []) same.1) in
    (a.1 ∙ sym b.1, same_moved _ _ new behind a.0 b.0 after_same)

changes_same : (J : Meaning) (tables others new behind : Tables) (caller id : List ℕ) (act : Act) (found : Option Change) (r s : Reply) → IsDistinct tables → AreSame tables others
    → Changes J tables caller id act found new r → Changes J others caller id act found behind s → (r ≡ s) × AreSame new behind
changes_same J tables others new behind caller id act (Some kept) r s distinct same a b = (one_reply kept act r s a.1 b.1, same_moved tables others new behind a.0 b.0 same)
changes_same J tables others new behind caller id act None r s distinct same a b =
    let P : Outcome → Type 0 = λ o. Acts others caller id act o behind s in
    acts_same tables others new behind caller id act (outcome J tables caller act) r s distinct same a (subst P (sym (outcome_same J tables others caller act distinct same)) b)

step_same : (J : Meaning) (tables others new behind : Tables) (command : Command) (r s : Reply) → IsDistinct tables → AreSame tables others
    → Step J tables command new r → Step J others command behind s → (r ≡ s) × AreSame new behind
step_same J tables others new behind (ToChange caller id act) r s distinct same a b =
    let P : Option Change → Type 0 = λ found. Changes J others caller id act found behind s in
    changes_same J tables others new behind caller id act (kept_under tables caller id) r s distinct same a (subst P (sym (ap (λ replies. change_under replies caller id) same.1)) b)
step_same J tables others new behind (Ask caller query) r s distinct same a b =
    (a.1 ∙ ap (answer_on J caller query) (named_same tables others (asked_owner query) (asked_name query) distinct same) ∙ sym b.1, same_moved tables others new behind a.0 b.0 same)

part_step : {X : Type 0} (test : X → Bool) (x : X) (part : List X) (n : ℕ) (b : Bool) → count_by test part ≤ n → count_by test (cond b (x ∷ part) part) ≤ cond (test x) 1 0 + n
part_step test x part n true le = let e = count_by-cons test x part in omega (arith, e, le)
part_step test x part n false le = omega (arith, le)

-- no more are counted in a part
part_few : {X : Type 0} (test q : X → Bool) (xs : List X) → count_by test (filter q xs) ≤ count_by test xs
part_few test q [] = omega arith
part_few test q (x ∷ xs) = let e = count_by-cons test x xs in let h = part_step test x (filter q xs) (count_by test xs) (q x) (part_few test q xs) in omega (arith, e, h)

pub order_unseen : (J : Meaning) (tables new others behind : Tables) (command : Command) (reply again : Reply) → AreFormed tables → AreFormed others
    → SeesSame (caller_of command) tables others → Step J tables command new reply → Step J others command behind again
    → (reply ≡ again) × SeesSame (caller_of command) new behind
order_unseen J tables new others behind command reply again formed others_formed same step other =
    let caller = caller_of command in
    let distinct : IsDistinct (seen_by caller tables) = λ owner name.
    let part = part_few (is_named owner name) (λ p. is_member p caller) tables.projects in let few = formed.distinct owner name in omega (arith, part, few) in
    step_same J (seen_by caller tables) (seen_by caller others) (seen_by caller new) (seen_by caller behind) command reply again distinct same
    (seen_step J tables new command reply formed step) (seen_step J others behind command again others_formed other)
