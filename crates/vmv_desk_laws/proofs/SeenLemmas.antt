-- A command's reply and what it changes depend on what its caller sees alone.
use Rattle.std.proofs.Common.{◌≡◌, ◌≤◌, ◌+◌, ◌&&◌, ◌||◌, ℕ, Bool, true, false, cond, not, nat_le, nat_eq, List, [], ◌∷◌, ◌++◌, find, filter, count_by, Option, Some, None, IfSome, is_some, refl, ap, sym, ◌∙◌, subst, arith}
use Rattle.std.specs.List.{AllByRecursion, list_any}
use borrow.Author.Tests.{eq-eqb}
use Rattle.vmv_keeper.specs.declared.project.Project.{Project}
use Rattle.vmv_keeper.specs.declared.change.Change.{Change}
use Rattle.vmv_keeper.specs.declared.act.Act.{Act}
use Rattle.vmv_keeper.specs.declared.act.Act.TheVariants.{OpenProject, AddMember, Submit, Withdraw, Accept, Waive}
use Rattle.vmv_keeper.specs.declared.act.Query.{Query}
use Rattle.vmv_keeper.specs.declared.act.Command.{Command}
use Rattle.vmv_keeper.specs.declared.act.Command.TheVariants.{Change as ToChange, Ask}
use Rattle.vmv_keeper.specs.declared.reply.Reply.{Reply}
use Rattle.vmv_keeper.specs.declared.reply.Reply.TheVariants.{NotFound, Full, AlreadyOpen}
use Rattle.vmv_keeper.specs.Formed.{AreFormed, IsProject, FirstIs}
use Rattle.vmv_keeper.specs.Tables.{Tables, is_same, is_named, is_member, is_kept_under, kept_under, project_named, project_count, reply_count}
use Rattle.vmv_keeper.specs.Changes.{changed, opened, project_after, projects_after, owner_of, name_of}
use Rattle.vmv_keeper.proofs.FormedReads.{count_by-cons, and-true_both}
use Rattle.vmv_keeper.proofs.ListChanges.{All-weaken}
use Rattle.vmv_desk_rules.specs.declared.outcome.Effect.{Effect}
use Rattle.vmv_desk_rules.specs.declared.outcome.Outcome.{Outcome}
use Rattle.vmv_desk_rules.specs.declared.outcome.Outcome.TheVariants.{Done, NotDone}
use Rattle.vmv_desk_rules.specs.Causes.{Meaning, cause_if, tried, effect_on, opening, if_refused, if_vacuous, row_causes, judge_causes, outcome_on, outcome_of, outcome}
use Rattle.vmv_desk_rules.specs.Step.{Step, Changes, Acts, answer_on, answer, told_of, asked_owner, asked_name}
use Rattle.vmv_desk_laws.specs.Seen.{seen_by, caller_of}
use Rattle.vmv_desk_rules.proofs.FitsLemmas.{tried_none, cause_none, not_false, outcome_step}

-- what is found in a list is found in the part of it that it belongs to

find_part_step : {X : Type 0} (x : X) (rest part : List X) (p : X → Bool) (px qx : Bool) → p x ≡ px → (px ≡ true → qx ≡ true) → find p part ≡ find p rest
    → find p (cond qx (x ∷ part) part) ≡ cond px (Some x) (find p rest)
find_part_step x rest part p true true e sub h = ap (λ b. cond b (Some x) (find p part)) e
find_part_step x rest part p false true e sub h = ap (λ b. cond b (Some x) (find p part)) e ∙ h
find_part_step x rest part p true false e sub h = absurd (cc (sub refl))
find_part_step x rest part p false false e sub h = h

find_part : {X : Type 0} (p q : X → Bool) (xs : List X) → AllByRecursion (λ x. p x ≡ true → q x ≡ true) xs → find p (filter q xs) ≡ find p xs
find_part p q [] all = refl
find_part p q (x ∷ xs) all = find_part_step x xs (filter q xs) p (p x) (q x) refl all.0 (find_part p q xs all.1)

count_part_step : {X : Type 0} (x : X) (rest part : List X) (p : X → Bool) (px qx : Bool) → p x ≡ px → (px ≡ true → qx ≡ true) → count_by p part ≡ count_by p rest
    → count_by p (cond qx (x ∷ part) part) ≡ cond px 1 0 + count_by p rest
count_part_step x rest part p px true e sub h = count_by-cons p x part ∙ ap (λ b. cond b 1 0 + count_by p part) e ∙ ap (λ n. cond px 1 0 + n) h
count_part_step x rest part p true false e sub h = absurd (cc (sub refl))
count_part_step x rest part p false false e sub h = let zero_and : 0 + count_by p rest ≡ count_by p rest = omega arith in h ∙ sym zero_and

count_part : {X : Type 0} (p q : X → Bool) (xs : List X) → AllByRecursion (λ x. p x ≡ true → q x ≡ true) xs → count_by p (filter q xs) ≡ count_by p xs
count_part p q [] all = refl
count_part p q (x ∷ xs) all = count_part_step x xs (filter q xs) p (p x) (q x) refl all.0 (count_part p q xs all.1) ∙ sym (count_by-cons p x xs)

all_of : {X : Type 0} (P : X → Type 0) → ((x : X) → P x) → (xs : List X) → AllByRecursion P xs
all_of P h [] = tt
all_of P h (x ∷ xs) = (h x, all_of P h xs)

none_left_step : {X : Type 0} (x : X) (part : List X) (p : X → Bool) (px qx : Bool) → p x ≡ px → px ≡ false → find p part ≡ None → find p (cond qx (x ∷ part) part) ≡ None
none_left_step x part p px true e absent h = ap (λ b. cond b (Some x) (find p part)) (e ∙ absent) ∙ h
none_left_step x part p px false e absent h = h

no_count : (b : Bool) (n : ℕ) → cond b 1 0 + n ≡ 0 → (b ≡ false) × (n ≡ 0)
no_count true n e = absurd (omega arith)
no_count false n e = (refl, omega arith)

none_left : {X : Type 0} (p q : X → Bool) (xs : List X) → count_by p xs ≡ 0 → find p (filter q xs) ≡ None
none_left p q [] e = refl
none_left p q (x ∷ xs) e =
    let split = no_count (p x) (count_by p xs) (sym (count_by-cons p x xs) ∙ e) in
    none_left_step x (filter q xs) p (p x) (q x) refl split.0 (none_left p q xs split.1)

one_part_step : {X Y : Type 0} (F : Option X → Y) (x : X) (rest part : List X) (p : X → Bool) (px qx : Bool) → p x ≡ px → (qx ≡ false → F (Some x) ≡ F None)
    → (px ≡ true → find p part ≡ None) → F (find p part) ≡ F (find p rest) → F (find p (cond qx (x ∷ part) part)) ≡ F (cond px (Some x) (find p rest))
one_part_step F x rest part p true true e hidden alone h = ap (λ b. F (cond b (Some x) (find p part))) e
one_part_step F x rest part p false true e hidden alone h = ap (λ b. F (cond b (Some x) (find p part))) e ∙ h
one_part_step F x rest part p true false e hidden alone h = ap F (alone refl) ∙ sym (hidden refl)
one_part_step F x rest part p false false e hidden alone h = h

few_left : (b : Bool) (n : ℕ) → cond b 1 0 + n ≤ 1 → (n ≤ 1) × (b ≡ true → n ≡ 0)
few_left true n le = (omega arith, λ _. omega arith)
few_left false n le = (omega arith, λ e. absurd (cc e))

-- what is made of the one that is found is made in the part, too, where what is outside the part counts as none
one_part : {X Y : Type 0} (F : Option X → Y) (p q : X → Bool) (xs : List X) → ((x : X) → q x ≡ false → F (Some x) ≡ F None) → count_by p xs ≤ 1
    → F (find p (filter q xs)) ≡ F (find p xs)
one_part F p q [] hidden few = refl
one_part F p q (x ∷ xs) hidden few =
    let P : ℕ → Type 0 = λ n. n ≤ 1 in
    let left = few_left (p x) (count_by p xs) (subst P (count_by-cons p x xs) few) in
    one_part_step F x xs (filter q xs) p (p x) (q x) refl (hidden x) (λ e. none_left p q xs (left.1 e)) (one_part F p q xs hidden left.0)

filter_push_step : {X : Type 0} (y x : X) (later part : List X) (b : Bool) → later ≡ part ++ x ∷ [] → cond b (y ∷ later) later ≡ cond b (y ∷ part) part ++ x ∷ []
filter_push_step y x later part true e = ap (λ l. y ∷ l) e
filter_push_step y x later part false e = e

filter_one : {X : Type 0} (x : X) (b : Bool) → b ≡ true → cond b (x ∷ []) [] ≡ x ∷ []
filter_one x true e = refl
filter_one x false e = absurd (cc e)

filter_push : {X : Type 0} (q : X → Bool) (xs : List X) (x : X) → q x ≡ true → filter q (xs ++ x ∷ []) ≡ filter q xs ++ x ∷ []
filter_push q [] x e = filter_one x (q x) e
filter_push q (y ∷ ys) x e = filter_push_step y x (filter q (ys ++ x ∷ [])) (filter q ys) (q y) (filter_push q ys x e)

changed_part_step : {X : Type 0} (x : X) (rest part : List X) (p q : X → Bool) (f : X → X) (later : List X) (found : Option X) (px qx : Bool) → p x ≡ px → q x ≡ qx
    → IfSome (cond px (Some x) found) (λ y. (q y ≡ true) × (q (f y) ≡ true)) → part ≡ filter q rest
    → (IfSome found (λ y. (q y ≡ true) × (q (f y) ≡ true)) → filter q later ≡ changed p f part)
    → filter q (cond px (f x ∷ rest) (x ∷ later)) ≡ changed p f (cond qx (x ∷ part) part)
changed_part_step x rest part p q f later found true true ep eq keep same h =
    ap (λ b. cond b (f x ∷ filter q rest) (filter q rest)) keep.1 ∙ ap (λ l. f x ∷ l) (sym same) ∙ sym (ap (λ b. cond b (f x ∷ part) (x ∷ changed p f part)) ep)
changed_part_step x rest part p q f later found true false ep eq keep same h = absurd (cc (sym eq ∙ keep.0))
changed_part_step x rest part p q f later found false true ep eq keep same h =
    ap (λ b. cond b (x ∷ filter q later) (filter q later)) eq ∙ ap (λ l. x ∷ l) (h keep) ∙ sym (ap (λ b. cond b (f x ∷ part) (x ∷ changed p f part)) ep)
changed_part_step x rest part p q f later found false false ep eq keep same h = ap (λ b. cond b (x ∷ filter q later) (filter q later)) eq ∙ h keep

-- a change of one in the part is a change in the part
changed_part : {X : Type 0} (p q : X → Bool) (f : X → X) (xs : List X) → IfSome (find p xs) (λ x. (q x ≡ true) × (q (f x) ≡ true))
    → filter q (changed p f xs) ≡ changed p f (filter q xs)
changed_part p q f [] keep = refl
changed_part p q f (x ∷ xs) keep =
    changed_part_step x xs (filter q xs) p q f (changed p f xs) (find p xs) (p x) (q x) refl refl keep refl (changed_part p q f xs)

-- members

pub both_true : (a b : Bool) → a ≡ true → b ≡ true → (a && b) ≡ true
both_true true b e h = h
both_true false b e h = absurd (cc e)

pub same_label : (a : List ℕ) → is_same a a ≡ true
same_label [] = refl
same_label (x ∷ xs) = both_true (nat_eq x x) (is_same xs xs) (eq-eqb x x refl) (same_label xs)

owner_member : (owner caller : List ℕ) (members : List (List ℕ)) → FirstIs owner members → is_same owner caller ≡ true → list_any (λ m. is_same m caller) members ≡ true
owner_member owner caller [] first same = absurd first
owner_member owner caller (m ∷ ms) first same = ap (λ b. b || list_any (λ x. is_same x caller) ms) (ap (λ o. is_same o caller) first ∙ same)

any_push_step : (b any later : Bool) → (b || any) ≡ true → (any ≡ true → later ≡ true) → (b || later) ≡ true
any_push_step true any later e h = refl
any_push_step false any later e h = h e

any_push : {X : Type 0} (p : X → Bool) (xs : List X) (x : X) → list_any p xs ≡ true → list_any p (xs ++ x ∷ []) ≡ true
any_push p [] x e = absurd (cc e)
any_push p (y ∷ ys) x e = any_push_step (p y) (list_any p ys) (list_any p (ys ++ x ∷ [])) e (any_push p ys x)

stays_step : (caller member : List ℕ) (p : Project) (b : Bool) → is_member p caller ≡ true → is_member (cond b p (record p { members = p.members ++ member ∷ [] })) caller ≡ true
stays_step caller member p true e = e
stays_step caller member p false e = any_push (λ m. is_same m caller) p.members member e

member_stays : (caller : List ℕ) (act : Act) (p : Project) → is_member p caller ≡ true → is_member (project_after caller act p) caller ≡ true
member_stays caller (OpenProject name text) p e = e
member_stays caller (AddMember owner project member) p e = stays_step caller member p (is_member p member) e
member_stays caller (Submit owner project text) p e = e
member_stays caller (Withdraw owner project s) p e = e
member_stays caller (Accept owner project s) p e = e
member_stays caller (Waive owner project s) p e = e

-- what comes of an act, by what its caller sees

hidden_outcome : (J : Meaning) (caller : List ℕ) (act : Act) (p : Project) → is_member p caller ≡ false → outcome_on J caller act (Some p) ≡ outcome_on J caller act None
hidden_outcome J caller act p e = ap (λ b. tried (cause_if (not b) NotFound ∷ (row_causes caller act p ++ judge_causes J act p)) (effect_on act p)) e

seen_on : (J : Meaning) (tables : Tables) (caller : List ℕ) (act : Act) (owner name : List ℕ) → AreFormed tables
    → outcome_on J caller act (project_named (seen_by caller tables) owner name) ≡ outcome_on J caller act (project_named tables owner name)
seen_on J tables caller act owner name formed =
    one_part (outcome_on J caller act) (is_named owner name) (λ p. is_member p caller) tables.projects (hidden_outcome J caller act) (formed.distinct owner name)

owned_seen : (caller : List ℕ) (p : Project) → IsProject p → is_same p.owner caller ≡ true → is_member p caller ≡ true
owned_seen caller p good e = owner_member p.owner caller p.members good.held.owner_first e

named_seen : (caller name : List ℕ) (p : Project) → IsProject p → is_named caller name p ≡ true → is_member p caller ≡ true
named_seen caller name p good e = owned_seen caller p good (and-true_both (is_same p.owner caller) (is_same p.name name) e).0

seen_of : (J : Meaning) (tables : Tables) (caller : List ℕ) (act : Act) → AreFormed tables → outcome_of J (seen_by caller tables) caller act ≡ outcome_of J tables caller act
seen_of J tables caller (OpenProject name text) formed =
    ap (λ found. tried (cause_if (is_some found) AlreadyOpen ∷ cause_if (nat_le 64 (project_count (seen_by caller tables) caller)) (Full 2) ∷ if_refused (J.inspected text) ∷ if_vacuous (J.inspected text) ∷ []) opening)
    (find_part (is_named caller name) (λ p. is_member p caller) tables.projects
    (All-weaken IsProject (λ p. is_named caller name p ≡ true → is_member p caller ≡ true) (named_seen caller name) tables.projects formed.each))
    ∙ ap (λ n. tried (cause_if (is_some (project_named tables caller name)) AlreadyOpen ∷ cause_if (nat_le 64 n) (Full 2) ∷ if_refused (J.inspected text) ∷ if_vacuous (J.inspected text) ∷ []) opening)
    (count_part (λ p. is_same p.owner caller) (λ p. is_member p caller) tables.projects
    (All-weaken IsProject (λ p. is_same p.owner caller ≡ true → is_member p caller ≡ true) (owned_seen caller) tables.projects formed.each))
seen_of J tables caller (AddMember owner project member) formed = seen_on J tables caller (AddMember owner project member) owner project formed
seen_of J tables caller (Submit owner project text) formed = seen_on J tables caller (Submit owner project text) owner project formed
seen_of J tables caller (Withdraw owner project s) formed = seen_on J tables caller (Withdraw owner project s) owner project formed
seen_of J tables caller (Accept owner project s) formed = seen_on J tables caller (Accept owner project s) owner project formed
seen_of J tables caller (Waive owner project s) formed = seen_on J tables caller (Waive owner project s) owner project formed

count_seen : (tables : Tables) (caller : List ℕ) → reply_count (seen_by caller tables) caller ≡ reply_count tables caller
count_seen tables caller =
    let own : Change → Bool = λ k. is_same k.caller caller in
    count_part own own tables.replies (all_of (λ k. own k ≡ true → own k ≡ true) (λ k e. e) tables.replies)

seen_outcome : (J : Meaning) (tables : Tables) (caller : List ℕ) (act : Act) → AreFormed tables → outcome J (seen_by caller tables) caller act ≡ outcome J tables caller act
seen_outcome J tables caller act formed =
    ap (λ n. cond (nat_le 100000 n) (NotDone (Full 1)) (outcome_of J (seen_by caller tables) caller act)) (count_seen tables caller)
    ∙ ap (λ o. cond (nat_le 100000 (reply_count tables caller)) (NotDone (Full 1)) o) (seen_of J tables caller act formed)

seen_kept : (tables : Tables) (caller id : List ℕ) → kept_under (seen_by caller tables) caller id ≡ kept_under tables caller id
seen_kept tables caller id =
    let own : Change → Bool = λ k. is_same k.caller caller in
    find_part (is_kept_under caller id) own tables.replies
    (all_of (λ k. is_kept_under caller id k ≡ true → own k ≡ true) (λ k e. (and-true_both (is_same k.caller caller) (is_same k.id id) e).0) tables.replies)

seen_answer : (J : Meaning) (tables : Tables) (caller : List ℕ) (query : Query) → AreFormed tables → answer J (seen_by caller tables) caller query ≡ answer J tables caller query
seen_answer J tables caller query formed =
    one_part (answer_on J caller query) (is_named (asked_owner query) (asked_name query)) (λ p. is_member p caller) tables.projects
    (λ p e. ap (λ b. cond b (told_of J query p) NotFound) e) (formed.distinct (asked_owner query) (asked_name query))

-- what the act changes, by what its caller sees

member_found : (J : Meaning) (caller : List ℕ) (act : Act) (found : Option Project) (r : Effect) → outcome_on J caller act found ≡ Done r
    → IfSome found (λ p. (is_member p caller ≡ true) × (is_member (project_after caller act p) caller ≡ true))
member_found J caller act None r e = tt
member_found J caller act (Some p) r e =
    let member = not_false (is_member p caller) (cause_none (not (is_member p caller)) NotFound
    (tried_none (cause_if (not (is_member p caller)) NotFound) (row_causes caller act p ++ judge_causes J act p) (effect_on act p) r e).0) in
    (member, member_stays caller act p member)

seen_changed : (J : Meaning) (tables : Tables) (caller : List ℕ) (act : Act) (r : Effect) → outcome_on J caller act (project_named tables (owner_of caller act) (name_of act)) ≡ Done r
    → filter (λ p. is_member p caller) (changed (is_named (owner_of caller act) (name_of act)) (project_after caller act) tables.projects)
    ≡ changed (is_named (owner_of caller act) (name_of act)) (project_after caller act) (filter (λ p. is_member p caller) tables.projects)
seen_changed J tables caller act r e =
    changed_part (is_named (owner_of caller act) (name_of act)) (λ p. is_member p caller) (project_after caller act) tables.projects
    (member_found J caller act (project_named tables (owner_of caller act) (name_of act)) r e)

seen_projects : (J : Meaning) (tables : Tables) (caller : List ℕ) (act : Act) (r : Effect) → outcome_of J tables caller act ≡ Done r
    → filter (λ p. is_member p caller) (projects_after caller act tables.projects) ≡ projects_after caller act (filter (λ p. is_member p caller) tables.projects)
seen_projects J tables caller (OpenProject name text) r e =
    filter_push (λ p. is_member p caller) tables.projects (opened caller name text) (ap (λ b. b || false) (same_label caller))
seen_projects J tables caller (AddMember owner project member) r e = seen_changed J tables caller (AddMember owner project member) r e
seen_projects J tables caller (Submit owner project text) r e = seen_changed J tables caller (Submit owner project text) r e
seen_projects J tables caller (Withdraw owner project s) r e = seen_changed J tables caller (Withdraw owner project s) r e
seen_projects J tables caller (Accept owner project s) r e = seen_changed J tables caller (Accept owner project s) r e
seen_projects J tables caller (Waive owner project s) r e = seen_changed J tables caller (Waive owner project s) r e

seen_acts : (J : Meaning) (tables new : Tables) (caller id : List ℕ) (act : Act) (reply : Reply) (o : Outcome) → outcome J tables caller act ≡ o
    → Acts tables caller id act o new reply → Acts (seen_by caller tables) caller id act o (seen_by caller new) reply
seen_acts J tables new caller id act reply (NotDone cause) e step = (ap (seen_by caller) step.0, step.1)
seen_acts J tables new caller id act reply (Done done) e step =
    let change : Change = record { caller = caller; id = id; act = act; reply = done.reply; against = done.against } in
    let split = outcome_step (nat_le 100000 (reply_count tables caller)) (outcome_of J tables caller act) done e in
    let ps = seen_projects J tables caller act done split.1 in
    let ks = filter_push (λ (k : Change). is_same k.caller caller) tables.replies change (same_label caller) in
    let rows : List Project → List Change → Tables = λ p k. record { projects = p; replies = k } in (
      ap (seen_by caller) step.0
          ∙ ap (λ p. rows p (filter (λ (k : Change). is_same k.caller caller) (tables.replies ++ change ∷ []))) ps
          ∙ ap (rows (projects_after caller act (filter (λ p. is_member p caller) tables.projects))) ks,
      step.1,
    )

seen_changes : (J : Meaning) (tables new : Tables) (caller id : List ℕ) (act : Act) (reply : Reply) (found : Option Change) → AreFormed tables
    → Changes J tables caller id act found new reply → Changes J (seen_by caller tables) caller id act found (seen_by caller new) reply
seen_changes J tables new caller id act reply (Some kept) formed step = (ap (seen_by caller) step.0, step.1)
seen_changes J tables new caller id act reply None formed step =
    let P : Outcome → Type 0 = λ o. Acts (seen_by caller tables) caller id act o (seen_by caller new) reply in
    subst P (sym (seen_outcome J tables caller act formed)) (seen_acts J tables new caller id act reply (outcome J tables caller act) refl step)

-- a step is the step of what its caller sees
pub seen_step : (J : Meaning) (tables new : Tables) (command : Command) (reply : Reply) → AreFormed tables → Step J tables command new reply
    → Step J (seen_by (caller_of command) tables) command (seen_by (caller_of command) new) reply
seen_step J tables new (ToChange caller id act) reply formed step =
    let P : Option Change → Type 0 = λ found. Changes J (seen_by caller tables) caller id act found (seen_by caller new) reply in
    subst P (sym (seen_kept tables caller id)) (seen_changes J tables new caller id act reply (kept_under tables caller id) formed step)
seen_step J tables new (Ask caller query) reply formed step = (ap (seen_by caller) step.0, step.1 ∙ sym (seen_answer J tables caller query formed))
