-- What comes of an act, by its project's rows at hand.
use Rattle.std.proofs.Common.{◌⊎◌, inl, inr, ◌≡◌, ◌==◌, ◌+◌, ◌||◌, ℕ, Bool, true, false, cond, not, nat_le, nat_lt, List, [], ◌∷◌, ◌++◌, map, length, find, Option, Some, None, is_some, is_none, IsSome, IfOk, Result, Ok, Err, refl, ap, sym, ◌∙◌, subst, length-append}
use Rattle.std.specs.Option.{option_map}
use Rattle.std.specs.List.{list_any}
use Rattle.vmv_keeper.specs.declared.project.Project.{Project}
use Rattle.vmv_keeper.specs.declared.project.Held.{Held}
use Rattle.vmv_keeper.specs.declared.project.Bench.{Bench}
use Rattle.vmv_keeper.specs.declared.project.Waiting.{Waiting}
use Rattle.vmv_keeper.specs.declared.project.Version.{Version}
use Rattle.vmv_keeper.specs.declared.act.Act.{Act}
use Rattle.vmv_keeper.specs.declared.act.Act.TheVariants.{OpenProject, AddMember, Submit, Withdraw, Accept, Waive}
use Rattle.vmv_keeper.specs.declared.reply.Reply.{Reply}
use Rattle.vmv_keeper.specs.declared.judge.Inspected.{Inspected}
use Rattle.vmv_keeper.specs.declared.reply.Reply.TheVariants.{Members, Accepted, Waived, NotFound, NotAllowed, Full}
use Rattle.vmv_keeper.specs.Tables.{Tables, is_same, is_member, is_named, is_submission, waiting_as, project_named, held_of, bench_of, held_in}
use Rattle.vmv_keeper.specs.Outside.{IsAsIn}
use Rattle.vmv_keeper.specs.Formed.{is_bench_of}
use Rattle.vmv_keeper.specs.Changes.{reply_to, against_of, owner_of, name_of}
use Rattle.vmv_keeper.proofs.ListChanges.{length_map-same}
use Rattle.vmv_desk_rules.specs.declared.outcome.Effect.{Effect}
use Rattle.vmv_desk_rules.specs.declared.outcome.Outcome.{Outcome}
use Rattle.vmv_desk_rules.specs.declared.outcome.Outcome.TheVariants.{Done, NotDone}
use Rattle.vmv_desk_rules.specs.Causes.{Meaning, cause_if, if_refused, tried, effect_on, row_causes, judge_causes, outcome_on}
use Rattle.vmv_desk.specs.AtHand.{Agrees, OfHeld, Waits, causes_at, reply_at, against_at, effect_at, first_cause, has_member, is_queued}

-- what holds of the project that is at hand

pub OfHeld_all : (told : Option Tables) (owner name : List ℕ) (held : Held) (P : Project → Type 0)
    → ((p : Project) → held ≡ held_of p → P p) → OfHeld told owner name held P
OfHeld_all None owner name held P h = tt
OfHeld_all (Some tables) owner name held P h = λ p named same. h p same

pub OfHeld_map : (told : Option Tables) (owner name : List ℕ) (held : Held) (P Q : Project → Type 0)
    → ((p : Project) → held ≡ held_of p → P p → Q p) → OfHeld told owner name held P → OfHeld told owner name held Q
OfHeld_map None owner name held P Q h all = tt
OfHeld_map (Some tables) owner name held P Q h all = λ p named same. h p same (all p named same)

-- a number is queued where its submission waits

queued_step : (s : ℕ) (w : Waiting) (any : Bool) (found : Option Waiting) (b : Bool) → any ≡ is_some found → (b || any) ≡ is_some (cond b (Some w) found)
queued_step s w any found true e = refl
queued_step s w any found false e = e

pub queued_same : (s : ℕ) (ws : List Waiting) → list_any (λ n. n == s) (map (λ (w : Waiting). w.row.submission) ws) ≡ is_some (find (is_submission s) ws)
queued_same s [] = refl
queued_same s (w ∷ ws) =
    queued_step s w (list_any (λ n. n == s) (map (λ (v : Waiting). v.row.submission) ws)) (find (is_submission s) ws) (w.row.submission == s) (queued_same s ws)

not_queued : (s : ℕ) (p : Project) → not (is_queued (bench_of p) s) ≡ is_none (waiting_as s p)
not_queued s p = ap not (queued_same s p.pending)

pub causes_same : (caller : List ℕ) (act : Act) (p : Project) → causes_at caller act (held_of p) (bench_of p) ≡ row_causes caller act p
causes_same caller (OpenProject name text) p = refl
causes_same caller (AddMember owner project member) p = refl
causes_same caller (Submit owner project text) p =
    ap (λ n. cause_if (nat_le 32 n) (Full 4) ∷ cause_if (nat_lt 1000000 p.next) (Full 5) ∷ []) (length_map-same (λ (w : Waiting). w.row.submission) p.pending)
causes_same caller (Withdraw owner project submission) p = ap (λ b. cause_if b NotFound ∷ []) (not_queued submission p)
causes_same caller (Accept owner project submission) p =
    ap (λ b. cause_if b NotFound ∷ cause_if (nat_le 1024 (length (map (λ (v : Version). v.row) p.versions))) (Full 6) ∷ []) (not_queued submission p)
    ∙ ap (λ n. cause_if (is_none (waiting_as submission p)) NotFound ∷ cause_if (nat_le 1024 n) (Full 6) ∷ []) (length_map-same (λ (v : Version). v.row) p.versions)
causes_same caller (Waive owner project submission) p =
    ap (λ b. cause_if (not (is_same caller owner)) NotAllowed ∷ cause_if b NotFound ∷ cause_if (nat_le 1024 (length (map (λ (v : Version). v.row) p.versions))) (Full 6) ∷ []) (not_queued submission p)
    ∙ ap (λ n. cause_if (not (is_same caller owner)) NotAllowed ∷ cause_if (is_none (waiting_as submission p)) NotFound ∷ cause_if (nat_le 1024 n) (Full 6) ∷ [])
    (length_map-same (λ (v : Version). v.row) p.versions)

members_step : (p : Project) (member : List ℕ) (b : Bool)
    → cond b (length p.members) (length p.members + 1) ≡ length (cond b p (record p { members = p.members ++ member ∷ [] })).members
members_step p member true = refl
members_step p member false = sym (length-append p.members (member ∷ []))

pub reply_same : (act : Act) (p : Project) → reply_at act (held_of p) ≡ reply_to act p
reply_same (OpenProject name text) p = refl
reply_same (AddMember owner project member) p = ap Members (members_step p member (is_member p member))
reply_same (Submit owner project text) p = refl
reply_same (Withdraw owner project submission) p = refl
reply_same (Accept owner project submission) p = ap (λ n. Accepted (n + 1)) (length_map-same (λ (v : Version). v.row) p.versions)
reply_same (Waive owner project submission) p = ap (λ n. Waived (n + 1)) (length_map-same (λ (v : Version). v.row) p.versions)

against_same : (act : Act) (p : Project) → against_at act (held_of p) ≡ against_of act p
against_same (OpenProject name text) p = refl
against_same (AddMember owner project member) p = refl
against_same (Submit owner project text) p = refl
against_same (Withdraw owner project submission) p = refl
against_same (Accept owner project submission) p = refl
against_same (Waive owner project submission) p = refl

effect_same : (act : Act) (p : Project) → effect_at act (held_of p) ≡ effect_on act p
effect_same act p =
    let whole : Reply → ℕ → Effect = λ reply against. record { reply = reply; against = against } in
    ap (λ r. whole r (against_at act (held_of p))) (reply_same act p) ∙ ap (whole (reply_to act p)) (against_same act p)

-- causes that are tried in their order

pub tried_stop : (front back : List (Option Reply)) (done : Effect) (r : Reply) → Some r ≡ first_cause front → tried (front ++ back) done ≡ NotDone r
tried_stop [] back done r e = absurd (cc e)
tried_stop (None ∷ front) back done r e = tried_stop front back done r e
tried_stop (Some cause ∷ front) back done r e = let same : cause ≡ r = cc e in ap NotDone same

pub tried_go : (front back : List (Option Reply)) (done : Effect) → None ≡ first_cause front → tried (front ++ back) done ≡ tried back done
tried_go [] back done e = refl
tried_go (None ∷ front) back done e = tried_go front back done e
tried_go (Some cause ∷ front) back done e = absurd (cc e)

pub tried_last : (causes : List (Option Reply)) (done : Effect) (r : Reply) → Some r ≡ first_cause causes → tried causes done ≡ NotDone r
tried_last [] done r e = absurd (cc e)
tried_last (None ∷ causes) done r e = tried_last causes done r e
tried_last (Some cause ∷ causes) done r e = let same : cause ≡ r = cc e in ap NotDone same

pub tried_done : (causes : List (Option Reply)) (done : Effect) → None ≡ first_cause causes → tried causes done ≡ Done done
tried_done [] done e = refl
tried_done (None ∷ causes) done e = tried_done causes done e
tried_done (Some cause ∷ causes) done e = absurd (cc e)

waits_behind : (found : Option Waiting) (rest : List (Option Reply)) → None ≡ first_cause (cause_if (is_none found) NotFound ∷ rest) → IsSome found
waits_behind None rest e = absurd (cc e)
waits_behind (Some w) rest e = refl

waits_behind_owner : (b : Bool) (found : Option Waiting) (rest : List (Option Reply))
    → None ≡ first_cause (cause_if b NotAllowed ∷ cause_if (is_none found) NotFound ∷ rest) → IsSome found
waits_behind_owner true found rest e = absurd (cc e)
waits_behind_owner false found rest e = waits_behind found rest e

-- where no row stands against an act, the submission that it moves is there
pub waits_of : (caller : List ℕ) (act : Act) (p : Project) → None ≡ first_cause (row_causes caller act p) → Waits act p
waits_of caller (OpenProject name text) p e = tt
waits_of caller (AddMember owner project member) p e = tt
waits_of caller (Submit owner project text) p e = tt
waits_of caller (Withdraw owner project submission) p e = tt
waits_of caller (Accept owner project submission) p e = waits_behind (waiting_as submission p) (cause_if (nat_le 1024 (length p.versions)) (Full 6) ∷ []) e
waits_of caller (Waive owner project submission) p e =
    waits_behind_owner (not (is_same caller owner)) (waiting_as submission p) (cause_if (nat_le 1024 (length p.versions)) (Full 6) ∷ []) e

-- what comes of a member's act
outcome_member : (J : Meaning) (caller : List ℕ) (act : Act) (p : Project) → is_member p caller ≡ true
    → outcome_on J caller act (Some p) ≡ tried (row_causes caller act p ++ judge_causes J act p) (effect_on act p)
outcome_member J caller act p member =
    ap (λ b. tried (cause_if (not b) NotFound ∷ (row_causes caller act p ++ judge_causes J act p)) (effect_on act p)) member

pub rows_of : (caller : List ℕ) (act : Act) (held : Held) (queue : Bench) (p : Project) → held ≡ held_of p → queue ≡ bench_of p
    → first_cause (causes_at caller act held queue) ≡ first_cause (row_causes caller act p)
rows_of caller act held queue p same queued =
    ap (λ h. first_cause (causes_at caller act h queue)) same ∙ ap (λ q. first_cause (causes_at caller act (held_of p) q)) queued
    ∙ ap first_cause (causes_same caller act p)

member_of : (held : Held) (caller : List ℕ) (p : Project) → held ≡ held_of p → has_member held caller ≡ true → is_member p caller ≡ true
member_of held caller p same member = sym (ap (λ h. has_member h caller) same) ∙ member

one_cause : (cause : Option Reply) → cause ≡ first_cause (cause ∷ [])
one_cause None = refl
one_cause (Some r) = refl

-- a text that is submitted
pub submit_found : (told : Option Tables) (at called : List ℕ) (held : Held) (M : Meaning) (act : Act) (owner project text : List ℕ) (said : Inspected) (cause : Option Reply)
    → act ≡ Submit owner project text → M.inspected text ≡ said → cause ≡ if_refused said
    → OfHeld told at called held (λ p. Waits act p → cause ≡ first_cause (judge_causes M act p))
submit_found told at called held M act owner project text said cause is e found =
    OfHeld_all told at called held (λ p. Waits act p → cause ≡ first_cause (judge_causes M act p)) (λ p same waits.
    found ∙ sym (ap if_refused e) ∙ one_cause (if_refused (M.inspected text)) ∙ sym (ap (λ a. first_cause (judge_causes M a p)) is))

-- acts against which a judge finds nothing
abbrev pub IsUnjudged : Act → Type 0
IsUnjudged act =
    ((name : List ℕ) × (text : List ℕ) × (act ≡ OpenProject name text))
    ⊎ (((owner : List ℕ) × (project : List ℕ) × (member : List ℕ) × (act ≡ AddMember owner project member))
    ⊎ ((owner : List ℕ) × (project : List ℕ) × (submission : ℕ) × (act ≡ Withdraw owner project submission)))

no_cause : (M : Meaning) (act : Act) (p : Project) → IsUnjudged act → None ≡ first_cause (judge_causes M act p)
no_cause M act p (inl (name, text, is)) = sym (ap (λ a. first_cause (judge_causes M a p)) is)
no_cause M act p (inr (inl (owner, project, member, is))) = sym (ap (λ a. first_cause (judge_causes M a p)) is)
no_cause M act p (inr (inr (owner, project, submission, is))) = sym (ap (λ a. first_cause (judge_causes M a p)) is)

pub nothing_found : (told : Option Tables) (at called : List ℕ) (held : Held) (M : Meaning) (act : Act) → IsUnjudged act
    → OfHeld told at called held (λ p. Waits act p → None ≡ first_cause (judge_causes M act p))
nothing_found told at called held M act is =
    OfHeld_all told at called held (λ p. Waits act p → None ≡ first_cause (judge_causes M act p)) (λ p same waits. no_cause M act p is)

-- who isn't a member is told of no project
pub no_member : (told : Option Tables) (owner name : List ℕ) (M : Meaning) (caller : List ℕ) (act : Act) (held : Held) (queue : Bench) (found : Outcome) → has_member held caller ≡ false
    → found ≡ NotDone NotFound → OfHeld told owner name held (λ p. queue ≡ bench_of p → found ≡ outcome_on M caller act (Some p))
no_member told owner name M caller act held queue found absent is =
    OfHeld_all told owner name held (λ p. queue ≡ bench_of p → found ≡ outcome_on M caller act (Some p)) (λ p same queued.
    let none : is_member p caller ≡ false = sym (ap (λ h. has_member h caller) same) ∙ absent in
    is ∙ sym (ap (λ b. tried (cause_if (not b) NotFound ∷ (row_causes caller act p ++ judge_causes M act p)) (effect_on act p)) none))

pub stopped_by_rows : (told : Option Tables) (owner name : List ℕ) (J : Meaning) (caller : List ℕ) (act : Act) (held : Held) (queue : Bench) (r : Reply)
    → has_member held caller ≡ true → Some r ≡ first_cause (causes_at caller act held queue)
    → OfHeld told owner name held (λ p. queue ≡ bench_of p → NotDone r ≡ outcome_on J caller act (Some p))
stopped_by_rows told owner name J caller act held queue r member e =
    OfHeld_all told owner name held (λ p. queue ≡ bench_of p → NotDone r ≡ outcome_on J caller act (Some p)) (λ p same queued.
    sym (outcome_member J caller act p (member_of held caller p same member)
    ∙ tried_stop (row_causes caller act p) (judge_causes J act p) (effect_on act p) r (e ∙ rows_of caller act held queue p same queued)))

pub stopped_by_judge : (told : Option Tables) (owner name : List ℕ) (J : Meaning) (caller : List ℕ) (act : Act) (held : Held) (queue : Bench) (r : Reply) (cause : Option Reply)
    → has_member held caller ≡ true → None ≡ first_cause (causes_at caller act held queue) → cause ≡ Some r
    → OfHeld told owner name held (λ p. Waits act p → cause ≡ first_cause (judge_causes J act p))
    → OfHeld told owner name held (λ p. queue ≡ bench_of p → NotDone r ≡ outcome_on J caller act (Some p))
stopped_by_judge told owner name J caller act held queue r cause member e is finds =
    OfHeld_map told owner name held (λ p. Waits act p → cause ≡ first_cause (judge_causes J act p)) (λ p. queue ≡ bench_of p → NotDone r ≡ outcome_on J caller act (Some p)) (λ p same found queued.
    let none = e ∙ rows_of caller act held queue p same queued in
    sym (outcome_member J caller act p (member_of held caller p same member)
    ∙ tried_go (row_causes caller act p) (judge_causes J act p) (effect_on act p) none
    ∙ tried_last (judge_causes J act p) (effect_on act p) r (sym is ∙ found (waits_of caller act p none)))) finds

pub done_at : (told : Option Tables) (owner name : List ℕ) (J : Meaning) (caller : List ℕ) (act : Act) (held : Held) (queue : Bench) (r : Effect) (cause : Option Reply)
    → has_member held caller ≡ true → None ≡ first_cause (causes_at caller act held queue) → cause ≡ None → r ≡ effect_at act held
    → OfHeld told owner name held (λ p. Waits act p → cause ≡ first_cause (judge_causes J act p))
    → OfHeld told owner name held (λ p. queue ≡ bench_of p → Done r ≡ outcome_on J caller act (Some p))
done_at told owner name J caller act held queue r cause member e is reply finds =
    OfHeld_map told owner name held (λ p. Waits act p → cause ≡ first_cause (judge_causes J act p)) (λ p. queue ≡ bench_of p → Done r ≡ outcome_on J caller act (Some p)) (λ p same found queued.
    let none = e ∙ rows_of caller act held queue p same queued in
    ap Done (reply ∙ ap (effect_at act) same ∙ effect_same act p)
    ∙ sym (outcome_member J caller act p (member_of held caller p same member)
    ∙ tried_go (row_causes caller act p) (judge_causes J act p) (effect_on act p) none
    ∙ tried_done (judge_causes J act p) (effect_on act p) (sym is ∙ found (waits_of caller act p none)))) finds

-- the project and its queue that a store and the queues give

find_bench_step : (p : Project) (b : Bool) (found : Option Project) (queued : Option Bench) → queued ≡ option_map bench_of found
    → cond b (Some (bench_of p)) queued ≡ option_map bench_of (cond b (Some p) found)
find_bench_step p true found queued e = refl
find_bench_step p false found queued e = e

pub find_bench : (owner name : List ℕ) (ps : List Project) → find (is_bench_of owner name) (map bench_of ps) ≡ option_map bench_of (find (is_named owner name) ps)
find_bench owner name [] = refl
find_bench owner name (p ∷ ps) =
    find_bench_step p (is_named owner name p) (find (is_named owner name) ps) (find (is_bench_of owner name) (map bench_of ps)) (find_bench owner name ps)

no_queue_step : (J : Meaning) (caller : List ℕ) (act : Act) (held : Held) (found : Option Project) → Some held ≡ option_map held_of found → None ≡ option_map bench_of found
    → NotDone NotFound ≡ outcome_on J caller act found
no_queue_step J caller act held None e h = refl
no_queue_step J caller act held (Some p) e h = absurd (cc h)

pub no_queue : (told : Option Tables) (owner name : List ℕ) (J : Meaning) (caller : List ℕ) (act : Act) (held : Held) (queues : List Bench) (found : Outcome)
    → Agrees told queues → IsAsIn (held_in owner name) told (Some held) → None ≡ find (is_bench_of owner name) queues → found ≡ NotDone NotFound
    → IsAsIn (λ tables. outcome_on J caller act (project_named tables owner name)) told found
no_queue None owner name J caller act held queues found agrees loaded absent e = tt
no_queue (Some tables) owner name J caller act held queues found agrees loaded absent e =
    e ∙ no_queue_step J caller act held (project_named tables owner name) loaded
    (absent ∙ ap (find (is_bench_of owner name)) agrees ∙ find_bench owner name tables.projects)

from_held_step : (tables : Tables) (owner name : List ℕ) (J : Meaning) (caller : List ℕ) (act : Act) (held : Held) (queue : Bench) (x : Outcome) (found : Option Project)
    → project_named tables owner name ≡ found → Some held ≡ option_map held_of found → Some queue ≡ option_map bench_of found
    → ((p : Project) → project_named tables owner name ≡ Some p → held ≡ held_of p → queue ≡ bench_of p → x ≡ outcome_on J caller act (Some p))
    → x ≡ outcome_on J caller act found
from_held_step tables owner name J caller act held queue x None named e h all = absurd (cc e)
from_held_step tables owner name J caller act held queue x (Some p) named e h all =
    let same : held ≡ held_of p = cc e in let queued : queue ≡ bench_of p = cc h in all p named same queued

-- what comes of an act on what is held is what comes of it on the project that is there
pub from_held : {E : Type 0} (told then : Option Tables) (owner name : List ℕ) (J : Meaning) (caller : List ℕ) (act : Act) (held : Held) (queue : Bench) (queues : List Bench) (result : Result Outcome E)
    → Agrees told queues → IsAsIn (held_in owner name) told (Some held) → Some queue ≡ find (is_bench_of owner name) queues → then ≡ told
    → owner_of caller act ≡ owner → name_of act ≡ name
    → IfOk result (λ x. OfHeld then (owner_of caller act) (name_of act) held (λ p. queue ≡ bench_of p → x ≡ outcome_on J caller act (Some p)))
    → IfOk result (IsAsIn (λ tables. outcome_on J caller act (project_named tables owner name)) told)
from_held told then owner name J caller act held queue queues (Err e) agrees loaded queued kept eo en all = tt
from_held None then owner name J caller act held queue queues (Ok x) agrees loaded queued kept eo en all = tt
from_held (Some tables) then owner name J caller act held queue queues (Ok x) agrees loaded queued kept eo en all =
    let P : Option Tables → Type 0 = λ t. OfHeld t (owner_of caller act) (name_of act) held (λ p. queue ≡ bench_of p → x ≡ outcome_on J caller act (Some p)) in
    let Q : List ℕ → Type 0 = λ o. OfHeld (Some tables) o (name_of act) held (λ p. queue ≡ bench_of p → x ≡ outcome_on J caller act (Some p)) in
    let R : List ℕ → Type 0 = λ n. OfHeld (Some tables) owner n held (λ p. queue ≡ bench_of p → x ≡ outcome_on J caller act (Some p)) in
    from_held_step tables owner name J caller act held queue x (project_named tables owner name) refl loaded
    (queued ∙ ap (find (is_bench_of owner name)) agrees ∙ find_bench owner name tables.projects)
    (subst R en (subst Q eo (subst P kept all)))
