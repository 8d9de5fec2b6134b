-- What is told of a project is what is asked of the store.
use Rattle.std.proofs.Common.{◌≡◌, ◌==◌, ◌≤◌, ◌+◌, ℕ, Bool, true, false, cond, List, [], ◌∷◌, ◌++◌, map, length, find, Option, Some, None, is_some, IfOk, Result, Ok, Err, refl, ap, sym, ◌∙◌, subst, arith, append_assoc}
use Rattle.std.specs.Option.{option_map, option_and_then}
use Rattle.std.specs.List.{AllByRecursion}
use Rattle.std.proofs.lemmas.List.{append-nil}
use borrow.Author.Tests.{eq-eqb, ne_eqb}
use Rattle.vmv_keeper.specs.declared.project.Project.{Project}
use Rattle.vmv_keeper.specs.declared.project.Held.{Held}
use Rattle.vmv_keeper.specs.declared.project.Bench.{Bench}
use Rattle.vmv_keeper.specs.declared.project.Version.{Version}
use Rattle.vmv_keeper.specs.declared.project.Waiting.{Waiting}
use Rattle.vmv_keeper.specs.declared.project.Submitted.{Submitted}
use Rattle.vmv_keeper.specs.declared.reply.PendingRow.{PendingRow}
use Rattle.vmv_keeper.specs.declared.reply.Reply.{Reply}
use Rattle.vmv_keeper.specs.declared.reply.Reply.TheVariants.{Base, History, Pending, NotFound}
use Rattle.vmv_keeper.specs.declared.judge.Compared.{Compared}
use Rattle.vmv_keeper.specs.declared.act.Query.{Query}
use Rattle.vmv_keeper.specs.Tables.{Tables, is_member, is_submission, root_after, root_number, waiting_as, project_named, held_of, bench_of, held_in, submitted_of, submission_in, text_in}
use Rattle.vmv_keeper.specs.Outside.{IsAsIn, OfTold}
use Rattle.vmv_keeper.specs.Formed.{AreFormed, IsProject, IsHeld, Rises, is_bench_of}
use Rattle.vmv_keeper.specs.Changes.{waiting_text}
use Rattle.vmv_keeper.proofs.FormedReads.{IsProject-found}
use Rattle.vmv_keeper.proofs.ListChanges.{length_map-same}
use Rattle.vmv_desk_rules.specs.Causes.{Meaning, base_text, root_text}
use Rattle.vmv_keeper.specs.declared.act.Query.TheVariants.{History as HistoryOf}
use Rattle.vmv_desk_rules.specs.Step.{report_of, told_of, answer_on, asked_owner, asked_name}
use Rattle.vmv_desk.specs.AtHand.{Agrees, OfHeld, is_queued, has_member}
use Rattle.vmv_desk.specs.Asked.{row_of, row_in, put_before, rows_by, rows_in, put_all}
use Rattle.vmv_desk.proofs.HeldLemmas.{OfHeld_all, queued_same, find_bench}
use Rattle.vmv_desk.proofs.TextsLemmas.{submission_found, text_found, base_found, root_found}

-- the report on a submission

abbrev reported : (List ℕ → List ℕ → Compared) → ℕ → Project → Reply
reported C s p = cond (is_some (waiting_as s p)) (report_of (root_number p) (C (root_text p) (waiting_text s p))) NotFound

pub not_reported : (told : Option Tables) (owner name : List ℕ) (held : Held) (queue : Bench) (s : ℕ) (C : List ℕ → List ℕ → Compared) → is_queued queue s ≡ false
    → OfHeld told owner name held (λ p. queue ≡ bench_of p → NotFound ≡ reported C s p)
not_reported told owner name held queue s C absent =
    OfHeld_all told owner name held (λ p. queue ≡ bench_of p → NotFound ≡ reported C s p) (λ p same queued.
    let none : is_some (waiting_as s p) ≡ false = sym (queued_same s p.pending) ∙ sym (ap (λ q. is_queued q s) queued) ∙ absent in
    sym (ap (λ b. cond b (report_of (root_number p) (C (root_text p) (waiting_text s p))) NotFound) none))

not_given_some : (s : ℕ) (p : Project) (found : Option Waiting) → None ≡ option_map submitted_of found → is_some found ≡ false
not_given_some s p None e = refl
not_given_some s p (Some w) e = absurd (cc e)

-- a submission that isn't given isn't reported on
pub not_given : (told : Option Tables) (owner name : List ℕ) (held : Held) (queue : Bench) (s : ℕ) (C : List ℕ → List ℕ → Compared) → IsAsIn (submission_in owner name s) told None
    → OfHeld told owner name held (λ p. queue ≡ bench_of p → NotFound ≡ reported C s p)
not_given None owner name held queue s C given = tt
not_given (Some tables) owner name held queue s C given = λ p named same queued.
    let none = not_given_some s p (waiting_as s p) (given ∙ ap (option_and_then (λ q. option_map submitted_of (waiting_as s q))) named) in
    sym (ap (λ b. cond b (report_of (root_number p) (C (root_text p) (waiting_text s p))) NotFound) none)

given_some : (submitted : Submitted) (found : Option Waiting) → Some submitted ≡ option_map submitted_of found → is_some found ≡ true
given_some submitted None e = absurd (cc e)
given_some submitted (Some w) e = refl

pub report_found : {E : Type 0} (told then : Option Tables) (owner name : List ℕ) (held : Held) (queue : Bench) (s n : ℕ) (C : List ℕ → List ℕ → Compared)
    (submitted : Submitted) (root : List ℕ) (result : Result Reply E)
    → IsHeld owner held → n ≡ root_after 0 held.versions → IsAsIn (submission_in owner name s) told (Some submitted) → then ≡ told
    → IsAsIn (text_in owner name n) then (Some root) → IfOk result (λ reply. reply ≡ report_of n (C root submitted.text))
    → IfOk result (λ reply. OfHeld told owner name held (λ p. queue ≡ bench_of p → reply ≡ reported C s p))
report_found told then owner name held queue s n C submitted root (Err e) good at given kept read found = tt
report_found None then owner name held queue s n C submitted root (Ok reply) good at given kept read found = tt
report_found (Some tables) then owner name held queue s n C submitted root (Ok reply) good at given kept read found = λ p named same queued.
    let R : Option Tables → Type 0 = λ t. IsAsIn (text_in owner name n) t (Some root) in
    let text = submission_found tables owner name s p submitted named given in
    let rooted = root_found owner held n p good at same in
    let here = text_found tables owner name n p (Some root) (root_text p) named rooted.1 (subst R kept read) in
    let is_root : root ≡ root_text p = cc here in
    let there = given_some submitted (waiting_as s p) (given ∙ ap (option_and_then (λ q. option_map submitted_of (waiting_as s q))) named) in
    found ∙ ap (λ m. report_of m (C root submitted.text)) rooted.0 ∙ ap (λ b. report_of (root_number p) (C b submitted.text)) is_root
    ∙ ap (λ t. report_of (root_number p) (C (root_text p) t)) text
    ∙ sym (ap (λ b. cond b (report_of (root_number p) (C (root_text p) (waiting_text s p))) NotFound) there)

pub base_told : (told : Option Tables) (owner name : List ℕ) (held : Held) (n : ℕ) (text : List ℕ) → IsHeld owner held → n ≡ length held.versions
    → IsAsIn (text_in owner name n) told (Some text) → OfHeld told owner name held (λ p. Base n text ≡ Base (length p.versions) (base_text p))
base_told None owner name held n text good many read = tt
base_told (Some tables) owner name held n text good many read = λ p named same.
    let here = text_found tables owner name n p (Some text) (base_text p) named (base_found owner held n p good many same) read in
    let is_base : text ≡ base_text p = cc here in
    let last : n ≡ length p.versions = many ∙ ap (λ (h : Held). length h.versions) same ∙ length_map-same (λ (v : Version). v.row) p.versions in
    ap (λ m. Base m text) last ∙ ap (Base (length p.versions)) is_base

-- the rows of the submissions that wait

put_more : (rows : List PendingRow) (row : PendingRow) (more : Option (List PendingRow)) → put_all rows (put_before (Some row) more) ≡ put_all (rows ++ row ∷ []) more
put_more rows row None = refl
put_more rows row (Some more) = ap Some (sym (append_assoc rows (row ∷ []) more))

-- one more row is asked for
pub rows_more : (told : Option Tables) (owner name : List ℕ) (numbers rest later : List ℕ) (n : ℕ) (rows : List PendingRow) (row : PendingRow) → rest ≡ n ∷ later
    → IsAsIn (row_in owner name n) told (Some row) → OfTold told (λ t. rows_in owner name numbers t ≡ put_all rows (rows_in owner name rest t))
    → OfTold told (λ t. rows_in owner name numbers t ≡ put_all (rows ++ row ∷ []) (rows_in owner name later t))
rows_more None owner name numbers rest later n rows row e given seen = tt
rows_more (Some t) owner name numbers rest later n rows row e given seen =
    seen ∙ ap (λ l. put_all rows (rows_in owner name l t)) e ∙ ap (λ r. put_all rows (put_before r (rows_in owner name later t))) (sym given)
    ∙ put_more rows row (rows_in owner name later t)

-- one isn't given
pub rows_none : (told : Option Tables) (owner name : List ℕ) (numbers rest later : List ℕ) (n : ℕ) (rows : List PendingRow) → rest ≡ n ∷ later
    → IsAsIn (row_in owner name n) told None → OfTold told (λ t. rows_in owner name numbers t ≡ put_all rows (rows_in owner name rest t))
    → IsAsIn (rows_in owner name numbers) told None
rows_none None owner name numbers rest later n rows e given seen = tt
rows_none (Some t) owner name numbers rest later n rows e given seen =
    sym (seen ∙ ap (λ l. put_all rows (rows_in owner name l t)) e ∙ ap (λ r. put_all rows (put_before r (rows_in owner name later t))) (sym given))

pub rows_all : (told : Option Tables) (owner name : List ℕ) (numbers : List ℕ) (rest : List ℕ) (rows : List PendingRow) → rest ≡ []
    → OfTold told (λ t. rows_in owner name numbers t ≡ put_all rows (rows_in owner name rest t)) → IsAsIn (rows_in owner name numbers) told (Some rows)
rows_all None owner name numbers rest rows e seen = tt
rows_all (Some t) owner name numbers rest rows e seen =
    sym (seen ∙ ap (λ l. put_all rows (rows_in owner name l t)) e ∙ ap Some (append-nil rows))

abbrev number : Waiting → ℕ
number w = w.row.submission

-- what is given of the number of a submission that waits
abbrev given_of : List Waiting → ℕ → Option PendingRow
given_of ws n = option_map (row_of n) (option_map submitted_of (find (is_submission n) ws))

row_here : (w : Waiting) (ws : List Waiting) (b : Bool) → b ≡ true
    → option_map (row_of w.row.submission) (option_map submitted_of (cond b (Some w) (find (is_submission w.row.submission) ws))) ≡ Some w.row
row_here w ws true e = refl
row_here w ws false e = absurd (cc e)

row_later : (w : Waiting) (ws : List Waiting) (n : ℕ) (b : Bool) → b ≡ false
    → option_map (row_of n) (option_map submitted_of (cond b (Some w) (find (is_submission n) ws))) ≡ given_of ws n
row_later w ws n true e = absurd (cc e)
row_later w ws n false e = refl

weaken : (low high : ℕ) (ns : List ℕ) → low ≤ high → AllByRecursion (λ n. high ≤ n) ns → AllByRecursion (λ n. low ≤ n) ns
weaken low high [] le h = tt
weaken low high (n ∷ ns) le h = let at = h.0 in (omega arith, weaken low high ns le h.1)

rises_above : (low : ℕ) (ns : List ℕ) → Rises low ns → AllByRecursion (λ n. low ≤ n) ns
rises_above low [] h = tt
rises_above low (n ∷ ns) h = let at = h.0 in (at, weaken low (n + 1) ns (omega arith) (rises_above (n + 1) ns h.1))

-- a submission before the others changes nothing of what is given of theirs
rows_behind : (w : Waiting) (ws : List Waiting) (ns : List ℕ) → AllByRecursion (λ n. w.row.submission + 1 ≤ n) ns → rows_by (given_of (w ∷ ws)) ns ≡ rows_by (given_of ws) ns
rows_behind w ws [] above = refl
rows_behind w ws (n ∷ ns) above =
    let at = above.0 in
    ap (λ r. put_before r (rows_by (given_of (w ∷ ws)) ns)) (row_later w ws n (w.row.submission == n) (ne_eqb w.row.submission n (λ same. absurd (omega arith))))
    ∙ ap (put_before (given_of ws n)) (rows_behind w ws ns above.1)

-- each submission that waits is given
pub rows_waiting : (low : ℕ) (ws : List Waiting) → Rises low (map number ws) → rows_by (given_of ws) (map number ws) ≡ Some (map (λ (w : Waiting). w.row) ws)
rows_waiting low [] h = refl
rows_waiting low (w ∷ ws) h =
    ap (λ r. put_before r (rows_by (given_of (w ∷ ws)) (map number ws))) (row_here w ws (w.row.submission == w.row.submission) (eq-eqb w.row.submission w.row.submission refl))
    ∙ ap (put_before (Some w.row)) (rows_behind w ws (map number ws) (rises_above (w.row.submission + 1) (map number ws) h.1) ∙ rows_waiting (w.row.submission + 1) ws h.1)

rows_same : (f g : ℕ → Option PendingRow) (ns : List ℕ) → ((n : ℕ) → f n ≡ g n) → rows_by f ns ≡ rows_by g ns
rows_same f g [] h = refl
rows_same f g (n ∷ ns) h = ap (λ r. put_before r (rows_by f ns)) (h n) ∙ ap (put_before (g n)) (rows_same f g ns h)

rows_told : (tables : Tables) (owner name : List ℕ) (queue : Bench) (p : Project) → AreFormed tables → project_named tables owner name ≡ Some p
    → queue ≡ bench_of p → rows_in owner name queue.pending tables ≡ Some (map (λ (w : Waiting). w.row) p.pending)
rows_told tables owner name queue p formed named queued =
    let good : IsProject p = IsProject-found owner name tables.projects p formed.each named in
    ap (λ (q : Bench). rows_in owner name q.pending tables) queued
    ∙ rows_same (λ n. row_in owner name n tables) (given_of p.pending) (map number p.pending)
    (λ n. ap (λ found. option_map (row_of n) (option_and_then (λ (q : Project). option_map submitted_of (waiting_as n q)) found)) named)
    ∙ rows_waiting 1 p.pending good.bench.rising

pub pending_told : (told : Option Tables) (owner name : List ℕ) (held : Held) (queue : Bench) (J : Meaning) (rows : List PendingRow)
    → IsAsIn (rows_in owner name queue.pending) told (Some rows) → OfTold told AreFormed
    → OfHeld told owner name held (λ p. queue ≡ bench_of p → Pending rows ≡ Pending (map (λ (w : Waiting). w.row) p.pending))
pending_told None owner name held queue J rows given formed = tt
pending_told (Some tables) owner name held queue J rows given formed = λ p named same queued.
    let e : Some rows ≡ Some (map (λ (w : Waiting). w.row) p.pending) = given ∙ rows_told tables owner name queue p formed named queued in
    let rows_are : rows ≡ map (λ (w : Waiting). w.row) p.pending = cc e in ap Pending rows_are

pub pending_missing : (told : Option Tables) (owner name : List ℕ) (held : Held) (queue : Bench) (J : Meaning)
    → IsAsIn (rows_in owner name queue.pending) told None → OfTold told AreFormed
    → OfHeld told owner name held (λ p. queue ≡ bench_of p → NotFound ≡ Pending (map (λ (w : Waiting). w.row) p.pending))
pending_missing None owner name held queue J given formed = tt
pending_missing (Some tables) owner name held queue J given formed = λ p named same queued.
    let e = given ∙ rows_told tables owner name queue p formed named queued in absurd (cc e)

-- the answer about the project that is there

found_step : {X : Type 0} (tables : Tables) (owner name : List ℕ) (F : Option Project → X) (held : Held) (queue : Bench) (x : X) (found : Option Project)
    → project_named tables owner name ≡ found → Some held ≡ option_map held_of found → Some queue ≡ option_map bench_of found
    → ((p : Project) → project_named tables owner name ≡ Some p → held ≡ held_of p → queue ≡ bench_of p → x ≡ F (Some p)) → x ≡ F found
found_step tables owner name F held queue x None named e h all = absurd (cc e)
found_step tables owner name F held queue x (Some p) named e h all =
    let same : held ≡ held_of p = cc e in let queued : queue ≡ bench_of p = cc h in all p named same queued

pub found_held : {X : Type 0} (told : Option Tables) (owner name : List ℕ) (F : Option Project → X) (held : Held) (queue : Bench) (queues : List Bench) (x : X)
    → Agrees told queues → IsAsIn (held_in owner name) told (Some held) → Some queue ≡ find (is_bench_of owner name) queues
    → OfHeld told owner name held (λ p. queue ≡ bench_of p → x ≡ F (Some p)) → IsAsIn (λ t. F (project_named t owner name)) told x
found_held None owner name F held queue queues x agrees loaded queued all = tt
found_held (Some tables) owner name F held queue queues x agrees loaded queued all =
    found_step tables owner name F held queue x (project_named tables owner name) refl loaded
    (queued ∙ ap (find (is_bench_of owner name)) agrees ∙ find_bench owner name tables.projects) all

no_queue_step : {X : Type 0} (F : Option Project → X) (held : Held) (x : X) (found : Option Project) → Some held ≡ option_map held_of found → None ≡ option_map bench_of found → x ≡ F found
no_queue_step F held x None e h = absurd (cc e)
no_queue_step F held x (Some p) e h = absurd (cc h)

pub found_no_queue : {X : Type 0} (told : Option Tables) (owner name : List ℕ) (F : Option Project → X) (held : Held) (queues : List Bench) (x : X)
    → Agrees told queues → IsAsIn (held_in owner name) told (Some held) → None ≡ find (is_bench_of owner name) queues → IsAsIn (λ t. F (project_named t owner name)) told x
found_no_queue None owner name F held queues x agrees loaded absent = tt
found_no_queue (Some tables) owner name F held queues x agrees loaded absent =
    no_queue_step F held x (project_named tables owner name) loaded (absent ∙ ap (find (is_bench_of owner name)) agrees ∙ find_bench owner name tables.projects)

member_of : (held : Held) (caller : List ℕ) (p : Project) (b : Bool) → held ≡ held_of p → has_member held caller ≡ b → is_member p caller ≡ b
member_of held caller p b same member = sym (ap (λ h. has_member h caller) same) ∙ member

pub not_a_member : (told : Option Tables) (owner name : List ℕ) (J : Meaning) (caller : List ℕ) (query : Query) (held : Held) (queue : Bench) → has_member held caller ≡ false
    → OfHeld told owner name held (λ p. queue ≡ bench_of p → NotFound ≡ answer_on J caller query (Some p))
not_a_member told owner name J caller query held queue member =
    OfHeld_all told owner name held (λ p. queue ≡ bench_of p → NotFound ≡ answer_on J caller query (Some p)) (λ p same queued.
    sym (ap (λ b. cond b (told_of J query p) NotFound) (member_of held caller p false same member)))

-- what a member is told is the answer
pub told_member : (told : Option Tables) (owner name : List ℕ) (J : Meaning) (caller : List ℕ) (query : Query) (held : Held) (queue : Bench) (reply : Reply) → has_member held caller ≡ true
    → OfHeld told owner name held (λ p. queue ≡ bench_of p → reply ≡ told_of J query p)
    → OfHeld told owner name held (λ p. queue ≡ bench_of p → reply ≡ answer_on J caller query (Some p))
told_member None owner name J caller query held queue reply member all = tt
told_member (Some tables) owner name J caller query held queue reply member all = λ p named same queued.
    all p named same queued ∙ sym (ap (λ b. cond b (told_of J query p) NotFound) (member_of held caller p true same member))

pub asked_result : {E : Type 0} (told then : Option Tables) (owner name of_owner of_name : List ℕ) (J : Meaning) (caller : List ℕ) (query : Query) (held : Held) (queue : Bench) (queues : List Bench) (result : Result Reply E)
    → Agrees told queues → IsAsIn (held_in owner name) told (Some held) → Some queue ≡ find (is_bench_of owner name) queues → then ≡ told
    → of_owner ≡ owner → of_name ≡ name → has_member held caller ≡ true
    → IfOk result (λ reply. OfTold then AreFormed → OfHeld then of_owner of_name held (λ p. queue ≡ bench_of p → reply ≡ told_of J query p))
    → IfOk result (λ reply. OfTold told AreFormed → IsAsIn (λ tables. answer_on J caller query (project_named tables owner name)) told reply)
asked_result told then owner name of_owner of_name J caller query held queue queues (Err e) agrees loaded queued kept eo en member all = tt
asked_result told then owner name of_owner of_name J caller query held queue queues (Ok reply) agrees loaded queued kept eo en member all = λ formed.
    let F : Option Tables → Type 0 = λ t. OfTold t AreFormed in
    let P : Option Tables → Type 0 = λ t. OfHeld t of_owner of_name held (λ p. queue ≡ bench_of p → reply ≡ told_of J query p) in
    let Q : List ℕ → Type 0 = λ o. OfHeld told o of_name held (λ p. queue ≡ bench_of p → reply ≡ told_of J query p) in
    let R : List ℕ → Type 0 = λ n. OfHeld told owner n held (λ p. queue ≡ bench_of p → reply ≡ told_of J query p) in
    found_held told owner name (answer_on J caller query) held queue queues reply agrees loaded queued
    (told_member told owner name J caller query held queue reply member (subst R en (subst Q eo (subst P kept (all (subst F (sym kept) formed))))))

pub OfHeld_queued : (told : Option Tables) (owner name : List ℕ) (held : Held) (queue : Bench) (P : Project → Type 0)
    → OfHeld told owner name held P → OfHeld told owner name held (λ p. queue ≡ bench_of p → P p)
OfHeld_queued None owner name held queue P all = tt
OfHeld_queued (Some tables) owner name held queue P all = λ p named same queued. all p named same

-- the versions that are told are the project's
pub history_told : (told : Option Tables) (held : Held) (queue : Bench) (M : Meaning) (query : Query) (owner name : List ℕ) → query ≡ HistoryOf owner name
    → OfHeld told (asked_owner query) (asked_name query) held (λ p. queue ≡ bench_of p → History held.versions ≡ told_of M query p)
history_told told held queue M query owner name is =
    OfHeld_all told (asked_owner query) (asked_name query) held (λ p. queue ≡ bench_of p → History held.versions ≡ told_of M query p) (λ p same queued.
    ap (λ (h : Held). History h.versions) same ∙ sym (ap (λ q. told_of M q p) is))
