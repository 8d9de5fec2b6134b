-- The queues follow the rows of a store.
use Rattle.std.proofs.Common.{◌≡◌, ◌==◌, ◌<◌, ℕ, Bool, true, false, cond, List, [], ◌∷◌, ◌++◌, map, length, find, Option, Some, None, IsSomeAnd, refl, ap, sym, ◌∙◌, subst, arith}
use Rattle.std.specs.Option.{option_map}
use Rattle.vmv_keeper.specs.declared.project.Project.{Project}
use Rattle.vmv_keeper.specs.declared.project.Bench.{Bench}
use Rattle.vmv_keeper.specs.declared.project.Waiting.{Waiting}
use Rattle.vmv_keeper.specs.declared.reply.PendingRow.{PendingRow}
use Rattle.vmv_keeper.specs.declared.act.Act.{Act}
use Rattle.vmv_keeper.specs.declared.act.Act.TheVariants.{OpenProject, AddMember, Submit, Withdraw, Accept, Waive}
use Rattle.vmv_keeper.specs.declared.change.Change.{Change}
use Rattle.vmv_keeper.specs.declared.reply.Reply.{Reply}
use Rattle.vmv_keeper.specs.Tables.{Tables, is_member, is_named, is_submission, bench_of, project_in}
use Rattle.vmv_keeper.specs.Outside.{OfTold}
use Rattle.vmv_keeper.specs.Formed.{is_bench_of}
use Rattle.vmv_keeper.specs.Changes.{Fits, ActFits, after, projects_after, project_after, changed, without, opened, with_member, with_submission}
use Rattle.vmv_keeper.proofs.ListChanges.{length_map-same}
use Rattle.vmv_desk.specs.Queues.{with_number, without_number}
use Rattle.vmv_desk.specs.AtHand.{Agrees, queues_after, submitted_number}
use Rattle.vmv_desk.proofs.QueuesLemmas.{with_number_below}

map_push : {X Y : Type 0} (h : X → Y) (xs : List X) (x : X) → map h (xs ++ x ∷ []) ≡ map h xs ++ h x ∷ []
map_push h [] x = refl
map_push h (y ∷ ys) x = ap (λ l. h y ∷ l) (map_push h ys x)

changed_map_step : {X Y : Type 0} (h : X → Y) (f : X → X) (g : Y → Y) (x : X) (xs later : List X) (mapped : List Y) (found : Option X) (b : Bool)
    → ((y : X) → cond b (Some x) found ≡ Some y → g (h y) ≡ h (f y))
    → (((y : X) → found ≡ Some y → g (h y) ≡ h (f y)) → mapped ≡ map h later)
    → cond b (g (h x) ∷ map h xs) (h x ∷ mapped) ≡ map h (cond b (f x ∷ xs) (x ∷ later))
changed_map_step h f g x xs later mapped found true same rest = ap (λ y. y ∷ map h xs) (same x refl)
changed_map_step h f g x xs later mapped found false same rest = ap (λ l. h x ∷ l) (rest same)

-- a change of the first that passes a test, seen through a function
pub changed_map : {X Y : Type 0} (h : X → Y) (test : X → Bool) (there : Y → Bool) (f : X → X) (g : Y → Y) → ((x : X) → there (h x) ≡ test x) → (xs : List X)
    → ((x : X) → find test xs ≡ Some x → g (h x) ≡ h (f x)) → changed there g (map h xs) ≡ map h (changed test f xs)
changed_map h test there f g tests [] same = refl
changed_map h test there f g tests (x ∷ xs) same =
    ap (λ b. cond b (g (h x) ∷ map h xs) (h x ∷ changed there g (map h xs))) (tests x)
    ∙ changed_map_step h f g x xs (changed test f xs) (changed there g (map h xs)) (find test xs) (test x) same (changed_map h test there f g tests xs)

without_map_step : (w : Waiting) (ws later : List Waiting) (mapped : List ℕ) (b : Bool) → mapped ≡ map (λ (v : Waiting). v.row.submission) later
    → cond b (map (λ (v : Waiting). v.row.submission) ws) (w.row.submission ∷ mapped) ≡ map (λ (v : Waiting). v.row.submission) (cond b ws (w ∷ later))
without_map_step w ws later mapped true e = refl
without_map_step w ws later mapped false e = ap (λ l. w.row.submission ∷ l) e

pub without_map : (s : ℕ) (ws : List Waiting)
    → without (λ n. n == s) (map (λ (v : Waiting). v.row.submission) ws) ≡ map (λ (v : Waiting). v.row.submission) (without (is_submission s) ws)
without_map s [] = refl
without_map s (w ∷ ws) =
    without_map_step w ws (without (is_submission s) ws) (without (λ n. n == s) (map (λ (v : Waiting). v.row.submission) ws)) (w.row.submission == s) (without_map s ws)

left : (s : ℕ) (p : Project)
    → without_number s (bench_of p) ≡ record { owner = p.owner; name = p.name; pending = map (λ (v : Waiting). v.row.submission) (without (is_submission s) p.pending) }
left s p = let b : List ℕ → Bench = λ l. record { owner = p.owner; name = p.name; pending = l } in ap b (without_map s p.pending)

member_bench_step : (member : List ℕ) (p : Project) (b : Bool) → bench_of p ≡ bench_of (cond b p (record p { members = p.members ++ member ∷ [] }))
member_bench_step member p true = refl
member_bench_step member p false = refl

changed_same_step : (b : Bench) (bs later : List Bench) (t : Bool) → bs ≡ later → b ∷ bs ≡ cond t (b ∷ bs) (b ∷ later)
changed_same_step b bs later true e = refl
changed_same_step b bs later false e = ap (λ l. b ∷ l) e

changed_same : (test : Bench → Bool) (bs : List Bench) → bs ≡ changed test (λ b. b) bs
changed_same test [] = refl
changed_same test (b ∷ bs) = changed_same_step b bs (changed test (λ x. x) bs) (test b) (changed_same test bs)

submitted_bench : (caller text : List ℕ) (p : Project) → length p.pending < 32 → with_number p.next (bench_of p) ≡ bench_of (with_submission caller text p)
submitted_bench caller text p few =
    let number : Waiting → ℕ = λ v. v.row.submission in
    let row : PendingRow = record { submission = p.next; by = caller } in
    let one : Waiting = record { row = row; text = text } in
    let same = length_map-same number p.pending in
    let b : List ℕ → Bench = λ l. record { owner = p.owner; name = p.name; pending = l } in
    with_number_below p.next (bench_of p) (omega arith) ∙ ap b (sym (map_push number p.pending one))

found_fits : (found : Option Project) (p : Project) (P : Project → Type 0) → IsSomeAnd found P → found ≡ Some p → P p
found_fits None p P h e = absurd (cc e)
found_fits (Some q) p P h e = let same : q ≡ p = cc e in subst P same h

-- the queues after an act that fits are those of the projects after it
pub queues_follow : (ps : List Project) (caller : List ℕ) (act : Act) (reply : Reply) (against : ℕ) → ActFits ps caller act reply against
    → queues_after caller act reply (map bench_of ps) ≡ map bench_of (projects_after caller act ps)
queues_follow ps caller (OpenProject name text) reply against fits = sym (map_push bench_of ps (opened caller name text))
queues_follow ps caller (AddMember owner project member) reply against fits =
    changed_same (is_bench_of owner project) (map bench_of ps)
    ∙ changed_map bench_of (is_named owner project) (is_bench_of owner project) (with_member member) (λ b. b) (λ p. refl) ps
    (λ p found. member_bench_step member p (is_member p member))
queues_follow ps caller (Submit owner project text) reply against fits =
    changed_map bench_of (is_named owner project) (is_bench_of owner project) (with_submission caller text) (with_number (submitted_number reply)) (λ p. refl) ps
    (λ p found. let fit = found_fits (project_in ps owner project) p _ fits found in
    ap (λ r. with_number (submitted_number r) (bench_of p)) fit.2 ∙ submitted_bench caller text p fit.1.0)
queues_follow ps caller (Withdraw owner project submission) reply against fits =
    changed_map bench_of (is_named owner project) (is_bench_of owner project) (project_after caller (Withdraw owner project submission)) (without_number submission) (λ p. refl) ps
    (λ p found. left submission p)
queues_follow ps caller (Accept owner project submission) reply against fits =
    changed_map bench_of (is_named owner project) (is_bench_of owner project) (project_after caller (Accept owner project submission)) (without_number submission) (λ p. refl) ps
    (λ p found. left submission p)
queues_follow ps caller (Waive owner project submission) reply against fits =
    changed_map bench_of (is_named owner project) (is_bench_of owner project) (project_after caller (Waive owner project submission)) (without_number submission) (λ p. refl) ps
    (λ p found. left submission p)

pub agrees_after : (told then : Option Tables) (change : Change) (queues new : List Bench) → Agrees told queues
    → OfTold told (λ tables. Fits tables change) → then ≡ option_map (after change) told
    → new ≡ queues_after change.caller change.act change.reply queues → Agrees then new
agrees_after None then change queues new agrees fits e q = let P : Option Tables → Type 0 = λ t. Agrees t new in subst P (sym e) tt
agrees_after (Some tables) then change queues new agrees fits e q =
    let P : Option Tables → Type 0 = λ t. Agrees t new in
    subst P (sym e) (q ∙ ap (queues_after change.caller change.act change.reply) agrees ∙ queues_follow tables.projects change.caller change.act change.reply change.against fits.act_fits)
