-- What is found in well formed rows is well formed.
use Rattle.std.proofs.Common.{◌≡◌, ℕ, ◌+◌, ◌≤◌, Bool, true, false, cond, ◌&&◌, List, [], ◌∷◌, map, find, count_by, Option, Some, None, IfSome, IfOk, Result, Ok, Err, IsUtf8, ap, sym, ◌∙◌, subst, refl}
use Rattle.std.specs.Option.{option_map, option_and_then}
use Rattle.std.specs.List.{AllByRecursion}
use Rattle.std.specs.Cmp.Lexicographic.{same_text}
use Rattle.std.proofs.lemmas.List.Sums.{sum_by-cons}
use Rattle.vmv_keeper.specs.declared.project.Project.{Project}
use Rattle.vmv_keeper.specs.declared.project.Version.{Version}
use Rattle.vmv_keeper.specs.declared.project.Waiting.{Waiting}
use Rattle.vmv_keeper.specs.declared.project.Bench.{Bench}
use Rattle.vmv_keeper.specs.declared.change.Change.{Change}
use Rattle.vmv_keeper.specs.Tables.{Tables, is_same, is_named, is_version, is_submission, is_kept_under, bench_of, held_of, submitted_of, kept_of, version_text, waiting_as, benches_in, held_in, text_in, submission_in, kept_in}
use Rattle.vmv_keeper.specs.Formed.{AreFormed, AreBenches, IsBench, IsProject, IsHeld, IsDone, is_bench_of}

pub and-true_both : (a b : Bool) → (a && b) ≡ true → (a ≡ true) × (b ≡ true)
and-true_both true b e = (refl, e)
and-true_both false b e = absurd (cc e)

-- the first of two lists' counts, element by element
pub count_by-cons : {X : Type 0} (p : X → Bool) (x : X) (xs : List X) → count_by p (x ∷ xs) ≡ cond (p x) 1 0 + count_by p xs
count_by-cons p x xs = sum_by-cons (λ y. cond (p y) 1 0) x xs

found : {X : Type 0} (P : X → Type 0) (test : X → Bool) (x : X) (rest : Option X) (b : Bool)
    → test x ≡ b → P x → IfSome rest (λ y. P y × (test y ≡ true)) → IfSome (cond b (Some x) rest) (λ y. P y × (test y ≡ true))
found P test x rest true e p r = (p, e)
found P test x rest false e p r = r

-- what holds of each element holds of the one that is found, which passes the test
pub IfSome-find : {X : Type 0} (P : X → Type 0) (test : X → Bool) (xs : List X)
    → AllByRecursion P xs → IfSome (find test xs) (λ x. P x × (test x ≡ true))
IfSome-find P test [] all = tt
IfSome-find P test (x ∷ xs) all = found P test x (find test xs) (test x) refl all.0 (IfSome-find P test xs all.1)

pub each_bench : (ps : List Project) → AllByRecursion IsProject ps → AllByRecursion IsBench (map bench_of ps)
each_bench [] all = tt
each_bench (p ∷ ps) all = (all.0.bench, each_bench ps all.1)

count_benches : (owner name : List ℕ) (ps : List Project) → count_by (is_bench_of owner name) (map bench_of ps) ≡ count_by (is_named owner name) ps
count_benches owner name [] = refl
count_benches owner name (p ∷ ps) =
    count_by-cons (is_bench_of owner name) (bench_of p) (map bench_of ps)
    ∙ ap (λ n. cond (is_named owner name p) 1 0 + n) (count_benches owner name ps)
    ∙ sym (count_by-cons (is_named owner name) p ps)

-- the benches of well formed rows
pub formed_benches : (tables : Tables) → AreFormed tables → AreBenches (benches_in tables)
formed_benches tables formed =
    record {
      each = each_bench tables.projects formed.each;
      distinct = λ owner name. let P : ℕ → Type 0 = λ n. n ≤ 1 in subst P (sym (count_benches owner name tables.projects)) (formed.distinct owner name);
    }

-- an answer that has the benches of well formed rows
pub formed_answer : {E : Type 0} (result : Result (List Bench) E) (tables : Tables) → AreFormed tables
    → IfOk result (λ benches. benches ≡ benches_in tables) → IfOk result AreBenches
formed_answer (Ok benches) tables formed told = subst AreBenches (sym told) (formed_benches tables formed)
formed_answer (Err e) tables formed told = tt

held_found : (owner name : List ℕ) (found : Option Project)
    → IfSome found (λ p. IsProject p × (is_named owner name p ≡ true)) → IfSome (option_map held_of found) (IsHeld owner)
held_found owner name None h = tt
held_found owner name (Some p) h =
    let same = same_text p.owner owner (sym (and-true_both (is_same p.owner owner) (is_same p.name name) h.1).0) in
    let P : List ℕ → Type 0 = λ l. IsHeld l (held_of p) in subst P same h.0.held

pub formed_load : (owner name : List ℕ) (tables : Tables) → AreFormed tables → IfSome (held_in owner name tables) (IsHeld owner)
formed_load owner name tables formed = held_found owner name (find (is_named owner name) tables.projects) (IfSome-find IsProject (is_named owner name) tables.projects formed.each)

text_at : (found : Option Version) (n : ℕ) → IfSome found (λ v. IsUtf8 v.text × (is_version n v ≡ true)) → IfSome (option_map (λ (v : Version). v.text) found) IsUtf8
text_at None n h = tt
text_at (Some v) n h = h.0

text_found : (owner name : List ℕ) (n : ℕ) (found : Option Project)
    → IfSome found (λ p. IsProject p × (is_named owner name p ≡ true)) → IfSome (option_and_then (version_text n) found) IsUtf8
text_found owner name n None h = tt
text_found owner name n (Some p) h =
    text_at (find (is_version n) p.versions) n (IfSome-find (λ v. IsUtf8 v.text) (is_version n) p.versions h.0.texts)

pub formed_text : (owner name : List ℕ) (n : ℕ) (tables : Tables) → AreFormed tables → IfSome (text_in owner name n tables) IsUtf8
formed_text owner name n tables formed = text_found owner name n (find (is_named owner name) tables.projects) (IfSome-find IsProject (is_named owner name) tables.projects formed.each)

submitted_at : (found : Option Waiting) (n : ℕ) → IfSome found (λ w. IsUtf8 w.text × (is_submission n w ≡ true)) → IfSome (option_map submitted_of found) (λ s. IsUtf8 s.text)
submitted_at None n h = tt
submitted_at (Some w) n h = h.0

submission_found : (owner name : List ℕ) (n : ℕ) (found : Option Project)
    → IfSome found (λ p. IsProject p × (is_named owner name p ≡ true))
    → IfSome (option_and_then (λ p. option_map submitted_of (waiting_as n p)) found) (λ s. IsUtf8 s.text)
submission_found owner name n None h = tt
submission_found owner name n (Some p) h =
    submitted_at (find (is_submission n) p.pending) n (IfSome-find (λ w. IsUtf8 w.text) (is_submission n) p.pending h.0.pending_texts)

pub formed_submission : (owner name : List ℕ) (n : ℕ) (tables : Tables) → AreFormed tables → IfSome (submission_in owner name n tables) (λ s. IsUtf8 s.text)
formed_submission owner name n tables formed = submission_found owner name n (find (is_named owner name) tables.projects) (IfSome-find IsProject (is_named owner name) tables.projects formed.each)

kept_at : (found : Option Change) (caller id : List ℕ) → IfSome found (λ c. IsDone c.act c.reply × (is_kept_under caller id c ≡ true)) → IfSome (option_map kept_of found) (λ k. IsDone k.act k.reply)
kept_at None caller id h = tt
kept_at (Some c) caller id h = h.0

pub formed_kept : (caller id : List ℕ) (tables : Tables) → AreFormed tables → IfSome (kept_in caller id tables) (λ k. IsDone k.act k.reply)
formed_kept caller id tables formed = kept_at (find (is_kept_under caller id) tables.replies) caller id (IfSome-find (λ c. IsDone c.act c.reply) (is_kept_under caller id) tables.replies formed.done)

project_found : (found : Option Project) (p : Project) (test : Project → Bool) → found ≡ Some p → IfSome found (λ x. IsProject x × (test x ≡ true)) → IsProject p
project_found None p test e h = absurd (cc e)
project_found (Some x) p test e h = let P : Option Project → Type 0 = λ o. IfSome o IsProject in subst P e h.0

-- a project that is found among well formed ones
pub IsProject-found : (owner name : List ℕ) (ps : List Project) (p : Project) → AllByRecursion IsProject ps → find (is_named owner name) ps ≡ Some p → IsProject p
IsProject-found owner name ps p all e = project_found (find (is_named owner name) ps) p (is_named owner name) e (IfSome-find IsProject (is_named owner name) ps all)
