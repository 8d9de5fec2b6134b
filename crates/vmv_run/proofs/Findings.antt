-- What a walk over an entry is to the answers that were given, and to constant ones.
use Rattle.std.proofs.Common.{◌≡◌, ℕ, zero, suc, ◌<◌, ◌≤◌, ℤ, Bool, true, false, if◌then◌else◌, nat_le, Some, List, [], ◌∷◌, ◌++◌, length, map, take, slice_get, refl, sym, ap, subst, arith, ◌∙◌, length-take, Bor}
use Rattle.std.specs.Option.{option_map}
use Rattle.std.proofs.lemmas.Option.{slice_get-map}
use Rattle.std.proofs.lemmas.List.{length-map, take-map, take_all}
use Rattle.std.proofs.lemmas.Bool.Decides.{nat_tests}
use Rattle.vmv_tree.specs.declared.name.Name.{Name}
use Rattle.vmv_tree.specs.declared.tree.Param.{Param}
use Rattle.vmv_tree.specs.Tree.{Item}
use Rattle.vmv_tree.specs.Run.{Answers, Outcome, done, Run}
use Rattle.vmv_tree.specs.Valid.{Valid}
use Rattle.vmv_snapshot.specs.declared.code.SiteId.{SiteId}
use Rattle.vmv_snapshot.specs.Procs.{procs, params_of, is_entry, outsides}
use Rattle.vmv_snapshot.proofs.Links.{map_at}
use Rattle.vmv_run.specs.declared.answer.Answer.{Answer}
use Rattle.vmv_run.specs.declared.source.Source.{Source}
use Rattle.vmv_run.specs.declared.source.Source.TheVariants.{Given, Constant}
use Rattle.vmv_run.specs.declared.outcome.Outcome.{Outcome as Found}
use Rattle.vmv_run.specs.declared.outcome.Outcome.TheVariants as found
use Rattle.vmv_run.specs.declared.walked.Ended.{Ended}
use Rattle.vmv_run.specs.declared.walked.Ended.TheVariants.{Done, Fail as Failed, Stopped as Left}
use Rattle.vmv_run.specs.Replay.{pairs, IsProcName, AreParams, IsReplay}
use Rattle.vmv_run.specs.Constant.{AreFrom, word_of, IsConstantRun}
use Rattle.vmv_run.specs.Source.{setting_of, given, constant, taken_of, IsSound, Stops, Went}
use Rattle.vmv_run.specs.Walk.{start_frame, FindsRun, WalksProc, found_of, over_of}

some_same : {X : Type 0} {x y : X} → Some x ≡ Some y → x ≡ y
some_same e = cc

-- the walk over a procedure is about its runs on these words
pub runs_found : (program : List Item) (proc : ℕ) (name : Name) (words own : List ℤ) (old new : Source) (ended : Ended) → Valid program → IsProcName program proc name →
    slice_get (map is_entry (procs program)) proc ≡ Some true → AreParams program proc words → own ≡ start_frame (length words) words → WalksProc program proc own old new ended →
    FindsRun program (Run program name words) old new ended
unfolding WalksProc
runs_found program proc name words own old new ended valid named is_one fit begin walks =
    let at = map_at is_entry (procs program) proc true is_one in
    let params : List Param = params_of at.0 in
    let there : slice_get (map params_of (procs program)) proc ≡ Some params = slice_get-map params_of (procs program) proc ∙ ap (option_map params_of) at.1 in
    walks name params words valid named there (begin ∙ ap (λ n. start_frame n words) (sym (fit params there)))

-- what is known of a source of given answers
record FromGiven (answers : List Answer) (s : Source) : Type 0 where
  taken : taken_of s ≡ take (length (taken_of s)) (pairs answers)
  few : length (taken_of s) ≤ length answers
  stops : (name : Name) → Stops s name → (p : Name × ℤ) → slice_get (pairs answers) (length (taken_of s)) ≡ Some p → p.0 ≡ name → ⊥

given_same : (a b : List Answer) → given a ≡ given b → a ≡ b
given_same a b e = cc

from_given : (answers : List Answer) (s : Source) → setting_of s ≡ given answers → IsSound s → FromGiven answers s
unfolding setting_of taken_of IsSound Stops
from_given answers (Given own used) e sound =
    let same : own.now ≡ answers = given_same own.now answers e in
    let a : length (pairs (take used own.now)) ≡ length (take used own.now) = length-map (take used own.now) (λ (x : Answer). (x.name, x.value)) in
    let b = length-take used own.now in
    let within : used ≤ length own.now = sound in
    let count : length (pairs (take used own.now)) ≡ used = omega arith in
    let long : length own.now ≡ length answers = ap length same in
    record {
      taken = sym (take-map (λ (x : Answer). (x.name, x.value)) used own.now) ∙ (λ i. take (sym count i) (pairs (same i)));
      few = omega arith;
      stops = λ name none p there named.
          let at : slice_get (pairs own.now) used ≡ Some p = (λ i. slice_get (pairs (same i)) (sym count i)) ∙ there in
          let m = map_at (λ (x : Answer). (x.name, x.value)) own.now used p at in
          none m.0 m.1 (ap (λ (x : Name × ℤ). x.0) m.2 ∙ named);
    }
from_given answers (Constant names values taken) e sound = absurd (let z : constant names.now values.now ≡ given answers = e in cc)

-- a test of numbers
at_least : (n m : ℕ) → nat_le n m ≡ true → n ≤ m
at_least n m h = grind (arith, nat_tests)

less : (n m : ℕ) → nat_le n m ≡ false → m < n
less n m h = grind (arith, nat_tests)

abbrev By : List Item → Name → List ℤ → List Answer → Bool → Found → Found → Type 0
By program name words answers b x y = IsReplay program name words (pairs answers) (if b then x else y)

whole : (answers : List Answer) (a : Answers) → a ≡ take (length a) (pairs answers) → length a ≤ length answers → length answers ≤ length a → a ≡ pairs answers
whole answers a e few all =
    let long : length (pairs answers) ≡ length answers = length-map answers (λ (x : Answer). (x.name, x.value)) in
    e ∙ take_all (length a) (pairs answers) (omega arith)

done_by : (program : List Item) (name : Name) (words : List ℤ) (answers : List Answer) (a : Answers) (w : ℤ) (b : Bool) → nat_le (length answers) (length a) ≡ b → a ≡ take (length a) (pairs answers) →
    length a ≤ length answers → Run program name words a (done w) → By program name words answers b (found.Done w) (found.Extra (length a))
done_by program name words answers a w true test e few run = subst (λ (x : Answers). Run program name words x (done w)) (whole answers a e few (at_least (length answers) (length a) test)) run
done_by program name words answers a w false test e few run =
    let long : length (pairs answers) ≡ length answers = length-map answers (λ (x : Answer). (x.name, x.value)) in
    let h = less (length answers) (length a) test in
    (omega arith, done w, subst (λ (x : Answers). Run program name words x (done w)) e run)

failed_by : (program : List Item) (name : Name) (words : List ℤ) (answers : List Answer) (a : Answers) (site : SiteId) (proc : Name) (b : Bool) → nat_le (length answers) (length a) ≡ b →
    a ≡ take (length a) (pairs answers) → length a ≤ length answers → IsProcName program site.proc.0 proc → Run program name words a (Outcome.fail (record { proc = proc; number = site.index })) →
    By program name words answers b (found.Fail site) (found.Extra (length a))
failed_by program name words answers a site proc true test e few own run =
    (proc, own, subst (λ (x : Answers). Run program name words x (Outcome.fail (record { proc = proc; number = site.index }))) (whole answers a e few (at_least (length answers) (length a) test)) run)
failed_by program name words answers a site proc false test e few own run =
    let long : length (pairs answers) ≡ length answers = length-map answers (λ (x : Answer). (x.name, x.value)) in
    let h = less (length answers) (length a) test in
    (omega arith, Outcome.fail (record { proc = proc; number = site.index }), subst (λ (x : Answers). Run program name words x (Outcome.fail (record { proc = proc; number = site.index }))) e run)

slice_get_or : {X : Type 0} (xs : List X) (n : ℕ) → n < length xs → (x : X) × (slice_get xs n ≡ Some x)
slice_get_or [] n h = absurd (omega arith)
slice_get_or (x ∷ xs) zero h = (x, refl)
slice_get_or (x ∷ xs) (suc n) h = slice_get_or xs n (omega arith)

left_by : (program : List Item) (name : Name) (words : List ℤ) (answers : List Answer) (a : Answers) (asked : Name) (word : ℤ) (more : Answers) (end : Outcome) (b : Bool) →
    nat_le (length answers) (length a) ≡ b → a ≡ take (length a) (pairs answers) → length a ≤ length answers →
    ((p : Name × ℤ) → slice_get (pairs answers) (length a) ≡ Some p → p.0 ≡ asked → ⊥) → Run program name words (a ++ (asked, word) ∷ more) end →
    By program name words answers b (found.Short (length a)) (found.Stranger (length a))
left_by program name words answers a asked word more end true test e few other run =
    let long : length (pairs answers) ≡ length answers = length-map answers (λ (x : Answer). (x.name, x.value)) in
    let all = at_least (length answers) (length a) test in
    (omega arith, asked, (word, more, end, subst (λ (x : Answers). Run program name words (x ++ (asked, word) ∷ more) end) (whole answers a e few all) run))
left_by program name words answers a asked word more end false test e few other run =
    let long : length (pairs answers) ≡ length answers = length-map answers (λ (x : Answer). (x.name, x.value)) in
    let h = less (length answers) (length a) test in
    let at = slice_get_or (pairs answers) (length a) (omega arith) in
    (asked, at.0, at.1, other at.0 at.1, (word, more, end, subst (λ (x : Answers). Run program name words (x ++ (asked, word) ∷ more) end) e run))

-- what was taken, where nothing was at the start
all_taken : (old new : Source) (used : Answers) → taken_of old ≡ [] → Went old new used → taken_of new ≡ used
all_taken old new used e went = went.taken ∙ ap (λ (x : Answers). x ++ used) e

new_given : (answers : Bor (List Answer)) (new : Source) (used : Answers) → Went (Given answers 0) new used → (taken_of new ≡ used) × FromGiven answers.now new
unfolding setting_of taken_of IsSound
new_given answers new used went =
    (all_taken (Given answers 0) new used refl went, from_given answers.now new went.setting (went.sound (omega arith)))

replayed_own : (program : List Item) (name : Name) (words : List ℤ) (answers : Bor (List Answer)) (new : Source) (ended : Ended) → FindsRun program (Run program name words) (Given answers 0) new ended →
    IsReplay program name words (pairs answers.now) (found_of ended (length (taken_of new)) (length answers.now))
unfolding FindsRun
replayed_own program name words answers new (Done w) (used, went, run) =
    let n = new_given answers new used went in
    done_by program name words answers.now (taken_of new) w (nat_le (length answers.now) (length (taken_of new))) refl n.1.taken n.1.few (subst (λ (x : Answers). Run program name words x (done w)) (sym n.0) run)
replayed_own program name words answers new (Failed site) (used, proc, went, own, run) =
    let n = new_given answers new used went in
    failed_by program name words answers.now (taken_of new) site proc (nat_le (length answers.now) (length (taken_of new))) refl n.1.taken n.1.few own
    (subst (λ (x : Answers). Run program name words x (Outcome.fail (record { proc = proc; number = site.index }))) (sym n.0) run)
replayed_own program name words answers new Left (used, asked, went, stops, (word, more, (end, run))) =
    let n = new_given answers new used went in
    left_by program name words answers.now (taken_of new) asked word more end (nat_le (length answers.now) (length (taken_of new))) refl n.1.taken n.1.few (n.1.stops asked stops)
    (subst (λ (x : Answers). Run program name words (x ++ (asked, word) ∷ more) end) (sym n.0) run)

sound_given : (answers : Bor (List Answer)) (new : Source) (used : Answers) → Went (Given answers 0) new used → IsSound new
unfolding IsSound
sound_given answers new used went = went.sound (omega arith)

went_by : (program : List Item) (runs : Answers → Outcome → Type 0) (old new : Source) (ended : Ended) → FindsRun program runs old new ended → (used : Answers) × Went old new used
unfolding FindsRun
went_by program runs old new (Done w) h = (h.0, h.1)
went_by program runs old new (Failed site) h = (h.0, h.2)
went_by program runs old new Left h = (h.0, h.2)

-- what a replay finds
pub replayed : (program : List Item) (name : Name) (words : List ℤ) (answers : Bor (List Answer)) (new : Source) (ended : Ended) (used : ℕ) (result : Found) →
    FindsRun program (Run program name words) (Given answers 0) new ended → (IsSound new → used ≡ length (taken_of new)) → result ≡ found_of ended used (length answers.now) →
    IsReplay program name words (pairs answers.now) result
replayed program name words answers new ended used result h count is =
    let w = went_by program (Run program name words) (Given answers 0) new ended h in
    let e : used ≡ length (taken_of new) = count (sound_given answers new w.0 w.1) in
    subst (IsReplay program name words (pairs answers.now)) (sym (is ∙ ap (λ n. found_of ended n (length answers.now)) e)) (replayed_own program name words answers new ended h)

constant_same : (names other : List Name) (values words : List ℤ) → constant names values ≡ constant other words → (names ≡ other) × (values ≡ words)
constant_same names other values words e = (cc, cc)

from_constant : (names : List Name) (values : List ℤ) (s : Source) → setting_of s ≡ constant names values → IsSound s → AreFrom (word_of names values) (taken_of s)
unfolding setting_of taken_of IsSound
from_constant names values (Given own used) e sound = absurd (let z : given own.now ≡ constant names values = e in cc)
from_constant names values (Constant own words taken) e sound =
    let same = constant_same own.now names words.now values e in
    subst (λ (c : Name → ℤ). AreFrom c (pairs taken)) (λ i. word_of (same.0 i) (same.1 i)) sound

new_constant : (names : Bor (List Name)) (values : Bor (List ℤ)) (new : Source) (used : Answers) → Went (Constant names values []) new used → (taken_of new ≡ used) × AreFrom (word_of names.now values.now) (taken_of new)
unfolding setting_of taken_of IsSound
new_constant names values new used went =
    (all_taken (Constant names values []) new used refl went, from_constant names.now values.now new went.setting (went.sound tt))

-- the run with constant answers
pub constant_found : (program : List Item) (name : Name) (words : List ℤ) (names : Bor (List Name)) (values : Bor (List ℤ)) (new : Source) (ended : Ended) (taken : List Answer) (outcome : Found) →
    FindsRun program (Run program name words) (Constant names values []) new ended → names.now ≡ outsides program → pairs taken ≡ taken_of new → over_of ended ≡ Some outcome →
    IsConstantRun program name words values.now (record { answers = taken; outcome = outcome })
unfolding FindsRun
constant_found program name words names values new (Done w) taken outcome (used, went, run) named e is =
    let n = new_constant names values new used went in
    let o : found.Done w ≡ outcome = some_same is in
    subst (λ (x : Found). IsConstantRun program name words values.now (record { answers = taken; outcome = x })) o (record {
      run = subst (λ (x : Answers). Run program name words x (done w)) (sym (e ∙ n.0)) run;
      over = tt;
      constant = subst (λ (x : Answers). AreFrom (word_of (outsides program) values.now) x) (sym e) (subst (λ (ns : List Name). AreFrom (word_of ns values.now) (taken_of new)) named n.1);
    })
constant_found program name words names values new (Failed site) taken outcome (used, proc, went, own, run) named e is =
    let n = new_constant names values new used went in
    let o : found.Fail site ≡ outcome = some_same is in
    subst (λ (x : Found). IsConstantRun program name words values.now (record { answers = taken; outcome = x })) o (record {
      run = (proc, own, subst (λ (x : Answers). Run program name words x (Outcome.fail (record { proc = proc; number = site.index }))) (sym (e ∙ n.0)) run);
      over = tt;
      constant = subst (λ (x : Answers). AreFrom (word_of (outsides program) values.now) x) (sym e) (subst (λ (ns : List Name). AreFrom (word_of ns values.now) (taken_of new)) named n.1);
    })
constant_found program name words names values new Left taken outcome h named e is = absurd (cc)
