-- What a report with a regression shows.
use Rattle.std.proofs.Common.{◌≡◌, ◌≢◌, ◌⊎◌, inl, inr, ⊎_elim, ℕ, zero, suc, ◌==◌, ℤ, Bool, true, false, if◌then◌else◌, Option, Some, None, List, [], ◌∷◌, ◌++◌, length, count_by, filter, codes, refl, sym, ap, subst, arith, ◌∙◌}
use Rattle.std.specs.List.{All, AllZip, Contains}
use Rattle.std.specs.Str.{bytes_eq}
use Rattle.std.proofs.lemmas.List.Elements.{Contains-append_left, Contains-append_right, Contains-append_cases}
use Rattle.std.proofs.lemmas.List.Sums.{length-filter}
use Rattle.vmv_tree.specs.declared.name.Name.{Name}
use Rattle.vmv_tree.specs.declared.ends.NameEnds.{NameEnds}
use Rattle.vmv_tree.specs.Words.{IsWord}
use Rattle.vmv_tree.specs.Tree.{Item, entry}
use Rattle.vmv_tree.specs.Run.{Answers, Outcome, Run}
use Rattle.vmv_tree.specs.Safe.{Environment, Safe, RelCorrect}
use Rattle.vmv_cond.specs.declared.cond.Cond.{Cond}
use Rattle.vmv_cond.specs.Cond.{Holds}
use Rattle.vmv_snapshot.specs.Procs.{outsides}
use Rattle.vmv_snapshot.specs.Resolution.{Resolution, IsResolution, tree_of}
use Rattle.vmv_assumption.specs.Assumed.{Assumed, cond_of}
use Rattle.vmv_assumption.specs.Within.{IsWithin}
use Rattle.vmv_assumption.proofs.Names.{same_bytes, bytes_same}
use Rattle.vmv_run.specs.Asked.{AreOutside}
use Rattle.vmv_run.specs.Replay.{pairs}
use Rattle.vmv_table_sound.specs.Told.{IsProved}
use Rattle.vmv_witness.specs.declared.witness.Witness.{Witness}
use Rattle.vmv_witness.specs.Fit.{words_of}
use Rattle.vmv_demands.specs.declared.demand.Demand.{Demand}
use Rattle.vmv_need.specs.declared.subject.Scope.{Scope}
use Rattle.vmv_need.specs.declared.shown.ShownBy.{ShownBy}
use Rattle.vmv_need.specs.declared.needed.Needed.{Needed}
use Rattle.vmv_need.specs.declared.needed.Needed.TheVariants.{Conditions, Vacuous}
use Rattle.vmv_need.specs.Acts.{AreWords}
use Rattle.vmv_need.specs.Needed.{IsFound}
use Rattle.vmv_enough.specs.declared.probe.Mode.{Mode}
use Rattle.vmv_enough.specs.declared.probe.Probe.{Probe}
use Rattle.vmv_enough.specs.Probes.{IsAnswer}
use Rattle.vmv_enough.specs.Failures.{FailsAt, IsCounterexample}
use Rattle.vmv_enough.specs.Found.{IsFirstFailure, AreFound}
use Rattle.vmv_enough.specs.Enough.{start, IsEnough, NoneEmpty, AreSafe, IsSufficient}
use Rattle.vmv_check.proofs.Lists.{all_of, of_all}
use Rattle.vmv_report.specs.declared.class.Class.TheVariants.{Regression, Alarm}
use Rattle.vmv_report.specs.declared.row.ReportRow.{ReportRow}
use Rattle.vmv_report.specs.declared.report.Report.{Report}
use Rattle.vmv_report.specs.Rows.{is_class, class_count, verdict_of, IsFoundAt, IsWitnessBy}
use Rattle.vmv_report.specs.Baselines.{Suffices, IsEnoughFor}
use Rattle.vmv_report.specs.Reports.{Tells, IsReport}
use Rattle.vmv_report.specs.Texts.{verdict_line, necessary_lines, sufficient_lines, rows_lines, witnesses_lines, text_by, report_text}
use Rattle.vmv_report.specs.Regressions.{IsShownRun, ShowsRegression}
use Rattle.vmv_report.proofs.Tightening.{in_or_not, leads_below, least_held}
use Rattle.vmv_report.proofs.Drawing.{proc_in, each_answer, singles, singles_within, singles_cover, singles_drawn}

-- the base is safe within the sufficient conditions, each witness is a failing run within them, and the revision isn't
-- relatively correct
record IsRegressing (base revision : Resolution) (report : Report) : Type 0 where
  held : List (Name × Cond)
  enough : report.enough ≡ Some held
  shown_by : report.shown_by ≡ None
  safe : AreSafe base (cond_of held)
  some : report.witnesses ≢ []
  runs : All (λ w. (n : ℕ) × IsCounterexample revision n (cond_of held) w) report.witnesses
  incorrect : RelCorrect (tree_of base) (tree_of revision) → ⊥

-- what a probe has a name answer meets what is assumed
answer_held : (assumed : Assumed) (mode : Mode) (missed : Option Demand) (name : Name) (w : ℤ) → IsAnswer assumed mode missed name w → Holds (assumed name) w
answer_held assumed mode None name w is = is.among
answer_held assumed mode (Some demand) name w is = by (bytes_eq name demand.name) refl
  where
    by : (b : Bool) → bytes_eq name demand.name ≡ b → Holds (assumed name) w
    by true e = let a = (is.0 (same_bytes name demand.name e)).among in a.0
    by false e = (is.1 (λ s. let t = bytes_same name demand.name s in absurd (cc))).among

-- what stands beside an element of the second list
beside : {A B : Type 0} (R : A → B → Type 0) (xs : List A) (ys : List B) (y : B) → AllZip R xs ys → Contains ys y → (x : A) × R x y
beside R [] [] y zipped (k, h, is) = absurd (omega (arith, h))
beside R [] (z ∷ ys) y zipped there = absurd zipped
beside R (x ∷ xs) [] y zipped there = absurd zipped
beside R (x ∷ xs) (z ∷ ys) y zipped (zero, h, is) = (x, subst (R x) is zipped.0)
beside R (x ∷ xs) (z ∷ ys) y zipped (suc k, h, is) = beside R xs ys y zipped.1 (k, omega (arith, h), is)

-- a run that is found is that of a probe
of_probe : (revision : Resolution) (n : ℕ) (assumed : Assumed) (found : List Witness) (w : Witness) → AreFound revision n assumed found → Contains found w → (probe : Probe) × FailsAt revision n assumed probe w
of_probe revision n assumed found w (probes, are, failures) there =
    let b = beside (IsFirstFailure revision n assumed probes) failures.places found w failures.each there in
    let f = (b.1).fails in
    (f.probe, f.fails)

-- what the run's names always answer, and another word for other names
abbrev picked : (constant other : Name → ℤ) (names : List Name) (name : Name) → Contains names name ⊎ (Contains names name → ⊥) → ℤ
picked constant other names name (inl c) = constant name
picked constant other names name (inr off) = other name

picked_constant : (constant other : Name → ℤ) (names : List Name) (name : Name) (d : Contains names name ⊎ (Contains names name → ⊥)) → Contains names name → constant name ≡ picked constant other names name d
picked_constant constant other names name (inl c) there = refl
picked_constant constant other names name (inr off) there = absurd (off there)

picked_held : (assumed : Assumed) (constant other : Name → ℤ) (names : List Name) (name : Name) (d : Contains names name ⊎ (Contains names name → ⊥)) → (Contains names name → Holds (assumed name) (constant name)) →
    ((Contains names name → ⊥) → Holds (assumed name) (other name)) → Holds (assumed name) (picked constant other names name d)
picked_held assumed constant other names name (inl c) one two = one c
picked_held assumed constant other names name (inr off) one two = two off

abbrev word_for : (constant other : Name → ℤ) (names : List Name) → Name → ℤ
word_for constant other names name = picked constant other names name (in_or_not names name)

-- a name of either list that isn't one of the second is one of the first
one_or_other : (xs ys : List Name) (name : Name) → Contains (xs ++ ys) name → (Contains ys name → ⊥) → Contains xs name
one_or_other xs ys name there off =
    ⊎_elim (λ (c : Contains xs name). c) (λ (c : Contains ys name). absurd (off c)) (Contains-append_cases xs ys name there)

-- a list that is counted 0 times has no such elements
none_left : {X : Type 0} (p : X → Bool) (xs : List X) → filter p xs ≡ [] → count_by p xs ≡ 0
none_left p xs e = sym (length-filter p xs) ∙ ap length e

-- the verdict is 3 only where some row is a regression
some_regression : (rows : List ReportRow) → verdict_of rows ≡ 3 → class_count Regression rows ≡ 0 → ⊥
some_regression rows three none = by (class_count Regression rows) (class_count Alarm rows == 0) (verdict_of rows) refl three none
  where
    at : (c : Bool) (v : ℕ) → v ≡ (if c then 1 else 2) → v ≡ 3 → ⊥
    at true v f three = absurd (cc)
    at false v f three = absurd (cc)

    by : (r : ℕ) (c : Bool) (v : ℕ) → v ≡ (if r == 0 then (if c then 1 else 2) else 3) → v ≡ 3 → r ≡ 0 → ⊥
    by r c v f three none = at c v (subst (λ (k : ℕ). v ≡ (if k == 0 then (if c then 1 else 2) else 3)) none f) three

-- a failing run within conditions, over the program's tree
shown_run : (revision : Resolution) (n : ℕ) (assumed : Assumed) (w : Witness) → IsCounterexample revision n assumed w → IsShownRun (tree_of revision) assumed w
shown_run revision n assumed w is = record {
  params = is.fails.params;
  body = is.fails.body;
  entry_is = proc_in (tree_of revision) n (entry w.entry is.fails.params is.fails.body) is.fails.entry_is;
  fit = is.fit;
  meet = is.meet;
  run = is.fails.run;
}

-- the text of a report with a regression
regressing_text : (report : Report) (base revision : Resolution) (held : List (Name × Cond)) → report.shown_by ≡ None → report.verdict ≡ 3 → report.enough ≡ Some held →
    report_text report base revision ≡ codes "verdict regression\n" ++ (necessary_lines report.conditions ++ (sufficient_lines (Some held) ++ (rows_lines revision report.rows ++ witnesses_lines report.witnesses)))
regressing_text report base revision held shown three enough =
    let tail : List ℕ = rows_lines revision report.rows ++ witnesses_lines report.witnesses in
    let by_shown : Option ShownBy → List ℕ = λ o. text_by report base revision o in
    let by_verdict : ℕ → List ℕ = λ v. verdict_line v ++ (necessary_lines report.conditions ++ (sufficient_lines report.enough ++ tail)) in
    let by_enough : Option (List (Name × Cond)) → List ℕ = λ o. codes "verdict regression\n" ++ (necessary_lines report.conditions ++ (sufficient_lines o ++ tail)) in
    ap by_shown shown ∙ ap by_verdict three ∙ ap by_enough enough

module _ (proved_safe : (program : Resolution) (ends : List NameEnds) (assumed : Assumed) (env : Environment) → IsResolution program → IsProved program ends assumed → IsWithin env assumed → Safe env (tree_of program))
    (asked_outside : (program : List Item) (proc : Name) (words : List ℤ) (answers : Answers) (outcome : Outcome) → Run program proc words answers outcome → AreOutside program answers) where
  -- one failing run within conditions for which the base is safe
  one_regression : (base revision : Resolution) (held : List (Name × Cond)) (n : ℕ) (probe : Probe) (w : Witness) → AreSafe base (cond_of held) → NoneEmpty base (cond_of held) → AreWords (cond_of held) →
      IsCounterexample revision n (cond_of held) w → FailsAt revision n (cond_of held) probe w → RelCorrect (tree_of base) (tree_of revision) → ⊥
  one_regression base revision held n probe w safe answers words shown fails correct =
      let first : List Name = outsides (tree_of base) in
      let second : List Name = outsides (tree_of revision) in
      let names : List Name = first ++ second in
      let other : Name → ℤ = λ name. (cond_of held name).lo in
      let g : Name → ℤ = word_for fails.constant other second in
      let held_all : (name : Name) → Contains names name → Holds (cond_of held name) (g name) = λ name there. picked_held (cond_of held) fails.constant other second name (in_or_not second name)
      (λ c. answer_held (cond_of held) probe.mode probe.missed name (fails.constant name) (fails.answers name c))
      (λ off. least_held (cond_of held name) (answers name (one_or_other first second name there off))) in
      let all_words : (name : Name) → Contains names name → IsWord (g name) = λ name there. words name (g name) (held_all name there) in
      let covers_base = singles_cover g names (tree_of base) (λ name c. Contains-append_left first second name c) all_words in
      let covers_revision = singles_cover g names (tree_of revision) (λ name c. Contains-append_right first second name c) all_words in
      let within = singles_within g names (cond_of held) held_all in
      let outs = asked_outside (tree_of revision) w.entry (words_of w) (pairs w.answers) (Outcome.fail (record { proc = w.site.proc; number = w.site.index })) shown.fails.run in
      let drawn = singles_drawn g names (pairs w.answers)
      (λ p there.
      let h = each_answer (tree_of revision) fails.constant (pairs w.answers) p outs fails.always there in
      (Contains-append_right first second p.0 h.0, h.1 ∙ picked_constant fails.constant other second p.0 (in_or_not second p.0) h.0)) in
      correct (singles g names) covers_base covers_revision (safe (singles g names) covers_base within) w.entry shown.fails.params shown.fails.body (words_of w) (pairs w.answers)
      (record { proc = w.site.proc; number = w.site.index }) (proc_in (tree_of revision) n (entry w.entry shown.fails.params shown.fails.body) shown.fails.entry_is) shown.fit drawn shown.fails.run

  -- the base is safe within its sufficient conditions
  enough_safe : (base : Resolution) (needed enough : Assumed) → IsResolution base → IsEnough base needed enough → AreSafe base enough
  enough_safe base needed enough is found env covers within = proved_safe base found.ends enough env is found.proved within

  enough_words : (base : Resolution) (needed enough : Assumed) → AreWords needed → IsEnough base needed enough → AreWords enough
  enough_words base needed enough words found name w h =
      words name w (leads_below base found.ends found.times (start needed) (record { assumed = enough; levels = found.levels }) found.leads name w h)

  shows : (base revision : Resolution) (report : Report) (held conds : List (Name × Cond)) (enough : Option (List (Name × Cond))) → IsResolution base → AreWords (cond_of held) → Suffices base held enough → enough ≡ Some conds → report.enough ≡ enough → report.shown_by ≡ None →
      verdict_of report.rows ≡ 3 → AllZip (IsWitnessBy revision (Some conds)) (filter (λ row. is_class Regression row.class) report.rows) report.witnesses → IsRegressing base revision report
  shows base revision report held conds enough is words suffices e same shown three zipped =
      let sufficient : IsEnough base (cond_of held) (cond_of conds) = subst (λ (o : Option (List (Name × Cond))). IsSufficient base (cond_of held) o) e suffices.sufficient in
      let safe = enough_safe base (cond_of held) (cond_of conds) is sufficient in
      let run : (w : Witness) → Contains report.witnesses w → (row : ReportRow) × IsFoundAt revision (cond_of conds) row w = λ w there.
      beside (IsFoundAt revision (cond_of conds)) (filter (λ row. is_class Regression row.class) report.rows) report.witnesses w zipped there in
      let some = λ (none : report.witnesses ≡ []). some_regression report.rows three (none_left (λ row. is_class Regression row.class) report.rows
      (no_more (filter (λ row. is_class Regression row.class) report.rows) (subst (λ (ws : List Witness). AllZip (IsFoundAt revision (cond_of conds)) (filter (λ row. is_class Regression row.class) report.rows) ws) none zipped))) in
      record {
        held = conds;
        enough = same ∙ e;
        shown_by = shown;
        safe = safe;
        some = some;
        runs = all_of (λ (w : Witness). (n : ℕ) × IsCounterexample revision n (cond_of conds) w) report.witnesses (λ w there. let r = run w there in (r.0.entry.0, (r.1).runs));
        incorrect = λ correct. by report.witnesses refl some run correct;
      }
    where
      no_more : (rows : List ReportRow) → AllZip (IsFoundAt revision (cond_of conds)) rows [] → rows ≡ []
      no_more [] z = refl
      no_more (row ∷ rows) z = absurd z

      by : (ws : List Witness) → report.witnesses ≡ ws → report.witnesses ≢ [] → ((w : Witness) → Contains report.witnesses w → (row : ReportRow) × IsFoundAt revision (cond_of conds) row w) → RelCorrect (tree_of base) (tree_of revision) → ⊥
      by [] f some run correct = some f
      by (w ∷ ws) f some run correct =
          let there : Contains report.witnesses w = subst (λ (xs : List Witness). Contains xs w) (sym f) (0, omega arith, refl) in
          let r = run w there in
          let at = r.1 in
          let tried = of_probe revision r.0.entry.0 (cond_of conds) at.found w at.found_are at.there in
          let sufficient : IsEnough base (cond_of held) (cond_of conds) = subst (λ (o : Option (List (Name × Cond))). IsSufficient base (cond_of held) o) e suffices.sufficient in
          one_regression base revision conds r.0.entry.0 tried.0 w (enough_safe base (cond_of held) (cond_of conds) is sufficient) (suffices.nonempty conds e) (enough_words base (cond_of held) (cond_of conds) words sufficient) at.runs tried.1 correct

  told_regressing : (base revision : Resolution) (report : Report) (scope : Scope) (needed : Needed) (enough : Option (List (Name × Cond))) → IsResolution base → IsFound base scope needed → IsEnoughFor base needed enough → Tells revision scope.ends needed enough report →
      report.verdict ≡ 3 → IsRegressing base revision report
  told_regressing base revision report scope (Vacuous shown) enough is found suffices tells three = let e : report.verdict ≡ 4 = ap (λ (r : Report). r.verdict) tells in absurd (cc)
  told_regressing base revision report scope (Conditions held cuts) (Some conds) is found suffices tells three =
      shows base revision report held conds (Some conds) is found.necessary.words suffices refl tells.enough_is tells.shown_by (sym tells.verdict ∙ three) tells.witnesses
  told_regressing base revision report scope (Conditions held cuts) None is found suffices tells three =
      absurd (some_regression report.rows (sym tells.verdict ∙ three) (none_left (λ row. is_class Regression row.class) report.rows (no_run (filter (λ row. is_class Regression row.class) report.rows) report.witnesses tells.witnesses)))
    where
      no_run : (rows : List ReportRow) (ws : List Witness) → AllZip (IsWitnessBy revision None) rows ws → rows ≡ []
      no_run [] ws z = refl
      no_run (row ∷ rows) [] z = absurd z
      no_run (row ∷ rows) (w ∷ ws) z = absurd z.0

  pub text_regressing : (base revision : Resolution) (report : Report) → IsResolution base → IsResolution revision → IsReport base revision report → report.verdict ≡ 3 →
      ShowsRegression (tree_of base) (tree_of revision) (report_text report base revision)
  text_regressing base revision report is is_revision it three =
      let r = told_regressing base revision report it.scope it.needed it.enough is it.found.needed_is it.found.enough_is it.tells three in
      record {
        front = necessary_lines report.conditions;
        between = rows_lines revision report.rows;
        held = r.held;
        witnesses = report.witnesses;
        text = regressing_text report base revision r.held r.shown_by three r.enough;
        safe = r.safe;
        some = r.some;
        runs = all_of (IsShownRun (tree_of revision) (cond_of r.held)) report.witnesses
            (λ w there. let run = of_all (λ (v : Witness). (n : ℕ) × IsCounterexample revision n (cond_of r.held) v) report.witnesses r.runs w there in shown_run revision run.0 (cond_of r.held) w run.1);
        incorrect = r.incorrect;
      }
