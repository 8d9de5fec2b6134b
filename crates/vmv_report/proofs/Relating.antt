-- What a report's verdict tells of the environments that are safe for the base.
use Rattle.std.proofs.Common.{◌≡◌, ◌++◌, ◌⊎◌, inl, inr, ⊎_elim, ℕ, zero, suc, ◌==◌, ℤ, Bool, true, false, if◌then◌else◌, Option, Some, List, [], ◌∷◌, length, count_by, filter, slice_get, refl, sym, ap, subst, arith, ◌∙◌}
use Rattle.std.specs.List.{Contains}
use Rattle.std.proofs.lemmas.Bool.Decides.{Decides-eqb}
use Rattle.std.proofs.lemmas.List.Sums.{length-filter}
use Rattle.vmv_tree.specs.declared.name.Name.{Name}
use Rattle.vmv_tree.specs.declared.ends.NameEnds.{NameEnds}
use Rattle.vmv_tree.specs.declared.site.NamedSite.{NamedSite}
use Rattle.vmv_tree.specs.declared.tree.Param.{Param}
use Rattle.vmv_tree.specs.Tree.{entry, Body}
use Rattle.vmv_tree.specs.Run.{Answers, Site, Outcome, Run}
use Rattle.vmv_tree.specs.Safe.{Environment, Covers, AreIn, FitParams, Safe, RelCorrect}
use Rattle.vmv_cond.specs.declared.cond.Cond.{Cond}
use Rattle.vmv_snapshot.specs.Resolution.{Resolution, IsResolution, tree_of, procs_of}
use Rattle.vmv_assumption.specs.Whole.{whole}
use Rattle.vmv_assumption.specs.Assumed.{Assumed, cond_of}
use Rattle.vmv_assumption.specs.Within.{IsWithin}
use Rattle.vmv_cert.specs.Tables.{IsSiteOf, Provable}
use Rattle.vmv_check.proofs.Orders.{name_at}
use Rattle.vmv_table_sound.specs.Told.{named}
use Rattle.vmv_need.specs.declared.subject.Scope.{Scope}
use Rattle.vmv_need.specs.declared.needed.Needed.{Needed}
use Rattle.vmv_need.specs.declared.needed.Needed.TheVariants.{Conditions, Vacuous}
use Rattle.vmv_need.specs.Acts.{IsNecessary}
use Rattle.vmv_need.specs.Vacuous.{IsVacuous}
use Rattle.vmv_need.specs.Needed.{IsFound}
use Rattle.vmv_report.specs.declared.class.Class.{Class}
use Rattle.vmv_report.specs.declared.class.Class.TheVariants.{Clean, Hidden, Regression, Alarm}
use Rattle.vmv_report.specs.declared.row.ReportRow.{ReportRow}
use Rattle.vmv_report.specs.declared.report.Report.{Report}
use Rattle.vmv_report.specs.Rows.{proc_name, named_site, Place, place_of, Review, IsProvable, IsAlwaysProvable, IsRelativelyProvable, IsOfClass, AreRows, is_class, class_count, verdict_of}
use Rattle.vmv_report.specs.Reports.{Tells, IsReport}
use Rattle.vmv_report.proofs.Naming.{name_read}

-- the verdict is 1, where no row is a regression or an alarm, or 2, or 3
tested_cases : (b c : Bool) → let v : ℕ = if b then (if c then 1 else 2) else 3 in ((v ≡ 1) × (b ≡ true) × (c ≡ true)) ⊎ ((v ≡ 2) ⊎ (v ≡ 3))
tested_cases true true = inl (refl, refl, refl)
tested_cases true false = inr (inl refl)
tested_cases false c = inr (inr refl)

pub verdict_cases : (rows : List ReportRow) → ((verdict_of rows ≡ 1) × (class_count Regression rows ≡ 0) × (class_count Alarm rows ≡ 0)) ⊎ ((verdict_of rows ≡ 2) ⊎ (verdict_of rows ≡ 3))
verdict_cases rows =
    let r : Bool = class_count Regression rows == 0 in
    let a : Bool = class_count Alarm rows == 0 in
    let v : ℕ = if r then (if a then 1 else 2) else 3 in
    ⊎_elim
    (λ (h : (v ≡ 1) × (r ≡ true) × (a ≡ true)). inl (h.0, (Decides-eqb (class_count Regression rows) 0).0 h.1, (Decides-eqb (class_count Alarm rows) 0).0 h.2))
    (λ (h : (v ≡ 2) ⊎ (v ≡ 3)). inr h)
    (tested_cases r a)

-- what is counted 0 times isn't there
none_filtered : {X : Type 0} (p : X → Bool) (xs : List X) (x : X) → length (filter p xs) ≡ 0 → Contains xs x → p x ≡ false
none_filtered p [] x e (k, h, is) = absurd (omega (arith, h))
none_filtered p (y ∷ xs) x e (zero, h, is) = subst (λ z. p z ≡ false) is (first (p y) refl)
  where
    first : (b : Bool) → p y ≡ b → p y ≡ false
    first true t = let c : length (filter p (y ∷ xs)) ≡ suc (length (filter p xs)) = rw t refl in absurd (omega (arith, c, e))
    first false f = f
none_filtered p (y ∷ xs) x e (suc k, h, is) = none_filtered p xs x (rest (p y) refl) (k, omega (arith, h), is)
  where
    rest : (b : Bool) → p y ≡ b → length (filter p xs) ≡ 0
    rest true t = let c : length (filter p (y ∷ xs)) ≡ suc (length (filter p xs)) = rw t refl in absurd (omega (arith, c, e))
    rest false f = let c : length (filter p (y ∷ xs)) ≡ length (filter p xs) = rw f refl in sym c ∙ e

none_counted : {X : Type 0} (p : X → Bool) (xs : List X) (x : X) → count_by p xs ≡ 0 → Contains xs x → p x ≡ false
none_counted p xs x e there = none_filtered p xs x (length-filter p xs ∙ e) there

-- what stands before and behind an element
parts_of : {X : Type 0} (xs : List X) (x : X) → Contains xs x → (before : List X) × (after : List X) × (xs ≡ before ++ x ∷ after)
parts_of [] x (k, h, is) = absurd (omega (arith, h))
parts_of (y ∷ xs) x (zero, h, is) = ([], xs, ap (λ z. z ∷ xs) is)
parts_of (y ∷ xs) x (suc k, h, is) = let p = parts_of xs x (k, omega (arith, h), is) in (y ∷ p.0, p.1, ap (λ zs. y ∷ zs) p.2)

-- a row that is neither a regression nor an alarm is provable in one way or the other
provable_row : (review : Review) (before : List ReportRow) (row : ReportRow) → IsOfClass review before row row.class → is_class Regression row.class ≡ false → is_class Alarm row.class ≡ false → IsAlwaysProvable review row ⊎ IsRelativelyProvable review row
provable_row review before row class no_regression no_alarm = by row.class refl
  where
    by : (c : Class) → row.class ≡ c → IsAlwaysProvable review row ⊎ IsRelativelyProvable review row
    by Clean e = inl (subst (λ (k : Class). IsOfClass review before row k) e class)
    by Hidden e = let h = subst (λ (k : Class). IsOfClass review before row k) e class in inr h.1
    by Regression e = let f : is_class Regression Regression ≡ false = subst (λ (k : Class). is_class Regression k ≡ false) e no_regression in absurd (cc)
    by Alarm e = let f : is_class Alarm Alarm ≡ false = subst (λ (k : Class). is_class Alarm k ≡ false) e no_alarm in absurd (cc)

-- the row's entry and site are those of a failing run
provable_there : (review : Review) (row : ReportRow) (assumed : Assumed) (n m : ℕ) (site : Site) → place_of row ≡ record { entry = n; proc = m; index = site.number } → IsSiteOf review.revision n m (named site) → IsProvable review assumed row →
    Provable review.revision n review.ends assumed (named site)
provable_there review row assumed n m site here is provable =
    let e : row.entry.0 ≡ n = ap (λ (p : Place). p.entry) here in
    let p : row.site.proc.0 ≡ m = ap (λ (q : Place). q.proc) here in
    let i : row.site.index ≡ site.number = ap (λ (q : Place). q.index) here in
    let name : proc_name review.revision m ≡ site.proc = name_read review.revision m site.proc (name_at review.revision m is.item site.proc is.place is.named) in
    let name' : proc_name review.revision row.site.proc.0 ≡ site.proc = ap (proc_name review.revision) p ∙ name in
    let s : named_site review.revision row.site ≡ named site = same (proc_name review.revision row.site.proc.0) site.proc row.site.index site.number name' i in
    let P : ℕ → Type 0 = λ k. Provable review.revision k review.ends assumed (named_site review.revision row.site) in
    let Q : NamedSite → Type 0 = λ x. Provable review.revision n review.ends assumed x in
    subst Q s (subst P e provable)
  where
    same : (a b : Name) (j k : ℕ) → a ≡ b → j ≡ k → let x : NamedSite = record { proc = a; index = j } in x ≡ record { proc = b; index = k }
    same a b j k e f = cc

module _ (within_whole : (env : Environment) → IsWithin env (λ name. whole))
    (meet_necessary : (program : Resolution) (scope : Scope) (assumed : Assumed) (env : Environment) → IsResolution program → IsNecessary program scope assumed → Covers env (tree_of program) → Safe env (tree_of program) → IsWithin env assumed)
    (reached : (program : Resolution) (name : Name) (params : List Param) (body : Body) (words : List ℤ) (answers : Answers) (site : Site) → IsResolution program → Contains (tree_of program) (entry name params body) →
    Run (tree_of program) name words answers (Outcome.fail site) → (number : ℕ) × (home : ℕ) × (slice_get (procs_of program) number ≡ Some (entry name params body)) × IsSiteOf program number home (named site))
    (dont_fail : (program : Resolution) (number : ℕ) (ends : List NameEnds) (assumed : Assumed) (site : NamedSite) (env : Environment) (name : Name) (params : List Param) (body : Body) (words : List ℤ) (answers : Answers) → IsResolution program →
    Provable program number ends assumed site → slice_get (procs_of program) number ≡ Some (entry name params body) → FitParams params words → IsWithin env assumed → AreIn answers env →
    Run (tree_of program) name words answers (Outcome.fail (record { proc = site.proc; number = site.index })) → ⊥) where
  -- where no row is a regression or an alarm, environments that meet what is necessary are safe
  rows_safe : (review : Review) (rows : List ReportRow) (env : Environment) → IsResolution review.revision → AreRows review rows → class_count Regression rows ≡ 0 → class_count Alarm rows ≡ 0 → IsWithin env review.needed → Safe env (tree_of review.revision)
  rows_safe review rows env is are no_regression no_alarm inside name params body words answers site there fit drawn run =
      let f = reached review.revision name params body words answers site is there run in
      let here = f.3 in
      let found = are.all (record { entry = f.0; proc = f.1; index = site.number })
      (record { params = params; entry = (name, body, f.2); item = here.item; proc = here.place; reached = here.reached; from = here.from; to = here.to }) in
      let row = found.0 in
      let parts = parts_of rows row found.1 in
      ⊎_elim
      (λ (always : IsAlwaysProvable review row).
      dont_fail review.revision f.0 review.ends (λ x. whole) (named site) env name params body words answers is (provable_there review row (λ x. whole) f.0 f.1 site found.2 here always) f.2 fit (within_whole env) drawn run)
      (λ (relative : IsRelativelyProvable review row).
      dont_fail review.revision f.0 review.ends review.needed (named site) env name params body words answers is (provable_there review row review.needed f.0 f.1 site found.2 here relative) f.2 fit inside drawn run)
      (provable_row review parts.0 row (are.classes parts.0 parts.1 row parts.2)
      (none_counted (λ (r : ReportRow). is_class Regression r.class) rows row no_regression found.1)
      (none_counted (λ (r : ReportRow). is_class Alarm r.class) rows row no_alarm found.1))

  told_correct : (base revision : Resolution) (report : Report) (scope : Scope) (needed : Needed) (enough : Option (List (Name × Cond))) → IsResolution base → IsResolution revision → IsFound base scope needed →
      Tells revision scope.ends needed enough report → report.verdict ≡ 1 → RelCorrect (tree_of base) (tree_of revision)
  told_correct base revision report scope (Vacuous shown) enough is_base is_revision found tells one =
      let e : report.verdict ≡ 4 = ap (λ (r : Report). r.verdict) tells in absurd (cc)
  told_correct base revision report scope (Conditions held cuts) enough is_base is_revision found tells one = λ env covers_base covers_revision safe.
      let v = tells.verdict in
      let no : (class_count Regression report.rows ≡ 0) × (class_count Alarm report.rows ≡ 0) = ⊎_elim
      (λ (h : (verdict_of report.rows ≡ 1) × (class_count Regression report.rows ≡ 0) × (class_count Alarm report.rows ≡ 0)). (h.1, h.2))
      (λ (h : (verdict_of report.rows ≡ 2) ⊎ (verdict_of report.rows ≡ 3)). absurd (⊎_elim (λ (two : verdict_of report.rows ≡ 2). cc) (λ (three : verdict_of report.rows ≡ 3). cc) h))
      (verdict_cases report.rows) in
      rows_safe (record { revision = revision; ends = scope.ends; needed = cond_of held; enough = enough }) report.rows env is_revision tells.rows no.0 no.1
      (meet_necessary base scope (cond_of held) env is_base found.necessary covers_base safe)

  pub verdict_correct : (base revision : Resolution) (report : Report) → IsResolution base → IsResolution revision → IsReport base revision report → report.verdict ≡ 1 → RelCorrect (tree_of base) (tree_of revision)
  verdict_correct base revision report is_base is_revision is one = told_correct base revision report is.scope is.needed is.enough is_base is_revision is.found.needed_is is.tells one

  told_within : (revision : Resolution) (report : Report) (ends : List NameEnds) (needed : Needed) (enough held : Option (List (Name × Cond))) (conds : List (Name × Cond)) (env : Environment) → IsResolution revision →
      Tells revision ends needed enough report → report.verdict ≡ 1 → held ≡ report.conditions → held ≡ Some conds → IsWithin env (cond_of conds) → Safe env (tree_of revision)
  told_within revision report ends (Vacuous shown) enough held conds env is_revision tells one is some inside =
      let e : report.verdict ≡ 4 = ap (λ (r : Report). r.verdict) tells in absurd (cc)
  told_within revision report ends (Conditions needed cuts) enough held conds env is_revision tells one is some inside =
      let v = tells.verdict in
      let no : (class_count Regression report.rows ≡ 0) × (class_count Alarm report.rows ≡ 0) = ⊎_elim
      (λ (h : (verdict_of report.rows ≡ 1) × (class_count Regression report.rows ≡ 0) × (class_count Alarm report.rows ≡ 0)). (h.1, h.2))
      (λ (h : (verdict_of report.rows ≡ 2) ⊎ (verdict_of report.rows ≡ 3)). absurd (⊎_elim (λ (two : verdict_of report.rows ≡ 2). cc) (λ (three : verdict_of report.rows ≡ 3). cc) h))
      (verdict_cases report.rows) in
      let both : Some conds ≡ Some needed = sym some ∙ (is ∙ tells.conditions) in
      let same : conds ≡ needed = cc in
      rows_safe (record { revision = revision; ends = ends; needed = cond_of needed; enough = enough }) report.rows env is_revision tells.rows no.0 no.1
      (subst (λ (held : List (Name × Cond)). IsWithin env (cond_of held)) same inside)

  -- within what is necessary for the base a correct revision is safe
  pub verdict_within : (base revision : Resolution) (report : Report) (held : List (Name × Cond)) (env : Environment) → IsResolution revision → IsReport base revision report → report.verdict ≡ 1 →
      report.conditions ≡ Some held → IsWithin env (cond_of held) → Safe env (tree_of revision)
  verdict_within base revision report held env is_revision is one some inside =
      told_within revision report is.scope.ends is.needed is.enough report.conditions held env is_revision is.tells one refl some inside

module _ (none_safe : (program : Resolution) (scope : Scope) (assumed : Assumed) (env : Environment) → IsResolution program → IsNecessary program scope assumed → IsVacuous program scope assumed → Covers env (tree_of program) → Safe env (tree_of program) → ⊥) where
  told_vacuous : (base revision : Resolution) (report : Report) (env : Environment) (scope : Scope) (needed : Needed) (enough : Option (List (Name × Cond))) → IsResolution base → IsFound base scope needed → Tells revision scope.ends needed enough report →
      report.verdict ≡ 4 → Covers env (tree_of base) → Safe env (tree_of base) → ⊥
  told_vacuous base revision report env scope (Vacuous shown) enough is found tells four covers safe = none_safe base scope found.assumed env is found.necessary found.vacuous covers safe
  told_vacuous base revision report env scope (Conditions held cuts) enough is found tells four covers safe =
      let v = tells.verdict in
      ⊎_elim
      (λ (h : (verdict_of report.rows ≡ 1) × (class_count Regression report.rows ≡ 0) × (class_count Alarm report.rows ≡ 0)). let one = h.0 in absurd (cc))
      (λ (h : (verdict_of report.rows ≡ 2) ⊎ (verdict_of report.rows ≡ 3)). absurd (⊎_elim (λ (two : verdict_of report.rows ≡ 2). cc) (λ (three : verdict_of report.rows ≡ 3). cc) h))
      (verdict_cases report.rows)

  pub verdict_vacuous : (base revision : Resolution) (report : Report) (env : Environment) → IsResolution base → IsReport base revision report → report.verdict ≡ 4 → Covers env (tree_of base) → Safe env (tree_of base) → ⊥
  verdict_vacuous base revision report env is is_report four covers safe =
      told_vacuous base revision report env is_report.scope is_report.needed is_report.enough is is_report.found.needed_is is_report.tells four covers safe
