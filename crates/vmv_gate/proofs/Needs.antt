-- What is necessary for a base is below what is necessary for a revision with verdict 1.
use Rattle.std.proofs.Common.{◌≡◌, ◌≢◌, ◌⊎◌, inl, inr, ⊎_elim, ℕ, ℤ, pos, Bool, true, false, cond, Option, Some, None, List, [], ◌∷◌, map, refl, sym, ap, subst, ◌∙◌}
use Rattle.std.specs.Str.{bytes_eq}
use Rattle.std.specs.List.{All, Contains}
use Rattle.std.proofs.lemmas.List.Elements.{All-nil, All-cons}
use Rattle.std.proofs.lemmas.Slice.Eq.{bytes_eq-Decides}
use Rattle.vmv_tree.specs.declared.name.Name.{Name}
use Rattle.vmv_tree.specs.Words.{IsWord}
use Rattle.vmv_tree.specs.Tree.{Item, outside}
use Rattle.vmv_tree.specs.Safe.{Environment, words_of, Covers, Safe}
use Rattle.vmv_cond.specs.declared.cond.Cond.{Cond}
use Rattle.vmv_cond.specs.Cond.{Holds, IsEmpty}
use Rattle.vmv_snapshot.specs.Procs.{outsides}
use Rattle.vmv_snapshot.specs.Resolution.{Resolution, IsResolution, tree_of}
use Rattle.vmv_assumption.specs.Whole.{whole}
use Rattle.vmv_assumption.specs.Assumed.{Assumed, names_of, cond_of}
use Rattle.vmv_assumption.specs.Within.{IsBelow, IsWithin}
use Rattle.vmv_need.specs.declared.subject.Scope.{Scope}
use Rattle.vmv_need.specs.declared.cut.Cut.{Cut}
use Rattle.vmv_need.specs.declared.needed.Needed.{Needed}
use Rattle.vmv_need.specs.declared.needed.Needed.TheVariants.{Conditions, Vacuous as IsVacuousNeed}
use Rattle.vmv_need.specs.Candidates.{IsScopeOf}
use Rattle.vmv_need.specs.Needed.{IsFound}
use Rattle.vmv_forward.proofs.Stable.{holds_stably}
use Rattle.vmv_need.proofs.Existing.{safe_within}
use Rattle.vmv_need.proofs.Lower.{words_whole}
use Rattle.vmv_report.specs.declared.report.Report.{Report}
use Rattle.vmv_report.specs.Reports.{Tells, IsReport}
use Rattle.vmv_keeper.specs.declared.judge.Compared.{Compared}
use Rattle.vmv_keeper.specs.declared.judge.Compared.TheVariants.{Judged, Unreadable}
use Rattle.vmv_keeper.specs.Judging.{HasVerdict}
use Rattle.vmv_gate.specs.Judged.{IsReadAs, HasNecessary, Compares}
use Rattle.vmv_gate.specs.Environments.{here, later, parted, none_in, out_in, bytes_same, bytes_differ, has_words}
use Rattle.vmv_gate.specs.Kept.{verdict_one, not_judged}

-- a correct revision is safe within what is necessary for its base
abbrev pub AreSafeWithin : Type 0
AreSafeWithin = (base revision : Resolution) (report : Report) (held : List (Name × Cond)) (env : Environment) → IsResolution revision → IsReport base revision report → report.verdict ≡ 1
    → report.conditions ≡ Some held → IsWithin env (cond_of held) → Safe env (tree_of revision)

-- a verdict of 1, with what is necessary for the base
pub record IsJudgedRight (first second : List ℕ) : Type 0 where
  pub base : Resolution
  pub revision : Resolution
  pub base_is : IsReadAs first base
  pub revision_is : IsReadAs second revision
  pub scope : Scope
  pub held : List (Name × Cond)
  pub names : names_of held ≡ outsides (tree_of base)
  pub has : HasNecessary base scope (cond_of held)
  pub some : (g : Name) → Contains (outsides (tree_of base)) g → ¬ IsEmpty (cond_of held g)
  pub safe : (env : Environment) → IsWithin env (cond_of held) → Safe env (tree_of revision)

judged_by : AreSafeWithin → (first second : List ℕ) (base revision : Resolution) (report : Report) → IsReadAs first base → IsReadAs second revision → IsReport base revision report
    → report.verdict ≡ 1 → (scope : Scope) (needed : Needed) (enough : Option (List (Name × Cond))) → IsScopeOf base scope → IsFound base scope needed → Tells revision scope.ends needed enough report
    → IsJudgedRight first second
judged_by law first second base revision report read other is one scope (Conditions held cuts) enough scope_is found tells =
    record {
      base = base;
      revision = revision;
      base_is = read;
      revision_is = other;
      scope = scope;
      held = held;
      names = found.names;
      has = record { scope_is = scope_is; necessary = found.necessary };
      some = λ g there empty. found.not_vacuous (inl (g, there, empty));
      safe = λ env inside. law base revision report held env other.1 is one tells.conditions inside;
    }
judged_by law first second base revision report read other is one scope (IsVacuousNeed shown) enough scope_is found tells =
    absurd (let four : report.verdict ≡ 4 = ap (λ (r : Report). r.verdict) tells in let both : 4 ≡ 1 = sym four ∙ one in cc both)

pub judged_right : AreSafeWithin → (first second : List ℕ) (said : Compared) → Compares first second said → HasVerdict 1 said → IsJudgedRight first second
judged_right law first second (Judged verdict json) is h =
    let report = is.5 in
    judged_by law first second is.0 is.1 is.4 is.2 is.3 report (sym is.6 ∙ verdict_one verdict json h) report.scope report.needed report.enough report.found.scope_is report.found.needed_is report.tells
judged_right law first second (Unreadable which) is h = absurd (not_judged which h)

-- a name is held, or has the whole condition

held_step : (h : Name × Cond) (rest : List (Name × Cond)) (name : Name) (b : Bool) → bytes_eq h.0 name ≡ b → Contains (names_of rest) name ⊎ (cond_of rest name ≡ whole)
    → Contains (h.0 ∷ names_of rest) name ⊎ (cond b h.1 (cond_of rest name) ≡ whole)
held_step h rest name true e more = inl (subst (λ x. Contains (h.0 ∷ names_of rest) x) (bytes_same h.0 name e) (here h.0 (names_of rest)))
held_step h rest name false e (inl there) = inl (later h.0 (names_of rest) name there)
held_step h rest name false e (inr is) = inr is

held_or_whole : (held : List (Name × Cond)) (name : Name) → Contains (names_of held) name ⊎ (cond_of held name ≡ whole)
held_or_whole [] name = inr refl
held_or_whole (h ∷ rest) name = held_step h rest name (bytes_eq h.0 name) refl (held_or_whole rest name)

-- environments within an assumption, with words for some names

record Inside (assumed : Assumed) (names : List Name) : Type 0 where
  env : Environment
  has : (g : Name) → Contains names g → has_words (words_of env g)
  within : IsWithin env assumed

-- a word that a name may answer
abbrev Answer : Assumed → Name → Type 0
Answer assumed g = (u : ℤ) × IsWord u × Holds (assumed g) u

has_at : (n g : Name) (u : ℤ) (words : List ℤ) (b : Bool) → bytes_eq n g ≡ b → IsWord u → (b ≡ false → has_words words) → has_words (cond b (u ∷ []) words)
has_at n g u words true e fits more = ((λ e. cc e), All-cons IsWord u [] fits (All-nil IsWord))
has_at n g u words false e fits more = more refl

within_at : (assumed : Assumed) (n g : Name) (u word : ℤ) (words : List ℤ) (b : Bool) → bytes_eq n g ≡ b → Holds (assumed n) u → (Contains words word → Holds (assumed g) word)
    → Contains (cond b (u ∷ []) words) word → Holds (assumed g) word
within_at assumed n g u word words true e holds more there =
    ⊎_elim (λ (same : u ≡ word). subst (λ x. Holds (assumed x) word) (bytes_same n g e) (subst (Holds (assumed n)) same holds)) (λ (c : Contains [] word). absurd (none_in word c))
    (parted u [] word there)
within_at assumed n g u word words false e holds more there = more there

abbrev one_more : (assumed : Assumed) (n : Name) (names : List Name) → Answer assumed n → Inside assumed names → Inside assumed (n ∷ names)
one_more assumed n names answer inside =
    record {
      env = (n, answer.0 ∷ []) ∷ inside.env;
      has = λ g there. has_at n g answer.0 (words_of inside.env g) (bytes_eq n g) refl answer.1
          (λ differ. ⊎_elim (λ (same : n ≡ g). absurd (bytes_differ n g differ same)) (λ (c : Contains names g). inside.has g c) (parted n names g there));
      within = λ g word fits there. within_at assumed n g answer.0 word (words_of inside.env g) (bytes_eq n g) refl answer.2 (λ c. inside.within g word fits c) there;
    }

some_inside : (assumed : Assumed) → ((g : Name) → ¬ (¬ Answer assumed g)) → (names : List Name) → ¬ (¬ Inside assumed names)
some_inside assumed each [] never =
    never (record { env = []; has = λ g there. absurd (none_in g there); within = λ g word fits there. absurd (none_in word there) })
some_inside assumed each (n ∷ names) never =
    each n (λ answer. some_inside assumed each names (λ inside. never (one_more assumed n names answer inside)))

front_word : (n : Name) (u : ℤ) (words : List ℤ) → Contains (cond (bytes_eq n n) (u ∷ []) words) u
front_word n u words = subst (λ b. Contains (cond b (u ∷ []) words) u) (sym ((bytes_eq-Decides n n).1 refl)) (here u [])

module _ (first second : List ℕ) (j : IsJudgedRight first second) where
  answers : (g : Name) → ¬ (¬ Answer (cond_of j.held) g)
  answers g never =
      ⊎_elim
      (λ (there : Contains (names_of j.held) g).
      j.some g (subst (λ names. Contains names g) j.names there) (λ u holds. never (u, j.has.necessary.words g u holds, holds)))
      (λ (is : cond_of j.held g ≡ whole). never (pos 0, refl, subst (λ c. Holds c (pos 0)) (sym is) (words_whole (pos 0) refl))) (held_or_whole j.held g)

  -- what is necessary for the base is below what is necessary for the revision
  pub below_revision : (other : Scope) (needed : Assumed) → HasNecessary j.revision other needed → IsBelow (cond_of j.held) needed
  below_revision other needed has name w holds =
      let fits = j.has.necessary.words name w holds in
      holds_stably (needed name) w (λ none.
      some_inside (cond_of j.held) answers (outsides (tree_of j.revision)) (λ inside.
      let all = one_more (cond_of j.held) name (outsides (tree_of j.revision)) (w, fits, holds) inside in
      let covers : Covers all.env (tree_of j.revision) = λ g arity there.
      all.has g (later name (outsides (tree_of j.revision)) g (out_in (tree_of j.revision) g arity there)) in
      none (safe_within j.revision other needed all.env j.revision_is.1 has.necessary covers (j.safe all.env all.within) name w fits (front_word name w (words_of inside.env name)))))
