-- What is necessary for the root of a chain is below what is necessary for its versions.
use Rattle.std.proofs.Common.{◌≡◌, ◌⊎◌, inl, inr, ⊎_elim, ℕ, ◌≤◌, ◌<◌, ◌+◌, List, [], ◌∷◌, length, find, Option, Some, None, IfSome, IsSomeAnd, IsTrue, refl, sym, ap, subst, ◌∙◌, arith, true}
use Rattle.std.specs.Option.{option_map}
use Rattle.std.specs.List.{AllByRecursion}
use borrow.Author.Tests.{eqb-true}
use Rattle.vmv_tree.specs.Safe.{Environment, Covers, Safe}
use Rattle.vmv_snapshot.specs.Resolution.{Resolution, tree_of}
use Rattle.vmv_assumption.specs.Assumed.{Assumed, cond_of}
use Rattle.vmv_assumption.specs.Within.{IsBelow, IsWithin}
use Rattle.vmv_need.specs.declared.subject.Scope.{Scope}
use Rattle.vmv_keeper.specs.declared.project.Project.{Project}
use Rattle.vmv_keeper.specs.declared.project.Version.{Version}
use Rattle.vmv_keeper.specs.declared.judge.Inspected.{Inspected}
use Rattle.vmv_keeper.specs.declared.judge.Inspected.TheVariants.{Fine, Refused, Vacuous}
use Rattle.vmv_keeper.specs.Judging.{parses, HasVerdict}
use Rattle.vmv_keeper.specs.Formed.{IsProject}
use Rattle.vmv_keeper.specs.Tables.{Tables, is_version, root_number}
use Rattle.vmv_keeper.proofs.FormedReads.{IfSome-find}
use Rattle.vmv_keeper.proofs.ListChanges.{All-weaken}
use Rattle.vmv_desk_rules.specs.Causes.{Meaning, root_text, chain}
use Rattle.vmv_desk_rules.specs.Well.{Well, IsReviewed, IsAccepted, Parses}
use Rattle.vmv_desk_rules.specs.Heard.{WellBy}
use Rattle.vmv_desk_rules.proofs.RootLemmas.{IsBehind, all_both, all_chain}
use Rattle.vmv_desk_rules.proofs.ChainLemmas.{versions_kept, versions_behind}
use Rattle.vmv_desk_rules.proofs.HeardLemmas.{IsMeant, meant}
use Rattle.vmv_gate.specs.Judged.{IsReadAs, HasNecessary, Inspects, Compares}
use Rattle.vmv_gate.specs.Since.{IsNeededLess, IsSafeWithin, HoldsSinceRoot, HoldSinceRoots}
use Rattle.vmv_gate.specs.Said.{read_once, necessary_same, inspected_once, compared_once, read_utf8, AreReportsOne}
use Rattle.vmv_gate.proofs.Needs.{AreSafeWithin, IsJudgedRight, judged_right, below_revision}

-- one text leads to another by verdicts, with what is necessary for the first
record Leads (first second : List ℕ) : Type 0 where
  base : Resolution
  revision : Resolution
  base_is : IsReadAs first base
  revision_is : IsReadAs second revision
  scope : Scope
  needed : Assumed
  has : HasNecessary base scope needed
  below : (other : Scope) (later : Assumed) → HasNecessary revision other later → IsBelow needed later

abbrev Reaches : List ℕ → List ℕ → Type 0
Reaches first second = ((first ≡ second) × ((p : Resolution) × IsReadAs first p)) ⊎ Leads first second

itself : (text : List ℕ) (said : Inspected) → Inspects text said → IsTrue (parses said) → Reaches text text
itself text Fine is h = inl (refl, (is.0, is.1))
itself text (Refused number line column) is h = absurd (cc h)
itself text Vacuous is h = inl (refl, (is.0, is.1))

led_on : (a b c : List ℕ) → Leads a b → Leads b c → Leads a c
led_on a b c h k =
    let same = read_once b k.base h.revision k.base_is h.revision_is in
    let mid = h.below k.scope k.needed (subst (λ p. HasNecessary p k.scope k.needed) same k.has) in
    record {
      base = h.base;
      revision = k.revision;
      base_is = h.base_is;
      revision_is = k.revision_is;
      scope = h.scope;
      needed = h.needed;
      has = h.has;
      below = λ other later has name w holds. k.below other later has name w (mid name w holds);
    }

reached_on : (a b c : List ℕ) → Reaches a b → Reaches b c → Reaches a c
reached_on a b c (inl h) k = subst (λ t. Reaches t c) (sym h.0) k
reached_on a b c (inr h) (inl k) = subst (λ t. Reaches a t) k.0 (inr h)
reached_on a b c (inr h) (inr k) = inr (led_on a b c h k)

one_step : (a b : List ℕ) → IsJudgedRight a b → Reaches a b
one_step a b j =
    inr (record {
      base = j.base;
      revision = j.revision;
      base_is = j.base_is;
      revision_is = j.revision_is;
      scope = j.scope;
      needed = cond_of j.held;
      has = j.has;
      below = below_revision a b j;
    })

less_than : (a b : List ℕ) → Reaches a b → IsNeededLess a b
less_than a b (inl h) =
    subst (λ t. IsNeededLess a t) h.0 (record {
      base = h.1.0;
      revision = h.1.0;
      base_is = h.1.1;
      revision_is = h.1.1;
      below = λ scope other needed later has its. subst (λ x. IsBelow needed x) (necessary_same h.1.0 scope other needed later has its).1 (λ name w holds. holds);
    })
less_than a b (inr h) =
    record {
      base = h.base;
      revision = h.revision;
      base_is = h.base_is;
      revision_is = h.revision_is;
      below = λ scope other needed later has its.
          subst (λ x. IsBelow x later) (necessary_same h.base h.scope scope h.needed needed h.has has).1 (h.below other later its);
    }

safe_step : (a b : List ℕ) → IsJudgedRight a b → IsSafeWithin a b
safe_step a b j =
    record {
      base = j.base;
      revision = j.revision;
      base_is = j.base_is;
      revision_is = j.revision_is;
      safe = λ scope needed env has covers inside.
          j.safe env (subst (λ x. IsWithin env x) (necessary_same j.base scope j.scope needed (cond_of j.held) has j.has).1 inside);
    }

-- what is reached from the root, and the next step from there
safe_after : (a b c : List ℕ) → Reaches a b → IsJudgedRight b c → IsSafeWithin a c
safe_after a b c (inl h) j = subst (λ t. IsSafeWithin t c) (sym h.0) (safe_step b c j)
safe_after a b c (inr h) j =
    let same = read_once b j.base h.revision j.base_is h.revision_is in
    let mid = h.below j.scope (cond_of j.held) (subst (λ p. HasNecessary p j.scope (cond_of j.held)) same j.has) in
    record {
      base = h.base;
      revision = j.revision;
      base_is = h.base_is;
      revision_is = j.revision_is;
      safe = λ scope needed env has covers inside.
          let own = subst (λ x. IsWithin env x) (necessary_same h.base scope h.scope needed h.needed has h.has).1 inside in
          j.safe env (λ name word fits there. mid name word (own name word fits there));
    }

module _ (law : AreSafeWithin) (J : Meaning) (compared : (base revision : List ℕ) → HasVerdict 1 (J.compared base revision) → Compares base revision (J.compared base revision))
    (inspected : (text : List ℕ) → IsTrue (parses (J.inspected text)) → Inspects text (J.inspected text)) where
  right : (a b : List ℕ) → HasVerdict 1 (J.compared a b) → IsJudgedRight a b
  right a b h = judged_right law a b (J.compared a b) (compared a b h) h

  -- the version that another was judged against, and that one
  safe_found : (n : ℕ) (root text : List ℕ) (found : Option Version) → IfSome found (λ w. Reaches root w.text)
      → IsSomeAnd (option_map (λ (w : Version). w.text) found) (λ t. HasVerdict 1 (J.compared t text)) → IsSafeWithin root text
  safe_found n root text None kept judged = absurd judged
  safe_found n root text (Some w) kept judged = safe_after root w.text text kept (right w.text text judged)

  found_kept : (p : Project) (root n : ℕ) (found : Option Version) → root ≤ n → IfSome found (λ w. (root ≤ w.row.number → Reaches (root_text p) w.text) × (is_version n w ≡ true))
      → IfSome found (λ w. Reaches (root_text p) w.text)
  found_kept p root n None low h = tt
  found_kept p root n (Some w) low h = let at = eqb-true w.row.number n h.1 in h.0 (omega (arith, at, low))

  since_root : (p : Project) → IsProject p → IsReviewed J p → HoldsSinceRoot p
  since_root p formed reviewed =
      let root = root_number p in
      let Kept : Version → Type 0 = λ v. root ≤ v.row.number → Reaches (root_text p) v.text in
      let kept : AllByRecursion Kept p.versions =
      versions_kept J Reaches (λ text h. itself text (J.inspected text) (inspected text h) h) reached_on (λ a b h. one_step a b (right a b h)) p formed reviewed in
      let behind = versions_behind J p formed reviewed in
      let Safe : Version → Type 0 = λ v. root < v.row.number → IsSafeWithin (root_text p) v.text in
      let safe : AllByRecursion Safe p.versions =
      All-weaken (λ v. IsBehind root (root_text p) v × IsAccepted J p v) Safe
      (λ v h above.
      let judged = h.0.1 above in
      safe_found v.row.against (root_text p) v.text (find (is_version v.row.against) p.versions)
      (found_kept p root v.row.against (find (is_version v.row.against) p.versions) judged.1 (IfSome-find Kept (is_version v.row.against) p.versions kept))
      (h.1 judged.0)) p.versions
      (all_both (IsBehind root (root_text p)) (IsAccepted J p) p.versions behind.0 reviewed.accepted) in
      All-weaken (λ v. (root ≤ v.row.number) × (Kept v × Safe v)) (λ v. IsNeededLess (root_text p) v.text × Safe v)
      (λ v h. (less_than (root_text p) v.text (h.1.0 h.0), h.1.1)) (chain p)
      (all_both (λ v. root ≤ v.row.number) (λ v. Kept v × Safe v) (chain p) behind.1
      (all_chain (λ v. Kept v × Safe v) p.versions (all_both Kept Safe p.versions kept safe)))

  each_since : (ps : List Project) → AllByRecursion IsProject ps → AllByRecursion (IsReviewed J) ps → AllByRecursion HoldsSinceRoot ps
  each_since [] formed reviewed = tt
  each_since (p ∷ ps) formed reviewed = (since_root p formed.0 reviewed.0, each_since ps formed.1 reviewed.1)

pub since_roots : AreSafeWithin → AreReportsOne → (tables : Tables) → WellBy Inspects Compares tables → HoldSinceRoots tables
since_roots law one tables well =
    let it = meant Inspects Compares inspected_once (compared_once one) read_utf8 (λ J. Well J tables) well in
    each_since law it.0 it.1.compared it.1.inspected tables.projects it.2.formed.each it.2.reviewed
