-- The checker accepts the proof of a review.
use Rattle.std.proofs.Common.{◌≡◌, ℕ, zero, suc, ◌+◌, Option, Some, List, [], ◌∷◌, map, filter, slice_get, refl, sym, ap, subst, ◌∙◌, arith}
use Rattle.std.specs.List.{AllZip, Contains}
use Rattle.vmv_tree.specs.declared.ends.NameEnds.{NameEnds}
use Rattle.vmv_tree.specs.declared.name.Name.{Name}
use Rattle.vmv_tree.specs.Tree.{Item, outside, helper, entry}
use Rattle.vmv_tree.specs.Run.{name_of}
use Rattle.vmv_cond.specs.declared.cond.Cond.{Cond}
use Rattle.vmv_snapshot.specs.Procs.{is_entry}
use Rattle.vmv_snapshot.specs.Resolution.{Resolution, IsResolution, procs_of}
use Rattle.vmv_assumption.specs.Whole.{whole}
use Rattle.vmv_assumption.specs.Assumed.{Assumed, cond_of}
use Rattle.vmv_need.specs.declared.subject.Scope.{Scope}
use Rattle.vmv_need.specs.declared.cut.Cut.{Cut}
use Rattle.vmv_need.specs.declared.needed.Needed.{Needed}
use Rattle.vmv_need.specs.declared.needed.Needed.TheVariants.{Conditions}
use Rattle.vmv_need.specs.Candidates.{entries_from}
use Rattle.vmv_need.specs.Needed.{IsFound}
use Rattle.vmv_need.proofs.Scopes.{one_scope}
use Rattle.vmv_proof.specs.declared.proof.Exclusion.{Exclusion}
use Rattle.vmv_proof.specs.declared.proof.Shown.{Shown}
use Rattle.vmv_proof.specs.declared.proof.Proof.{Proof}
use Rattle.vmv_proving.specs.Exclusions.{AreRecorded}
use Rattle.vmv_proving.specs.Shown.{IsShownOf, AreShown}
use Rattle.vmv_proving.proofs.Recorded.{all_cut}
use Rattle.vmv_proof_check.specs.Cuts.{IsCutBy as IsCutWords}
use Rattle.vmv_proof_check.specs.Parts.{IsShaped, IsShownWell}
use Rattle.vmv_proof_check.specs.Proofs.{IsProofAccepted}
use Rattle.vmv_proof_check.specs.declared.claims.Claims.{Claims}
use Rattle.vmv_report.specs.declared.class.Class.TheVariants.{Clean, Hidden, Regression, Alarm}
use Rattle.vmv_report.specs.declared.report.Report.{Report}
use Rattle.vmv_report.specs.Rows.{AreRows, class_count}
use Rattle.vmv_report.specs.Reports.{Tells, IsReport}
use Rattle.vmv_report.proofs.Reading.{HaveRows, DecideProof, left_of}
use Rattle.vmv_review_proof.specs.Proofs.{IsProofOf}
use Rattle.vmv_proof_laws.proofs.Cutting.{cut_words}
use Rattle.vmv_proof_laws.proofs.Excluding.{DecideDeath, BeginAbove, named_entry, first_row, all_pass}
use Rattle.vmv_proof_laws.proofs.Counting.{counted}

some_same : {X : Type 0} {x y : X} → Some x ≡ Some y → x ≡ y
some_same e = cc

-- a procedure at a place of these items stands at its number among all
abbrev AreAt : List Item → ℕ → List Item → Type 0
AreAt all k items = (j : ℕ) (item : Item) → slice_get items j ≡ Some item → slice_get (map name_of all) (k + j) ≡ Some (name_of item)

later_at : (all : List Item) (k : ℕ) (item : Item) (items : List Item) → AreAt all k (item ∷ items) → AreAt all (k + 1) items
later_at all k item items at j it e = let same : k + suc j ≡ k + 1 + j = omega arith in subst (λ n. slice_get (map name_of all) n ≡ Some (name_of it)) same (at (suc j) it e)

first_at : (all : List Item) (k : ℕ) (item : Item) (items : List Item) → AreAt all k (item ∷ items) → slice_get (map name_of all) k ≡ Some (name_of item)
first_at all k item items at = let same : k + 0 ≡ k = omega arith in subst (λ n. slice_get (map name_of all) n ≡ Some (name_of item)) same (at 0 item refl)

abbrev entry_of : Shown → Name
entry_of s = s.entry

module _ (revision : Resolution) (ends : List NameEnds) (needed : Assumed) where
  names_shown : (items : List Item) (k : ℕ) (shown : List Shown) → AreAt (procs_of revision) k items → AllZip (IsShownOf revision ends needed) (entries_from k (map is_entry items)) shown → map entry_of shown ≡ map name_of (filter is_entry items)
  names_shown [] k [] at all = refl
  names_shown [] k (s ∷ shown) at all = absurd all
  names_shown (outside f arity ∷ items) k shown at all = names_shown items (k + 1) shown (later_at (procs_of revision) k (outside f arity) items at) all
  names_shown (helper f params body ∷ items) k shown at all = names_shown items (k + 1) shown (later_at (procs_of revision) k (helper f params body) items at) all
  names_shown (entry f params body ∷ items) k [] at all = absurd all
  names_shown (entry f params body ∷ items) k (s ∷ shown) at all =
      let here : s.entry ≡ f = some_same (sym (all.0).named ∙ first_at (procs_of revision) k (entry f params body) items at) in
      let rest = names_shown items (k + 1) shown (later_at (procs_of revision) k (entry f params body) items at) all.1 in
      λ i. here i ∷ rest i

  each_at : (items : List Item) (j : ℕ) (item : Item) → slice_get items j ≡ Some item → slice_get (map name_of items) j ≡ Some (name_of item)
  each_at [] j item e = absurd (cc)
  each_at (x ∷ items) zero item e = let same : x ≡ item = cc in ap (λ z. Some (name_of z)) same
  each_at (x ∷ items) (suc j) item e = each_at items j item e

  shaped : (shown : List Shown) → AreShown revision ends needed shown → IsShaped revision shown
  shaped shown are =
      names_shown (procs_of revision) 0 shown
      (λ j item e. (let same : j ≡ 0 + j = omega arith in subst (λ n. slice_get (map name_of (procs_of revision)) n ≡ Some (name_of item)) same (each_at (procs_of revision) j item e))) are

  shown_well : HaveRows → BeginAbove → (shown : List Shown) (cuts : List Exclusion) → AreShown revision ends needed shown → IsCutWords cuts needed → (s : Shown) → Contains shown s → IsShownWell revision cuts s
  shown_well have above shown cuts are words s there =
      let found = left_of (IsShownOf revision ends needed) (entries_from 0 (map is_entry (procs_of revision))) shown s are there in
      let own = found.2 in
      let named = named_entry revision found.0 s.entry own.params own.entry own.named in
      let plain = first_row have above revision found.0 _ ends (λ name. whole) s.plain.rows (λ row. Unit {0}) own.plain (λ first rest e. tt) in
      let given = first_row have above revision found.0 _ ends needed s.given.rows (λ row. Unit {0}) own.given (λ first rest e. tt) in
      ((found.0, own.params, named, (own.plain.accepted, plain)), (needed, words, (found.0, own.params, named, (own.given.accepted, given))))

-- the rows that are told are by the necessary conditions
rows_told : (base revision : Resolution) (scope : Scope) (held : List (Name × Cond)) (cuts : List Cut) (needed : Needed) (enough : Option (List (Name × Cond))) (report : Report) → needed ≡ Conditions held cuts → Tells revision scope.ends needed enough report →
    AreRows (record { revision = revision; ends = scope.ends; needed = cond_of held; enough = enough }) report.rows
rows_told base revision scope held cuts needed enough report e tells = let told : Tells revision scope.ends (Conditions held cuts) enough report = subst (λ (n : Needed). Tells revision scope.ends n enough report) e tells in told.rows

-- what is found of a program is one thing
abbrev OneIsNeeded : Type 0
OneIsNeeded = (program : Resolution) (scope : Scope) (one other : Needed) → IsResolution program → IsFound program scope one → IsFound program scope other → one ≡ other

pub accepted : HaveRows → DecideProof → DecideDeath → BeginAbove → OneIsNeeded → (base revision : Resolution) (proof : Proof) (report : Report) (claims : Claims) → IsResolution base → IsResolution revision → IsProofOf base revision proof → IsReport base revision report →
    claims.clean ≡ class_count Clean report.rows → claims.hidden ≡ class_count Hidden report.rows → claims.left ≡ class_count Regression report.rows + class_count Alarm report.rows → IsProofAccepted base revision proof claims
accepted have decide death above once base revision proof report claims is is' of tells cleans hiddens lefts =
    let ends = of.scope.ends in
    let needed : Assumed = cond_of of.held in
    let are : AreRecorded base ends of.cuts = record { scope = of.scope; scope_is = of.scope_is; ends_are = refl; last = needed; recorded = of.conditions.cuts_are } in
    let words : IsCutWords proof.exclusions needed = cut_words base ends of.cuts of.cuts proof.exclusions needed of.exclusions (all_cut base of.scope needed of.cuts of.conditions.cuts_are) in
    let scopes : tells.scope ≡ of.scope = one_scope base tells.scope of.scope tells.found.scope_is of.scope_is in
    let found : IsFound base of.scope tells.needed = subst (λ (s : Scope). IsFound base s tells.needed) scopes tells.found.needed_is in
    let same : tells.needed ≡ Conditions of.held of.cuts = once base of.scope tells.needed (Conditions of.held of.cuts) is found of.conditions in
    let rows = rows_told base revision of.scope of.held of.cuts tells.needed tells.enough report same (subst (λ (s : Scope). Tells revision s.ends tells.needed tells.enough report) scopes tells.tells) in
    record {
      exclusions = all_pass have death above base ends of.cuts is are proof.exclusions of.exclusions;
      shape = shaped revision ends needed proof.shown of.shown;
      shown = shown_well revision ends needed have above proof.shown proof.exclusions of.shown words;
      counts = counted have decide above revision ends is' needed tells.enough proof.shown of.shown report.rows claims rows cleans hiddens lefts;
    }
