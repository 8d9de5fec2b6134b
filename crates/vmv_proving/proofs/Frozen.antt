-- What is frozen while exclusions are told.
use Rattle.std.proofs.Common.{◌≡◌, ◌↔◌, ℕ, ℤ, ◌+◌, ◌≤◌, ◌<◌, Bool, IsTrue, Option, Some, None, List, [], ◌∷◌, length, take, get_or, slice_get, refl, sym, ap, subst, ◌∙◌, arith}
use Rattle.std.specs.List.{Contains}
use Rattle.std.proofs.lemmas.Option.{slice_get_within, slice_get-get_or}
use Rattle.vmv_tree.specs.declared.ends.NameEnds.{NameEnds}
use Rattle.vmv_tree.specs.declared.name.Name.{Name}
use Rattle.vmv_cond.specs.declared.cond.Cond.{Cond}
use Rattle.vmv_snapshot.specs.Procs.{outsides}
use Rattle.vmv_snapshot.specs.Resolution.{Resolution, IsResolution, tree_of}
use Rattle.vmv_assumption.specs.Whole.{whole}
use Rattle.vmv_assumption.specs.Assumed.{names_of, cond_of}
use Rattle.vmv_assumption.specs.Change.{IsKept, IsCut}
use Rattle.vmv_cert.specs.Tables.{Box}
use Rattle.vmv_need.specs.declared.cut.Cut.{Cut}
use Rattle.vmv_need.specs.Thresholds.{HaveThresholds}
use Rattle.vmv_need.specs.Plan.{IsEntryWithin}
use Rattle.vmv_need.proofs.Deaths.{is_an_entry, entry_inside}
use Rattle.vmv_need.proofs.First.{take_more}
use Rattle.vmv_need.proofs.Fit.{candidate_fits}
use Rattle.vmv_proving.specs.Exclusions.{AreRecorded, IsCutBy, IsJudgedUnder}
use Rattle.vmv_proving.specs.Work.{IsFrozen}
use Rattle.vmv_proving.proofs.Recorded.{candidate_of, cut_append, each_recorded, in_order}

-- an element stands at some place
pub place_of : {X : Type 0} (xs : List X) (x : X) → Contains xs x → (i : ℕ) × (slice_get xs i ≡ Some x)
place_of xs x (i, within, is) = (i, slice_get-get_or xs i x within ∙ ap Some is)

pub at_place : {X : Type 0} (xs : List X) (i : ℕ) (x : X) → i < length xs → x ≡ get_or xs i x → slice_get xs i ≡ Some x
at_place xs i x h e = slice_get-get_or xs i x h ∙ ap Some (sym e)

-- each entry has thresholds
pub no_gap : (program : Resolution) (n : ℕ) (box : Box) (ends : List NameEnds) (list : List (Option (List ℤ))) (found : Option (List ℤ)) → HaveThresholds program ends list → IsEntryWithin program n box → found ≡ get_or list n found → found ≡ None → ⊥
no_gap program n box ends list found have within at none =
    let inside : n < length list = let k = entry_inside program n box within in let m = have.count in omega arith in
    let one = have.each n found (at_place list n found inside at) (is_an_entry program n box within) in
    let some = one.1 in
    cc

module _ (base : Resolution) (ends : List NameEnds) (cuts : List Cut) (are : AreRecorded base ends cuts) where
  -- no exclusion is judged under itself or a later one
  pub under_before : (i : ℕ) (cut : Cut) → slice_get cuts i ≡ Some cut → cut.under ≤ i
  under_before i cut at = (each_recorded base are.scope are.last cuts are.recorded i cut at).before

  pub under_few : (i : ℕ) (cut : Cut) → slice_get cuts i ≡ Some cut → cut.under ≤ length cuts
  under_few i cut at =
      let low = under_before i cut at in
      let within = slice_get_within cuts i cut at in
      omega (arith, low, within)

  pub under_rises : (i : ℕ) (one other : Cut) → slice_get cuts i ≡ Some one → slice_get cuts (i + 1) ≡ Some other → one.under ≤ other.under
  under_rises i one other at at' = in_order base are.scope are.last cuts are.recorded i (i + 1) one other (omega arith) at at'

  -- an exclusion is one of an entry and a box of its ranges, and of an outside name
  pub cut_fits : IsResolution base → (cut : Cut) → Contains cuts cut → IsEntryWithin base cut.entry.0 cut.within × Contains (outsides (tree_of base)) cut.name
  cut_fits is cut there =
      let at = place_of cuts cut there in
      candidate_fits base are.scope are.scope_is is (candidate_of cut) (each_recorded base are.scope are.last cuts are.recorded at.0 cut at.1).among

  -- the next exclusion is cut
  pub frozen_more : IsResolution base → (n : ℕ) (cut : Cut) (held left : List (Name × Cond)) (done : Bool) → Contains cuts cut → slice_get cuts n ≡ Some cut → IsFrozen base cuts n held → names_of left ≡ names_of held →
      IsTrue done ↔ Contains (names_of held) cut.name → (IsTrue done → IsCut (cond_of held) cut.name cut.piece (cond_of left)) → IsFrozen base cuts (n + 1) left
  frozen_more is n cut held left done there at frozen names told cuts_it = record {
    names = names ∙ frozen.names;
    led =
        let has : Contains (names_of held) cut.name = subst (λ (ns : List Name). Contains ns cut.name) (sym frozen.names) (cut_fits is cut there).1 in
        let more = cut_append (take n cuts) (cut ∷ []) (λ name. whole) (cond_of held) (cond_of left) frozen.led (cond_of left, cuts_it (told.1 has), refl) in
        subst (λ (xs : List Cut). IsCutBy xs (λ name. whole) (cond_of left)) (sym (take_more cuts n cut at)) more;
  }

  -- what is kept to the piece of an exclusion is what it is judged under
  pub judged_under : IsResolution base → (cut : Cut) (held copied kept : List (Name × Cond)) (done : Bool) → Contains cuts cut → IsFrozen base cuts cut.under held → copied ≡ held →
      IsTrue done ↔ Contains (names_of copied) cut.name → (IsTrue done → IsKept (cond_of copied) cut.name cut.piece (cond_of kept)) → IsJudgedUnder cuts cut (cond_of kept)
  judged_under is cut held copied kept done there frozen same told keeps =
      let has : Contains (names_of copied) cut.name = subst (λ (ns : List Name). Contains ns cut.name) (sym (ap names_of same ∙ frozen.names)) (cut_fits is cut there).1 in
      record {
        frozen = cond_of held;
        frozen_is = frozen.led;
        kept = subst (λ (a : List (Name × Cond)). IsKept (cond_of a) cut.name cut.piece (cond_of kept)) same (keeps (told.1 has));
      }

pub frozen_first : (base : Resolution) (cuts : List Cut) (held : List (Name × Cond)) → names_of held ≡ outsides (tree_of base) → ((name : Name) → cond_of held name ≡ whole) → IsFrozen base cuts 0 held
frozen_first base cuts held names conds = record { names = names; led = λ i name. conds name i }
