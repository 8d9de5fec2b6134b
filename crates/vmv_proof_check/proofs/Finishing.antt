-- The whole proof, from its parts.
use Rattle.std.proofs.Common.{◌≡◌, inl, inr, ℕ, ◌+◌, ◌<◌, true, false, Some, List, length, map, take, get_or, slice_get, refl, sym, ap, subst, arith, ◌∙◌}
use Rattle.std.specs.List.{Contains}
use Rattle.vmv_tree.specs.Tree.{Item}
use Rattle.vmv_tree.specs.Run.{name_of}
use Rattle.vmv_snapshot.specs.Procs.{is_entry}
use Rattle.vmv_snapshot.specs.Resolution.{Resolution, procs_of}
use Rattle.vmv_snapshot.proofs.Links.{map_at}
use Rattle.vmv_assumption.specs.Assumed.{cond_of}
use Rattle.vmv_proof.specs.declared.proof.Shown.{Shown}
use Rattle.vmv_proof.specs.declared.proof.Proof.{Proof}
use Rattle.vmv_proof_check.specs.declared.claims.Claims.{Claims}
use Rattle.vmv_proof_check.specs.declared.claims.Part.{Part}
use Rattle.vmv_proof_check.specs.declared.claims.Part.TheVariants.{Exclusion as Excluding, Plain, Given, Shape}
use Rattle.vmv_proof_check.specs.declared.claims.ProofRefused.{ProofRefused}
use Rattle.vmv_proof_check.specs.declared.claims.ProofRefused.TheVariants.{At, Memory}
use Rattle.vmv_proof_check.specs.declared.tally.Checking.{Checking}
use Rattle.vmv_proof_check.specs.declared.tally.Tally.{Tally}
use Rattle.vmv_proof_check.specs.Cuts.{IsCutBy}
use Rattle.vmv_proof_check.specs.Parts.{AllPass, IsShaped, IsShownWell}
use Rattle.vmv_proof_check.specs.Counts.{AreCounted}
use Rattle.vmv_proof_check.specs.Proofs.{IsProofAccepted, IsProofRefused, IsWhyRefused, IsShownBehind}
use Rattle.vmv_proof_check.specs.Work.{IsRefusedExclusion, IsWellUnder, IsShownAt, IsShownRefused, IsReady, IsTallied, AreAllTallied, at}
use Rattle.vmv_proof_check.proofs.Lists.{none_in}
use Rattle.vmv_proof_check.proofs.Counting.{none_counted_yet, not_entry, entries_done}
use Rattle.vmv_tree.specs.declared.tree.Param.{Param}
use Rattle.vmv_tree.specs.Tree.{entry, Body}
use Rattle.vmv_check.proofs.Lists.{some_same, within}
use Rattle.vmv_proof_check.proofs.Lists.{item_got}
use Rattle.vmv_proof_check.proofs.Showing.{entry_of, well_next}
use Rattle.vmv_proof_check.specs.Work.{IsCountedBefore}
use Rattle.vmv_proof_check.proofs.Shaping.{names_same, item_there, all_shown, next_shown, next_names}

-- an exclusion that is refused is the first part that fails
pub excluding_refused : (base revision : Resolution) (proof : Proof) (why : ProofRefused) → IsRefusedExclusion base proof.exclusions why → IsWhyRefused base revision proof why
excluding_refused base revision proof Memory told = tt
excluding_refused base revision proof (At (Excluding number) row step) told = told
excluding_refused base revision proof (At (Plain name) row step) told = absurd told
excluding_refused base revision proof (At (Given name) row step) told = absurd told
excluding_refused base revision proof (At Shape row step) told = absurd told

module _ (base : Resolution) (proof : Proof) (checking : Checking) (pass : AllPass base proof.exclusions) (same : checking.shown.now ≡ proof.shown) (cut : IsCutBy proof.exclusions (cond_of checking.cut.now)) where
  well : (s : Shown) → IsWellUnder checking s → IsShownWell checking.revision.now proof.exclusions s
  well s (plain, given) = (plain, (cond_of checking.cut.now, cut, given))

  behind : (s : Shown) → IsShaped checking.revision.now proof.shown → IsShownAt checking s → IsShownBehind base checking.revision.now proof s
  behind s shaped here = record {
    exclusions = pass;
    shape = shaped;
    before = here.before;
    after = here.after;
    parts = sym same ∙ here.parts;
    passed = λ other among. well other (here.passed other among);
  }

  pub shown_refused : (why : ProofRefused) → IsShaped checking.revision.now proof.shown → IsShownRefused checking why → IsWhyRefused base checking.revision.now proof why
  shown_refused Memory shaped told = tt
  shown_refused (At part row step) shaped (s, here, inl (e, failed)) =
      subst (λ (p : Part). IsProofRefused base checking.revision.now proof p row step) (sym e) (s, refl, behind s shaped here, failed)
  shown_refused (At part row step) shaped (s, here, inr (e, passed, failed)) =
      subst (λ (p : Part). IsProofRefused base checking.revision.now proof p row step) (sym e) (s, refl, behind s shaped here, passed, (cond_of checking.cut.now, cut, failed))

  pub all_accepted : (claims : Claims) → IsShaped checking.revision.now proof.shown → AreAllTallied checking claims → IsProofAccepted base checking.revision.now proof claims
  all_accepted claims shaped told = record {
    exclusions = pass;
    shape = shaped;
    shown = λ s among. well s (told.well s (subst (λ (ss : List Shown). Contains ss s) (sym same) among));
    counts = subst (λ (ss : List Shown). AreCounted checking.revision.now ss claims) same told.counted;
  }

-- nothing is checked yet
pub none_tallied : (checking : Checking) (tally : Tally) → tally.next ≡ 0 → tally.claims.clean ≡ 0 → tally.claims.hidden ≡ 0 → tally.claims.left ≡ 0 → IsTallied checking 0 tally
none_tallied checking tally next c h l = record {
  inside = omega (arith, next);
  names = ap (λ (n : ℕ). map (λ (s : Shown). s.entry) (take n checking.shown.now)) next;
  well = λ s among. absurd (none_in s (subst (λ (n : ℕ). Contains (take n checking.shown.now) s) next among));
  counted = none_counted_yet checking.revision.now checking.shown.now tally.claims c h l;
}

-- a procedure that is no entry
pub tallied_other : (checking : Checking) (n : ℕ) (tally : Tally) → n < length (procs_of checking.revision.now) → slice_get (map is_entry (procs_of checking.revision.now)) n ≡ Some false → IsTallied checking n tally → IsTallied checking (n + 1) tally
tallied_other checking n tally inside marked told =
    let x = map_at is_entry (procs_of checking.revision.now) n false marked in
    let there = item_there (procs_of checking.revision.now) n x.0 x.1 in
    record {
      inside = told.inside;
      names = told.names ∙ sym (names_same (procs_of checking.revision.now) n x.0 there.0 there.1 x.2);
      well = told.well;
      counted = not_entry checking.revision.now checking.shown.now n tally.claims marked told.counted;
    }

-- all are checked
pub all_tallied : (checking : Checking) (n : ℕ) (tally : Tally) → IsReady checking → n ≡ length (procs_of checking.revision.now) → IsTallied checking n tally → AreAllTallied checking tally.claims
all_tallied checking n tally ready end told =
    let all = all_shown checking.revision.now checking.shown.now n tally.next ready.shaped told.inside (omega (arith, end)) told.names in
    record {
      well = λ s among. told.well s (subst (λ (ss : List Shown). Contains ss s) (sym all) among);
      counted = entries_done checking.revision.now checking.shown.now n tally.claims end told.counted;
    }

module _ (checking : Checking) (n : ℕ) (tally : Tally) (ready : IsReady checking) (told : IsTallied checking n tally) (marked : slice_get (map is_entry (procs_of checking.revision.now)) n ≡ Some true) where
  abbrev item_here : (x : Item) × (slice_get (procs_of checking.revision.now) n ≡ Some x) × (is_entry x ≡ true)
  item_here = map_at is_entry (procs_of checking.revision.now) n true marked

  shown_here : (s : Shown) × (slice_get checking.shown.now tally.next ≡ Some s) × (s.entry ≡ name_of item_here.0)
  shown_here = next_shown checking.revision.now checking.shown.now n tally.next item_here.0 ready.shaped told.inside told.names item_here.1 item_here.2

  -- something is shown of the entry that comes next
  pub shown_more : tally.next < length checking.shown.now
  shown_more = within checking.shown.now tally.next shown_here.0 shown_here.1

  -- and it is of that entry
  pub entry_here : (s : Shown) → s ≡ get_or checking.shown.now tally.next s → s.entry ≡ name_of item_here.0
  entry_here s is = let e : shown_here.0 ≡ s = some_same (sym shown_here.1 ∙ item_got checking.shown.now tally.next s shown_more is) in subst (λ (t : Shown). t.entry ≡ name_of item_here.0) e shown_here.2

  pub entry_found : (s : Shown) → s ≡ get_or checking.shown.now tally.next s → (params : List Param) × (body : Body) × (slice_get (procs_of checking.revision.now) n ≡ Some (entry s.entry params body))
  entry_found s is = entry_of checking.revision.now n item_here.0 s.entry item_here.1 item_here.2 (sym (entry_here s is))

  -- one more entry is checked and counted
  pub tallied_more : (s : Shown) (new : Tally) → s ≡ get_or checking.shown.now tally.next s → IsWellUnder checking s → IsCountedBefore checking.revision.now checking.shown.now (at (n + 1) 0 1) new.claims → new.next ≡ tally.next + 1 → IsTallied checking (n + 1) new
  tallied_more s new is well counted next =
      let P : ℕ → Type 0 = λ k. (t : Shown) → Contains (take k checking.shown.now) t → IsWellUnder checking t in
      let more = shown_more in
      record {
        inside = omega (arith, more, next);
        names = ap (λ (k : ℕ). map (λ (t : Shown). t.entry) (take k checking.shown.now)) next ∙ next_names checking.revision.now checking.shown.now n tally.next item_here.0 s told.names item_here.1 item_here.2 more is (entry_here s is);
        well = subst P (sym next) (well_next checking checking.shown.now tally.next s more is told.well well);
        counted = counted;
      }
