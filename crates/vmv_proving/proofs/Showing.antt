-- The tables of entries, one entry after the other.
use Rattle.std.proofs.Common.{◌≡◌, ℕ, ◌+◌, true, false, Bool, Some, List, [], ◌∷◌, ◌++◌, length, map, take, slice_get, sym, ap, subst, ◌∙◌, arith, length-take}
use Rattle.std.specs.List.{AllZip}
use Rattle.std.proofs.lemmas.Option.{slice_get_within}
use Rattle.vmv_tree.specs.declared.ends.NameEnds.{NameEnds}
use Rattle.vmv_tree.specs.declared.name.Name.{Name}
use Rattle.vmv_cond.specs.declared.cond.Cond.{Cond}
use Rattle.vmv_snapshot.specs.Procs.{is_entry}
use Rattle.vmv_snapshot.specs.Resolution.{Resolution, procs_of}
use Rattle.vmv_assumption.specs.Whole.{whole}
use Rattle.vmv_assumption.specs.Assumed.{Assumed, cond_of}
use Rattle.vmv_cert.specs.declared.row.Row.{Row}
use Rattle.vmv_cert.specs.Tables.{Box}
use Rattle.vmv_forward.specs.Least.{IsLeastTable}
use Rattle.vmv_need.specs.Candidates.{entries_from}
use Rattle.vmv_need.proofs.First.{take_more, entries_push, entries_skip, all_flags}
use Rattle.vmv_proof.specs.declared.proof.Shown.{Shown}
use Rattle.vmv_proving.specs.Shown.{IsShownOf, AreShown}
use Rattle.vmv_proving.specs.Work.{IsWhole, AreShownBefore}
use Rattle.vmv_proving.proofs.Telling.{zip_push}

-- a least table of an equal box under equal conditions
pub least_as : (program : Resolution) (n : ℕ) (ends : List NameEnds) (box box' : Box) (a b : Assumed) (rows : List Row) → box ≡ box' → a ≡ b → IsLeastTable program n box ends a rows → IsLeastTable program n box' ends b rows
least_as program n ends box box' a b rows e f least =
    let P : Box → Type 0 = λ it. IsLeastTable program n it ends a rows in
    let Q : Assumed → Type 0 = λ it. IsLeastTable program n box' ends it rows in
    subst Q f (subst P e least)

-- conditions that are whole for each name
pub all_whole : (held : List (Name × Cond)) → IsWhole held → cond_of held ≡ (λ name. whole)
all_whole held is = λ i name. is name i

module _ (revision : Resolution) (ends : List NameEnds) (needed : Assumed) where
  pub none_shown : (shown : List Shown) → shown ≡ [] → AreShownBefore revision ends needed 0 shown
  none_shown shown none = subst (λ (ss : List Shown). AreShownBefore revision ends needed 0 ss) (sym none) tt

  pub one_shown : (n : ℕ) (old new : List Shown) (s : Shown) → AreShownBefore revision ends needed n old → new ≡ old ++ s ∷ [] → slice_get (map is_entry (procs_of revision)) n ≡ Some true → IsShownOf revision ends needed n s →
      AreShownBefore revision ends needed (n + 1) new
  one_shown n old new s shown pushed flag is =
      let fs : List Bool = map is_entry (procs_of revision) in
      let place : length (take n fs) ≡ n = let k = slice_get_within fs n true flag in omega (arith, length-take n fs) in
      let same : entries_from 0 (take (n + 1) fs) ≡ entries_from 0 (take n fs) ++ n ∷ [] =
      ap (entries_from 0) (take_more fs n true flag) ∙ entries_push 0 (take n fs) ∙ ap (λ (k : ℕ). entries_from 0 (take n fs) ++ k ∷ []) (omega (arith, place)) in
      let all = zip_push (IsShownOf revision ends needed) (entries_from 0 (take n fs)) old n s shown is in
      subst (λ (ss : List Shown). AreShownBefore revision ends needed (n + 1) ss) (sym pushed)
      (subst (λ (ns : List ℕ). AllZip (IsShownOf revision ends needed) ns (old ++ s ∷ [])) (sym same) all)

  pub none_more : (n : ℕ) (shown : List Shown) → AreShownBefore revision ends needed n shown → slice_get (map is_entry (procs_of revision)) n ≡ Some false → AreShownBefore revision ends needed (n + 1) shown
  none_more n shown before flag =
      let fs : List Bool = map is_entry (procs_of revision) in
      let same : entries_from 0 (take (n + 1) fs) ≡ entries_from 0 (take n fs) = ap (entries_from 0) (take_more fs n false flag) ∙ entries_skip 0 (take n fs) in
      subst (λ (ns : List ℕ). AllZip (IsShownOf revision ends needed) ns shown) (sym same) before

  pub all_of_them : (n : ℕ) (shown : List Shown) → n ≡ length (procs_of revision) → AreShownBefore revision ends needed n shown → AreShown revision ends needed shown
  all_of_them n shown end before =
      let last = subst (λ (k : ℕ). AreShownBefore revision ends needed k shown) end before in
      subst (λ (fs : List Bool). AllZip (IsShownOf revision ends needed) (entries_from 0 fs) shown) (all_flags revision) last
