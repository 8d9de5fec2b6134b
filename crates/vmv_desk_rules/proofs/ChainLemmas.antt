-- Each version of a chain keeps what its root does.
use Rattle.std.proofs.Common.{◌≡◌, ◌==◌, ◌≤◌, ◌<◌, ◌+◌, ℕ, zero, suc, Bool, true, false, List, [], ◌∷◌, length, find, Option, Some, None, IfSome, IsSomeAnd, arith, refl, subst}
use Rattle.std.specs.Option.{option_map}
use Rattle.std.specs.List.{AllByRecursion}
use borrow.Author.Tests.{eqb-true, eqb-false}
use Rattle.vmv_keeper.specs.declared.project.Project.{Project}
use Rattle.vmv_keeper.specs.declared.project.Version.{Version}
use Rattle.vmv_keeper.specs.Judging.{HasVerdict}
use Rattle.vmv_keeper.specs.Formed.{IsProject}
use Rattle.vmv_keeper.specs.Tables.{Tables, is_version, root_number}
use Rattle.vmv_keeper.proofs.FormedReads.{IfSome-find}
use Rattle.vmv_keeper.proofs.ListChanges.{All-weaken}
use Rattle.vmv_desk_rules.specs.Causes.{Meaning, root_text, chain}
use Rattle.vmv_desk_rules.specs.Well.{Well, IsReviewed, IsAccepted, Parses}
use Rattle.vmv_desk_rules.specs.Chain.{KeepsChain, KeepsChains}
use Rattle.vmv_desk_rules.proofs.RootLemmas.{IsBehind, all_behind, all_straight, all_both, all_chain, begun_root, chain_numbers, numbers_below}

-- a number that isn't below another, and isn't that one, is above it
above_of : (a b : ℕ) → a ≤ b → (a ≡ b → ⊥) → a < b
above_of a b le differ = omega (arith, le, differ)

-- the versions behind the root, and the numbers of the chain
pub versions_behind : (J : Meaning) (p : Project) → IsProject p → IsReviewed J p
    → AllByRecursion (IsBehind (root_number p) (root_text p)) p.versions × AllByRecursion (λ v. root_number p ≤ v.row.number) (chain p)
versions_behind J p formed reviewed =
    let any = begun_root p.versions formed.held.opened in (
      all_behind 1 0 p.versions formed.held.numbered any (all_straight p.versions formed.held.opened formed.later) reviewed.against,
      chain_numbers 1 0 p.versions formed.held.numbered any,
    )

module _ (J : Meaning) (Keeps : List ℕ → List ℕ → Type 0)
    (same : (text : List ℕ) → Parses J text → Keeps text text)
    (chained : (a b c : List ℕ) → Keeps a b → Keeps b c → Keeps a c)
    (sound : (a b : List ℕ) → HasVerdict 1 (J.compared a b) → Keeps a b) where
  -- a version from the root on, below a number, keeps what the root does
  abbrev IsKept : ℕ → List ℕ → ℕ → Version → Type 0
  IsKept root text high v = root ≤ v.row.number → v.row.number < high → Keeps text v.text

  -- the version that another was judged against, and that one
  over_found : (root high n : ℕ) (text then : List ℕ) (found : Option Version) → IfSome found (λ w. IsKept root text high w × (is_version n w ≡ true)) → root ≤ n → n < high
      → IsSomeAnd (option_map (λ (w : Version). w.text) found) (λ t. HasVerdict 1 (J.compared t then)) → Keeps text then
  over_found root high n text then None kept low less judged = absurd judged
  over_found root high n text then (Some w) kept low less judged =
      let at = eqb-true w.row.number n kept.1 in
      chained text w.text then (kept.0 (omega (arith, at, low)) (omega (arith, at, less))) (sound w.text then judged)

  one_more : (root high : ℕ) (p : Project) (v : Version) (b : Bool) → (root == v.row.number) ≡ b → AllByRecursion (IsKept root (root_text p) high) p.versions
      → IsBehind root (root_text p) v → Parses J v.text → IsAccepted J p v → root ≤ v.row.number → v.row.number < suc high → Keeps (root_text p) v.text
  one_more root high p v true is kept behind parses accepted low less =
      let text = behind.0 (eqb-true root v.row.number is) in
      let P : List ℕ → Type 0 = λ t. Keeps t v.text in
      subst P text (same v.text parses)
  one_more root high p v false is kept behind parses accepted low less =
      let differ = eqb-false root v.row.number is in
      let above : root < v.row.number = above_of root v.row.number low differ in
      let judged = behind.1 above in
      over_found root high v.row.against (root_text p) v.text (find (is_version v.row.against) p.versions)
      (IfSome-find (IsKept root (root_text p) high) (is_version v.row.against) p.versions kept) judged.1 (omega (arith, judged.2, less)) (accepted judged.0)

  kept_below : (root high : ℕ) (p : Project) → AllByRecursion (λ v. IsBehind root (root_text p) v × (Parses J v.text × IsAccepted J p v)) p.versions
      → AllByRecursion (IsKept root (root_text p) high) p.versions
  kept_below root zero p all =
      All-weaken (λ v. IsBehind root (root_text p) v × (Parses J v.text × IsAccepted J p v)) (IsKept root (root_text p) zero) (λ v h low less. absurd (omega (arith, less))) p.versions all
  kept_below root (suc high) p all =
      let kept = kept_below root high p all in
      All-weaken (λ v. IsBehind root (root_text p) v × (Parses J v.text × IsAccepted J p v)) (IsKept root (root_text p) (suc high))
      (λ v h low less. one_more root high p v (root == v.row.number) refl kept h.0 h.1.0 h.1.1 low less) p.versions all

  -- each version from the root on keeps what the root does
  pub versions_kept : (p : Project) → IsProject p → IsReviewed J p → AllByRecursion (λ v. root_number p ≤ v.row.number → Keeps (root_text p) v.text) p.versions
  versions_kept p formed reviewed =
      let root = root_number p in
      let text = root_text p in
      let facts = all_both (IsBehind root text) (λ v. Parses J v.text × IsAccepted J p v) p.versions (versions_behind J p formed reviewed).0
      (all_both (λ v. Parses J v.text) (IsAccepted J p) p.versions reviewed.texts reviewed.accepted) in
      let high = 1 + length p.versions in
      let kept = kept_below root high p facts in
      let low = numbers_below high 1 p.versions (omega arith) formed.held.numbered in
      All-weaken (λ v. IsKept root text high v × (v.row.number < high)) (λ v. root ≤ v.row.number → Keeps text v.text) (λ v h at. h.0 at h.1) p.versions
      (all_both (IsKept root text high) (λ v. v.row.number < high) p.versions kept low)

  chain_kept : (p : Project) → IsProject p → IsReviewed J p → KeepsChain Keeps p
  chain_kept p formed reviewed =
      let root = root_number p in
      let text = root_text p in
      All-weaken (λ v. (root ≤ v.row.number) × (root ≤ v.row.number → Keeps text v.text)) (λ v. Keeps text v.text) (λ v h. h.1 h.0) _
      (all_both (λ v. root ≤ v.row.number) (λ v. root ≤ v.row.number → Keeps text v.text) _ (versions_behind J p formed reviewed).1
      (all_chain (λ v. root ≤ v.row.number → Keeps text v.text) p.versions (versions_kept p formed reviewed)))

  projects_keep : (ps : List Project) → AllByRecursion IsProject ps → AllByRecursion (IsReviewed J) ps → AllByRecursion (KeepsChain Keeps) ps
  projects_keep [] formed reviewed = tt
  projects_keep (p ∷ ps) formed reviewed = (chain_kept p formed.0 reviewed.0, projects_keep ps formed.1 reviewed.1)

  pub chains_kept : (tables : Tables) → Well J tables → KeepsChains Keeps tables
  chains_kept tables well = projects_keep tables.projects well.formed.each well.reviewed
