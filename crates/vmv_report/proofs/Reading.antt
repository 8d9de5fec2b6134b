-- What tables that have been made tell of an entry.
use Rattle.std.proofs.Common.{◌≡◌, ◌↔◌, inl, inr, ⊎_elim, ℕ, zero, suc, ◌+◌, Bool, true, false, Option, Some, None, IfSome, IfNone, Bor, List, [], ◌∷◌, map, slice_get, sym, ap, subst, ◌∙◌, arith}
use Rattle.std.specs.List.{AllZip, Contains}
use Rattle.vmv_tree.specs.declared.ends.NameEnds.{NameEnds}
use Rattle.vmv_tree.specs.declared.name.Name.{Name}
use Rattle.vmv_tree.specs.declared.site.NamedSite.{NamedSite}
use Rattle.vmv_tree.specs.declared.tree.Param.{Param}
use Rattle.vmv_tree.specs.Run.{name_of}
use Rattle.vmv_snapshot.specs.Procs.{is_entry}
use Rattle.vmv_snapshot.specs.Resolution.{Resolution, IsResolution, tree_of, procs_of}
use Rattle.vmv_assumption.specs.Assumed.{Assumed}
use Rattle.vmv_cert.specs.declared.row.Row.{Row}
use Rattle.vmv_cert.specs.Tables.{Box, IsEntry, ranges_of, Provable, AreSitesOf, Passes, WalksRow}
use Rattle.vmv_cert.specs.Walk.{goes, fails}
use Rattle.vmv_check.proofs.Above.{procs_once}
use Rattle.vmv_enough.proofs.Lists.{mapped_at}
use Rattle.vmv_forward.specs.Least.{IsLeastTable, IsFirst}
use Rattle.vmv_need.specs.Candidates.{entries_from}
use Rattle.vmv_need.proofs.Lists.{none_in, first_in, later_in, first_or_later}
use Rattle.vmv_proof.specs.declared.proof.Shown.{Shown}
use Rattle.vmv_proving.specs.Shown.{IsShownOf, AreShown}
use Rattle.vmv_report.specs.Work.{AreUnproved}

some_same : {X : Type 0} {x y : X} → Some x ≡ Some y → x ≡ y
some_same e = cc

-- the partner of an element of the first list
pub right_of : {A B : Type 0} (R : A → B → Type 0) (xs : List A) (ys : List B) (x : A) → AllZip R xs ys → Contains xs x → (y : B) × Contains ys y × R x y
right_of R [] ys x all there = absurd (none_in x there)
right_of R (z ∷ xs) [] x all there = absurd all
right_of R (z ∷ xs) (w ∷ ys) x all there = ⊎_elim
    (λ (e : z ≡ x). (w, first_in w ys, subst (λ a. R a w) e all.0))
    (λ (later : Contains xs x). let more = right_of R xs ys x all.1 later in (more.0, later_in w ys more.0 more.1, more.2))
    (first_or_later z xs x there)

-- the partner of an element of the second
pub left_of : {A B : Type 0} (R : A → B → Type 0) (xs : List A) (ys : List B) (y : B) → AllZip R xs ys → Contains ys y → (x : A) × Contains xs x × R x y
left_of R xs [] y all there = absurd (none_in y there)
left_of R [] (w ∷ ys) y all there = absurd all
left_of R (z ∷ xs) (w ∷ ys) y all there = ⊎_elim
    (λ (e : w ≡ y). (z, first_in z xs, subst (λ b. R z b) e all.0))
    (λ (later : Contains ys y). let more = left_of R xs ys y all.1 later in (more.0, later_in z xs more.0 more.1, more.2))
    (first_or_later w ys y there)

-- the number of an entry is among those of the entries
pub entry_among : (k : ℕ) (flags : List Bool) (j : ℕ) → slice_get flags j ≡ Some true → Contains (entries_from k flags) (k + j)
entry_among k [] j e = absurd (cc)
entry_among k (true ∷ flags) zero e = let same : k ≡ k + 0 = omega arith in subst (λ n. Contains (entries_from k (true ∷ flags)) n) same (first_in k (entries_from (k + 1) flags))
entry_among k (false ∷ flags) zero e = absurd (cc)
entry_among k (true ∷ flags) (suc j) e =
    let same : k + 1 + j ≡ k + suc j = omega arith in
    later_in k (entries_from (k + 1) flags) (k + suc j) (subst (λ n. Contains (entries_from (k + 1) flags) n) same (entry_among (k + 1) flags j e))
entry_among k (false ∷ flags) (suc j) e =
    let same : k + 1 + j ≡ k + suc j = omega arith in
    subst (λ n. Contains (entries_from (k + 1) flags) n) same (entry_among (k + 1) flags j e)

module _ (revision : Resolution) (ends : List NameEnds) (needed : Assumed) (shown : List Shown) (are : AreShown revision ends needed shown) (n : ℕ) (name : Name) (named : slice_get (map name_of (procs_of revision)) n ≡ Some name) where
  -- an entry has tables under its name
  pub some_shown : slice_get (map is_entry (procs_of revision)) n ≡ Some true → (own : Shown) × Contains shown own × (own.entry ≡ name)
  some_shown flag =
      let zero_more : 0 + n ≡ n = omega arith in
      let among = subst (λ k. Contains (entries_from 0 (map is_entry (procs_of revision))) k) zero_more (entry_among 0 (map is_entry (procs_of revision)) n flag) in
      let found = right_of (IsShownOf revision ends needed) (entries_from 0 (map is_entry (procs_of revision))) shown n are among in
      (found.0, found.1, some_same (sym found.2.named ∙ named))

  -- those under its name are its own
  pub own_shown : IsResolution revision → (own : Shown) → Contains shown own → own.entry ≡ name → IsShownOf revision ends needed n own
  own_shown is own there same =
      let found = left_of (IsShownOf revision ends needed) (entries_from 0 (map is_entry (procs_of revision))) shown own are there in
      let number : found.0 ≡ n = procs_once (tree_of revision) is.valid found.0 n name (found.2.named ∙ ap Some same) named in
      subst (λ k. IsShownOf revision ends needed k own) number found.2

-- what is told where tables are found, and where none are
pub of_found : (shown : List Shown) (name : Name) (o : Option (Bor Shown)) (own : Bor Shown) → IfSome o (λ s. Contains shown s.now × (s.now.entry ≡ name)) → o ≡ Some own → Contains shown own.now × (own.now.entry ≡ name)
of_found shown name (Some s) own h e =
    let same : s ≡ own = cc in
    let P : Bor Shown → Type 0 = λ x. Contains shown x.now × (x.now.entry ≡ name) in
    subst P same h
of_found shown name None own h e = absurd (cc)

pub of_none : {A P : Type 0} (o : Option A) → IfNone o P → o ≡ None → P
of_none (Some a) h e = absurd (cc)
of_none None h e = h

-- a least table has a first row, which tells what is provable
abbrev pub HaveRows : Type 0
HaveRows = (program : Resolution) (number : ℕ) (box : Box) (ends : List NameEnds) (assumed : Assumed) (rows : List Row) → IsLeastTable program number box ends assumed rows → (first : Row) × (rest : List Row) × (rows ≡ first ∷ rest) × IsFirst program number first

abbrev pub DecideProof : Type 0
DecideProof = (program : Resolution) (number : ℕ) (params : List Param) (ends : List NameEnds) (assumed : Assumed) (first : Row) (rest : List Row) (site : NamedSite) → IsResolution program → IsEntry program number params →
    IsLeastTable program number (ranges_of params) ends assumed (first ∷ rest) → Provable program number ends assumed site ↔ (Contains first.unproved site → ⊥)

-- an accepted row lists sites that its procedure reaches
row_sites : (program : Resolution) (n : ℕ) (assumed : Assumed) (rows : List Row) (row : Row) → IsResolution program → Passes program assumed rows row → IsFirst program n row → AreSitesOf program n row.unproved
row_sites program n assumed rows row is (z, walks) first = by walks
  where
    stuck : goes z ≡ fails 0 → ⊥
    stuck e = cc

    by : WalksRow (record { program = program; assumed = assumed; rows = rows; row = row }) (goes z) → AreSitesOf program n row.unproved
    by (inl x) = absurd (stuck x.1)
    by (inr (m, item, code, formed, body)) =
        let named : slice_get (map name_of (procs_of program)) m ≡ Some row.proc = mapped_at name_of (procs_of program) m item formed.place ∙ ap Some formed.named in
        let number : m ≡ n = procs_once (tree_of program) is.valid m n row.proc named first in
        subst (λ (k : ℕ). AreSitesOf program k row.unproved) number formed.sites

pub unproved_by : HaveRows → DecideProof → (program : Resolution) (n : ℕ) (params : List Param) (ends : List NameEnds) (assumed : Assumed) (rows : List Row) (sites : List NamedSite) → IsResolution program → IsEntry program n params →
    IsLeastTable program n (ranges_of params) ends assumed rows → ((first : Row) (rest : List Row) → rows ≡ first ∷ rest → sites ≡ first.unproved) → AreUnproved program n ends assumed sites
unproved_by have decide program n params ends assumed rows sites is entry least lists = record {
  decides = λ site.
      let x = have program n (ranges_of params) ends assumed rows least in
      let law = decide program n params ends assumed x.0 x.1 site is entry (subst (λ (rs : List Row). IsLeastTable program n (ranges_of params) ends assumed rs) x.2 least) in
      subst (λ (ss : List NamedSite). Provable program n ends assumed site ↔ (Contains ss site → ⊥)) (sym (lists x.0 x.1 x.2)) law;
  sites =
      let x = have program n (ranges_of params) ends assumed rows least in
      let there : Contains rows x.0 = subst (λ (rs : List Row). Contains rs x.0) (sym x.2) (first_in x.0 x.1) in
      subst (λ (ss : List NamedSite). AreSitesOf program n ss) (sym (lists x.0 x.1 x.2)) (row_sites program n assumed rows x.0 is (least.accepted x.0 there) x.3);
}
