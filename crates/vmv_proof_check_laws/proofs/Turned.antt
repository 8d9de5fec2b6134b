-- Each part of a proof turns out in one way.
use Rattle.std.proofs.Common.{◌≡◌, inl, inr, ℕ, List, slice_get, take, refl, sym, ap, subst, ◌∙◌}
use Rattle.std.specs.Prelude.{⊤}
use Rattle.vmv_tree.specs.declared.name.Name.{Name}
use Rattle.vmv_tree.specs.declared.tree.Param.{Param}
use Rattle.vmv_tree.specs.Tree.{entry}
use Rattle.vmv_tree.specs.Valid.{Valid}
use Rattle.vmv_cond.specs.declared.cond.Cond.{Cond}
use Rattle.vmv_cond.specs.declared.cond.Piece.{Piece}
use Rattle.vmv_cond.specs.Cond.{Holds, IsSubset}
use Rattle.vmv_cond.proofs.Same.{same_words}
use Rattle.vmv_snapshot.specs.Resolution.{Resolution, tree_of, procs_of}
use Rattle.vmv_assumption.specs.Assumed.{Assumed}
use Rattle.vmv_assumption.specs.Change.{IsKept}
use Rattle.vmv_assumption.specs.Whole.{whole}
use Rattle.vmv_assumption.proofs.Names.{by_name}
use Rattle.vmv_cert.specs.declared.row.Row.{Row}
use Rattle.vmv_cert.specs.declared.row.Reach.TheVariants.{Bottom}
use Rattle.vmv_cert.specs.Tables.{Accepted, IsRefused, ranges_of}
use Rattle.vmv_check.proofs.Above.{procs_once}
use Rattle.vmv_check.proofs.Lists.{some_same}
use Rattle.vmv_check.proofs.Orders.{name_at}
use Rattle.vmv_proof.specs.declared.proof.Exclusion.{Exclusion}
use Rattle.vmv_proof.specs.declared.proof.Shown.{Shown}
use Rattle.vmv_proof_check.specs.Cuts.{IsCutBy, IsJudgedUnder}
use Rattle.vmv_proof_check.specs.Parts.{Turn, passes, fails, HasRow, IsNamedEntry, IsTried, ExclusionTurns, IsTableTried, PlainTurns, GivenTurns}

-- exclusions leave one assumption
cut_once : (cuts : List Exclusion) (a b : Assumed) → IsCutBy cuts a → IsCutBy cuts b → a ≡ b
cut_once cuts a b h g = λ i name. same_words (a name) (b name) (λ w p. (g name w).1 ((h name w).0 p)) (λ w p. (h name w).1 ((g name w).0 p)) i

moved : (a b : Cond) → a ≡ b → IsSubset a b
moved a b e w h = subst (λ (c : Cond). Holds c w) e h

kept_within : (a b c : Assumed) (f : Name) (piece : Piece) → IsKept a f piece b → IsKept a f piece c → (name : Name) → IsSubset (b name) (c name)
kept_within a b c f piece k l =
    by_name {P = λ name. IsSubset (b name) (c name)} f (λ w h. (l.there w).1 ((k.there w).0 h))
    (λ name other. moved (b name) (c name) (k.elsewhere name other ∙ sym (l.elsewhere name other)))

kept_once : (a b c : Assumed) (f : Name) (piece : Piece) → IsKept a f piece b → IsKept a f piece c → b ≡ c
kept_once a b c f piece k l = λ i name. same_words (b name) (c name) (kept_within a b c f piece k l name) (kept_within a c b f piece l k name) i

-- an exclusion is judged under one assumption
judged_once : (before : List Exclusion) (x : Exclusion) (a b : Assumed) → IsJudgedUnder before x a → IsJudgedUnder before x b → a ≡ b
judged_once before x a b (c, cut, kept) (d, cut', kept') =
    let same = cut_once (take x.under before) c d cut cut' in
    kept_once d a b x.name x.piece (subst (λ (z : Assumed). IsKept z x.name x.piece a) same kept) kept'

-- one entry has the name
entry_once : (program : Resolution) (name : Name) (m n : ℕ) (ps qs : List Param) → Valid (tree_of program) → IsNamedEntry program name m ps → IsNamedEntry program name n qs → (m ≡ n) × (ps ≡ qs)
entry_once program name m n ps qs valid (body, at) (body', at') =
    let place : m ≡ n =
    procs_once (tree_of program) valid m n name (name_at program m (entry name ps body) name at refl) (name_at program n (entry name qs body') name at' refl) in
    let same : entry name ps body ≡ entry name qs body' = some_same (sym at ∙ (ap (slice_get (procs_of program)) place ∙ at')) in
    (place, cc)

-- a table is accepted, or refused at one row and step
pub record TablesHaveOneAnswer : Type 0 where
  pub apart : (program : Resolution) (assumed : Assumed) (rows : List Row) (number step : ℕ) → Valid (tree_of program) → Accepted program assumed rows → IsRefused program assumed rows number step → ⊥
  pub once : (program : Resolution) (assumed : Assumed) (rows : List Row) (m n s t : ℕ) → Valid (tree_of program) → IsRefused program assumed rows m s → IsRefused program assumed rows n t → (m ≡ n) × (s ≡ t)

module _ (law : TablesHaveOneAnswer) where
  -- a table turns out in one way
  tried_once : (program : Resolution) (assumed : Assumed) (rows : List Row) (Has : List Row → Type 0) (t u : Turn) → Valid (tree_of program) → IsTried program assumed rows Has t → IsTried program assumed rows Has u → t ≡ u
  tried_once program assumed rows Has passes passes valid h g = refl
  tried_once program assumed rows Has passes (fails n t) valid h (inl r) = absurd (law.apart program assumed rows n t valid h.0 r)
  tried_once program assumed rows Has passes (fails n t) valid h (inr none) = absurd (none.1 h.1)
  tried_once program assumed rows Has (fails m s) passes valid (inl r) g = absurd (law.apart program assumed rows m s valid g.0 r)
  tried_once program assumed rows Has (fails m s) passes valid (inr none) g = absurd (none.1 g.1)
  tried_once program assumed rows Has (fails m s) (fails n t) valid (inl a) (inl b) = let e = law.once program assumed rows m n s t valid a b in (λ i. fails (e.0 i) (e.1 i))
  tried_once program assumed rows Has (fails m s) (fails n t) valid (inl a) (inr b) = absurd (law.apart program assumed rows m s valid b.0 a)
  tried_once program assumed rows Has (fails m s) (fails n t) valid (inr a) (inl b) = absurd (law.apart program assumed rows n t valid a.0 b)
  tried_once program assumed rows Has (fails m s) (fails n t) valid (inr a) (inr b) = let row = a.2 ∙ sym b.2 in let step = a.3 ∙ sym b.3 in (λ i. fails (row i) (step i))

  -- an exclusion turns out in one way behind those before it
  pub exclusion_once : (base : Resolution) (before : List Exclusion) (x : Exclusion) (t u : Turn) → Valid (tree_of base) → ExclusionTurns base before x t → ExclusionTurns base before x u → t ≡ u
  exclusion_once base before x t u valid (inl a) (inl b) = a.1 ∙ sym b.1
  exclusion_once base before x t u valid (inl a) (inr (head, tried)) = absurd (a.0 head)
  exclusion_once base before x t u valid (inr (head, tried)) (inl b) = absurd (b.0 head)
  exclusion_once base before x t u valid (inr (head, (a, judged, tried))) (inr (head', (b, judged', tried'))) =
      let same = judged_once before x a b judged judged' in
      let place = (entry_once base x.entry head.number head'.number head.params head'.params valid head.entry_is head'.entry_is).0 in
      let Needs : ℕ → List Row → Type 0 = λ n. HasRow base n x.within (λ row. row.result ≡ Bottom) in
      let there = subst (λ (z : Assumed). IsTried base z x.table.rows (Needs head.number) t) same tried in
      tried_once base b x.table.rows (Needs head'.number) t u valid (subst (λ (n : ℕ). IsTried base b x.table.rows (Needs n) t) place there) tried'

  -- so does a table of an entry
  table_once : (revision : Resolution) (a b : Assumed) (name : Name) (rows : List Row) (t u : Turn) → Valid (tree_of revision) → a ≡ b → IsTableTried revision a name rows t → IsTableTried revision b name rows u → t ≡ u
  table_once revision a b name rows t u valid same (m, ps, its, tried) (n, qs, its', tried') =
      let place = entry_once revision name m n ps qs valid its its' in
      let Needs : ℕ → List Param → List Row → Type 0 = λ k xs. HasRow revision k (ranges_of xs) (λ row. ⊤) in
      let one = subst (λ (z : Assumed). IsTried revision z rows (Needs m ps) t) same tried in
      let two = subst (λ (k : ℕ). IsTried revision b rows (Needs k ps) t) place.0 one in
      tried_once revision b rows (Needs n qs) t u valid (subst (λ (xs : List Param). IsTried revision b rows (Needs n xs) t) place.1 two) tried'

  pub plain_once : (revision : Resolution) (s : Shown) (t u : Turn) → Valid (tree_of revision) → PlainTurns revision s t → PlainTurns revision s u → t ≡ u
  plain_once revision s t u valid h g = table_once revision (λ name. whole) (λ name. whole) s.entry s.plain.rows t u valid refl h g

  pub given_once : (revision : Resolution) (cuts : List Exclusion) (s : Shown) (t u : Turn) → Valid (tree_of revision) → GivenTurns revision cuts s t → GivenTurns revision cuts s u → t ≡ u
  given_once revision cuts s t u valid (a, cut, h) (b, cut', g) = table_once revision a b s.entry s.given.rows t u valid (cut_once cuts a b cut cut') h g
