-- Places of rows, and how they stand to one another.
use Rattle.std.proofs.Common.{◌≡◌, ◌⊎◌, inl, inr, ⊎_elim, ℕ, zero, suc, ◌+◌, ◌<◌, ◌≤◌, true, false, Some, List, length, map, slice_get, refl, sym, ap, subst, arith, ◌∙◌}
use Rattle.vmv_tree.specs.declared.tree.Param.{Param}
use Rattle.vmv_tree.specs.Tree.{entry}
use Rattle.vmv_snapshot.specs.Procs.{is_entry}
use Rattle.vmv_snapshot.specs.Reaches.{Reaches}
use Rattle.vmv_snapshot.specs.Resolution.{Resolution, tree_of, procs_of}
use Rattle.vmv_snapshot.specs.Tables.{body_sites}
use Rattle.vmv_snapshot.proofs.Links.{map_at}
use Rattle.vmv_cert.specs.Tables.{IsEntry}
use Rattle.vmv_check.proofs.Lists.{some_same, within}
use Rattle.vmv_proof_check.proofs.Entries.{some_entry}
use Rattle.vmv_cert.specs.Places.{Place, IsPlace, IsBefore}
use Rattle.vmv_proof_check.specs.Work.{at}

pub below_or_same : (i k : ℕ) → i < k + 1 → (i < k) ⊎ (i ≡ k)
below_or_same zero zero h = inr refl
below_or_same zero (suc k) h = inl (omega arith)
below_or_same (suc i) zero h = absurd (omega (arith, h))
below_or_same (suc i) (suc k) h = ⊎_elim (λ (l : i < k). inl (omega (arith, l))) (λ (e : i ≡ k). inr (ap suc e)) (below_or_same i k (omega (arith, h)))

-- a procedure of another mark is no entry
pub no_entry_is : (program : Resolution) (n : ℕ) (params : List Param) → slice_get (map is_entry (procs_of program)) n ≡ Some false → IsEntry program n params → ⊥
no_entry_is program n params marked (name, body, e) =
    let x = map_at is_entry (procs_of program) n false marked in
    let same : x.0 ≡ entry name params body = some_same (sym x.1 ∙ e) in
    let m : is_entry x.0 ≡ true = ap is_entry same in
    absurd (cc)

pub entry_within : (program : Resolution) (n : ℕ) (params : List Param) → IsEntry program n params → n < length (procs_of program)
entry_within program n params (name, body, e) = within (procs_of program) n (entry name params body) e

pub proc_within : (program : Resolution) (p : Place) → IsPlace program p → p.proc < length (procs_of program)
proc_within program p is = within (procs_of program) p.proc is.item is.proc

-- a site of a place is one of the procedure of this number, which has so many
pub site_within : (program : Resolution) (p : Place) (m last : ℕ) → IsPlace program p → slice_get (map body_sites (procs_of program)) m ≡ Some last → p.proc ≡ m → p.index ≤ last
site_within program p m last is count e =
    let x = map_at body_sites (procs_of program) m last count in
    let there : slice_get (procs_of program) m ≡ Some is.item = subst (λ (k : ℕ). slice_get (procs_of program) k ≡ Some is.item) e is.proc in
    let same : x.0 ≡ is.item = some_same (sym x.1 ∙ there) in
    let n : body_sites is.item ≡ last = ap body_sites (sym same) ∙ x.2 in
    omega (arith, is.to, n)

pub place_is : (program : Resolution) (n m k count : ℕ) → slice_get (map is_entry (procs_of program)) n ≡ Some true → slice_get (map body_sites (procs_of program)) m ≡ Some count → Reaches (tree_of program) n m →
    1 ≤ k → k ≤ count → IsPlace program (at n m k)
place_is program n m k count marked counted reached from to =
    let e = some_entry program n marked in
    let x = map_at body_sites (procs_of program) m count counted in
    let last = x.2 in
    record { params = e.0; entry = e.1; item = x.0; proc = x.1; reached = reached; from = from; to = omega (arith, to, last) }

-- behind the last site of a procedure stand those of the next procedure
pub after_sites : (n m last : ℕ) (q : Place) → 1 ≤ q.index → (q.entry ≡ n → q.proc ≡ m → q.index ≤ last) → IsBefore q (at n (m + 1) 1) → IsBefore q (at n m (last + 1))
after_sites n m last q one few (inl h) = inl h
after_sites n m last q one few (inr (e, inl h)) =
    ⊎_elim (λ (l : q.proc < m). inr (e, inl l)) (λ (s : q.proc ≡ m). let f = few e s in inr (e, inr (s, omega (arith, f)))) (below_or_same q.proc m h)
after_sites n m last q one few (inr (e, inr (s, h))) = absurd (omega (arith, one, h))

pub before_sites : (n m last : ℕ) (q : Place) → IsBefore q (at n m last) → IsBefore q (at n (m + 1) 1)
before_sites n m last q (inl h) = inl h
before_sites n m last q (inr (e, inl h)) = inr (e, inl (omega (arith, h)))
before_sites n m last q (inr (e, inr (s, h))) = inr (e, inl (omega (arith, s)))

-- behind the last procedure of an entry stand the places of the next entry
pub after_procs : (n count : ℕ) (q : Place) → 1 ≤ q.index → (q.entry ≡ n → q.proc < count) → IsBefore q (at (n + 1) 0 1) → IsBefore q (at n count 1)
after_procs n count q one few (inl h) = ⊎_elim (λ (l : q.entry < n). inl l) (λ (e : q.entry ≡ n). inr (e, inl (few e))) (below_or_same q.entry n h)
after_procs n count q one few (inr (e, inl h)) = absurd (omega (arith, h))
after_procs n count q one few (inr (e, inr (s, h))) = absurd (omega (arith, one, h))

pub before_procs : (n count : ℕ) (q : Place) → IsBefore q (at n count 1) → IsBefore q (at (n + 1) 0 1)
before_procs n count q (inl h) = inl (omega (arith, h))
before_procs n count q (inr (e, h)) = inl (omega (arith, e))

-- the place itself stands before the next number, and so does what stands before it
pub itself_before : (n m k : ℕ) → IsBefore (at n m k) (at n m (k + 1))
itself_before n m k = inr (refl, inr (refl, omega arith))

pub still_before : (n m k : ℕ) (q : Place) → IsBefore q (at n m k) → IsBefore q (at n m (k + 1))
still_before n m k q (inl h) = inl h
still_before n m k q (inr (e, inl h)) = inr (e, inl h)
still_before n m k q (inr (e, inr (s, h))) = inr (e, inr (s, omega (arith, h)))

pub before_or_itself : (n m k : ℕ) (q : Place) → IsBefore q (at n m (k + 1)) → IsBefore q (at n m k) ⊎ (q ≡ at n m k)
before_or_itself n m k q (inl h) = inl (inl h)
before_or_itself n m k q (inr (e, inl h)) = inl (inr (e, inl h))
before_or_itself n m k q (inr (e, inr (s, h))) =
    ⊎_elim (λ (l : q.index < k). inl (inr (e, inr (s, l)))) (λ (i : q.index ≡ k). inr (same_place q e s i)) (below_or_same q.index k h)
  where
    same_place : (q : Place) → q.entry ≡ n → q.proc ≡ m → q.index ≡ k → q ≡ at n m k
    same_place q e s i = λ t. record { entry = e t; proc = s t; index = i t }
