-- Rows that are counted in the order of their places.
use Rattle.std.proofs.Common.{◌≡◌, inl, inr, ⊎_elim, ℕ, ◌+◌, ◌-◌, ◌*◌, ◌<◌, ◌≤◌, Bool, true, false, Some, List, [], ◌∷◌, ◌++◌, length, map, count_by, slice_get, unwrap_or, refl, sym, ap, subst, arith, ◌∙◌}
use Rattle.std.specs.List.{Contains}
use Rattle.std.proofs.lemmas.List.Quantifiers.{all_pairs_push}
use Rattle.vmv_snapshot.specs.Procs.{is_entry}
use Rattle.vmv_snapshot.specs.Reaches.{Reaches}
use Rattle.vmv_snapshot.specs.Resolution.{Resolution, IsResolution, tree_of, procs_of}
use Rattle.vmv_snapshot.specs.Tables.{body_sites}
use Rattle.vmv_snapshot.proofs.Links.{map_at}
use Rattle.vmv_cert.specs.Tables.{IsEntry}
use Rattle.vmv_cert.specs.Places.{Place, IsPlace, IsBefore}
use Rattle.vmv_check.proofs.Lists.{push_in, old_in, new_in, all_of}
use Rattle.vmv_proof.specs.declared.proof.Shown.{Shown}
use Rattle.vmv_proof_check.specs.declared.claims.Claims.{Claims}
use Rattle.vmv_proof_check.specs.Counts.{Standing, clean, hidden, left, StandsAs, is_clean, is_hidden, is_left, AreCounted}
use Rattle.vmv_proof_check.specs.Work.{at, one_if, IsOneMore, IsCountedBefore}
use Rattle.vmv_tree.specs.declared.name.Name.{Name}
use Rattle.vmv_tree.specs.declared.site.NamedSite.{NamedSite}
use Rattle.vmv_tree.specs.Run.{name_of}
use Rattle.vmv_check.proofs.Orders.{map_within}
use Rattle.vmv_cert.specs.Places.{site_at}
use Rattle.vmv_proof_check.specs.declared.tally.Lists.{Lists}
use Rattle.vmv_proof_check.specs.Work.{AreListsFor, IsListedAs}
use Rattle.vmv_proof_check.proofs.Lists.{none_in, count_one}
use Rattle.vmv_proof_check.proofs.Bounds.{few_sites, few_procs}
use Rattle.vmv_proof_check.proofs.Placing.{no_entry_is, entry_within, proc_within, site_within, after_sites, before_sites, after_procs, before_procs, itself_before, still_before, before_or_itself}

abbrev Told : Type 0
Told = Place × Standing

-- no row stands before the first place
pub none_counted_yet : (revision : Resolution) (shown : List Shown) (claims : Claims) → claims.clean ≡ 0 → claims.hidden ≡ 0 → claims.left ≡ 0 → IsCountedBefore revision shown (at 0 0 1) claims
none_counted_yet revision shown claims c h l = record {
  rows = [];
  each = λ row there. absurd (none_in row there);
  all = λ q is before. absurd (nothing_before q is before);
  in_order = λ i j d h' l'. absurd (omega (arith, l'));
  clean_is = c;
  hidden_is = h;
  left_is = l;
  few = omega (arith, c, h, l);
}
  where
    nothing_before : (q : Place) → IsPlace revision q → IsBefore q (at 0 0 1) → ⊥
    nothing_before q is (inl b) = absurd (omega (arith, b))
    nothing_before q is (inr (e, inl b)) = absurd (omega (arith, b))
    nothing_before q is (inr (e, inr (s, b))) = let one = is.from in absurd (omega (arith, one, b))

-- a row stands as one of the three
one_of_three : (s : Standing) → one_if (is_clean s) + (one_if (is_hidden s) + one_if (is_left s)) ≡ 1
one_of_three clean = refl
one_of_three hidden = refl
one_of_three left = refl

one_count : (p : Standing → Bool) (rows : List Told) (place : Place) (s : Standing) (old new : ℕ) → old ≡ count_by (λ (row : Told). p row.1) rows → new ≡ old + one_if (p s) → new ≡ count_by (λ (row : Told). p row.1) (rows ++ (place, s) ∷ [])
one_count p rows place s old new e f = f ∙ (ap (λ n. n + one_if (p s)) e ∙ sym (count_one (λ (row : Told). p row.1) rows (place, s)))

-- one more row, at the place that comes next
pub one_row : (revision : Resolution) (shown : List Shown) (n m k : ℕ) (standing : Standing) (old new : Claims) → IsOneMore old standing new → IsPlace revision (at n m k) → StandsAs revision shown (at n m k) standing →
    IsCountedBefore revision shown (at n m k) old → IsCountedBefore revision shown (at n m (k + 1)) new
one_row revision shown n m k standing old new more is stands before = record {
  rows = before.rows ++ row ∷ [];
  each = λ r there. ⊎_elim
      (λ (o : Contains before.rows r). let x = before.each r o in (x.0, still_before n m k r.0 x.1, x.2))
      (λ (e : row ≡ r). subst (λ (q : Told). IsPlace revision q.0 × IsBefore q.0 (at n m (k + 1)) × StandsAs revision shown q.0 q.1) e (is, itself_before n m k, stands))
      (push_in before.rows row r there);
  all = λ q is_q earlier. ⊎_elim
      (λ (b : IsBefore q (at n m k)). let x = before.all q is_q b in (x.0, old_in before.rows row (q, x.0) x.1))
      (λ (e : q ≡ at n m k). (standing, subst (λ (p : Place). Contains (before.rows ++ row ∷ []) (p, standing)) (sym e) (new_in before.rows row)))
      (before_or_itself n m k q earlier);
  in_order = all_pairs_push (λ a b. IsBefore a.0 b.0) before.rows row before.in_order
      (λ i d h. all_of (λ (r : Told). IsBefore r.0 (at n m k)) before.rows (λ r there. (before.each r there).1) i d h);
  clean_is = one_count is_clean before.rows (at n m k) standing old.clean new.clean before.clean_is more.clean_is;
  hidden_is = one_count is_hidden before.rows (at n m k) standing old.hidden new.hidden before.hidden_is more.hidden_is;
  left_is = one_count is_left before.rows (at n m k) standing old.left new.left before.left_is more.left_is;
  few =
      let one = one_of_three standing in
      let few = before.few in
      let from = is.from in
      let a = more.clean_is in
      let b = more.hidden_is in
      let c = more.left_is in
      grown old.clean old.hidden old.left new.clean new.hidden new.left (one_if (is_clean standing)) (one_if (is_hidden standing)) (one_if (is_left standing)) ((n * 128 + m) * 2000) k a b c one few from;
}
  where
    row : Told
    row = (at n m k, standing)

    grown : (c h l c' h' l' x y z w k : ℕ) → c' ≡ c + x → h' ≡ h + y → l' ≡ l + z → x + (y + z) ≡ 1 → c + h + l ≤ w + (k - 1) → 1 ≤ k → c' + h' + l' ≤ w + (k + 1 - 1)
    grown c h l c' h' l' x y z w k a b d one few from = omega (arith, a, b, d, one, few, from)

-- no place stands between the two
moved_on : (revision : Resolution) (shown : List Shown) (p q : Place) (claims : Claims) → ((x : Place) → IsPlace revision x → IsBefore x q → IsBefore x p) → ((x : Place) → IsBefore x p → IsBefore x q) →
    claims.clean + claims.hidden + claims.left ≤ (q.entry * 128 + q.proc) * 2000 + (q.index - 1) → IsCountedBefore revision shown p claims → IsCountedBefore revision shown q claims
moved_on revision shown p q claims back on few old = record {
  rows = old.rows;
  each = λ row there. let x = old.each row there in (x.0, on row.0 x.1, x.2);
  all = λ x is before. old.all x is (back x is before);
  in_order = old.in_order;
  clean_is = old.clean_is;
  hidden_is = old.hidden_is;
  left_is = old.left_is;
  few = few;
}

-- all sites of a procedure are counted
pub sites_done : (revision : Resolution) (shown : List Shown) (n m last done : ℕ) (claims : Claims) → IsResolution revision → slice_get (map body_sites (procs_of revision)) m ≡ Some last → done ≡ last →
    IsCountedBefore revision shown (at n m (done + 1)) claims → IsCountedBefore revision shown (at n (m + 1) 1) claims
sites_done revision shown n m last done claims valid count e old =
    moved_on revision shown (at n m (done + 1)) (at n (m + 1) 1) claims
    (λ x is before. after_sites n m done x is.from (λ same here. let w = site_within revision x m last is count here in omega (arith, w, e)) before)
    (λ x before. before_sites n m (done + 1) x before)
    (let h = map_at body_sites (procs_of revision) m last count in
    let few = few_sites (tree_of revision) m h.0 valid.valid h.1 in
    let sum = old.few in
    let is = h.2 in
    bound n m done last (body_sites h.0) (claims.clean + claims.hidden + claims.left) sum e is few) old
  where
    bound : (n m done last count sum : ℕ) → sum ≤ (n * 128 + m) * 2000 + (done + 1 - 1) → done ≡ last → count ≡ last → count ≤ 2000 → sum ≤ (n * 128 + (m + 1)) * 2000 + (1 - 1)
    bound n m done last count sum h e f g = omega (arith, h, e, f, g)

-- the entry doesn't reach the procedure
pub not_reached : (revision : Resolution) (shown : List Shown) (n m : ℕ) (claims : Claims) → (Reaches (tree_of revision) n m → ⊥) → IsCountedBefore revision shown (at n m 1) claims → IsCountedBefore revision shown (at n (m + 1) 1) claims
not_reached revision shown n m claims apart old =
    moved_on revision shown (at n m 1) (at n (m + 1) 1) claims
    (λ x is before. after_sites n m 0 x is.from (λ same here. absurd (apart (reached x is same here))) before)
    (λ x before. before_sites n m 1 x before)
    (let sum = old.few in bound n m (claims.clean + claims.hidden + claims.left) sum) old
  where
    reached : (x : Place) → IsPlace revision x → x.entry ≡ n → x.proc ≡ m → Reaches (tree_of revision) n m
    reached x is same here =
        let P : ℕ → Type 0 = λ i. Reaches (tree_of revision) i m in
        let Q : ℕ → Type 0 = λ j. Reaches (tree_of revision) x.entry j in
        subst P same (subst Q here is.reached)

    bound : (n m sum : ℕ) → sum ≤ (n * 128 + m) * 2000 + (1 - 1) → sum ≤ (n * 128 + (m + 1)) * 2000 + (1 - 1)
    bound n m sum h = omega (arith, h)

-- all procedures are counted for an entry
pub procs_done : (revision : Resolution) (shown : List Shown) (n done : ℕ) (claims : Claims) → IsResolution revision → done ≡ length (procs_of revision) → IsCountedBefore revision shown (at n done 1) claims → IsCountedBefore revision shown (at (n + 1) 0 1) claims
procs_done revision shown n done claims valid e old =
    moved_on revision shown (at n done 1) (at (n + 1) 0 1) claims
    (λ x is before. after_procs n done x is.from (λ same. let w = proc_within revision x is in omega (arith, w, e)) before)
    (λ x before. before_procs n done x before)
    (let few = few_procs (tree_of revision) valid.valid in let sum = old.few in bound n done (length (procs_of revision)) (claims.clean + claims.hidden + claims.left) sum e few) old
  where
    bound : (n done count sum : ℕ) → sum ≤ (n * 128 + done) * 2000 + (1 - 1) → done ≡ count → count ≤ 128 → sum ≤ ((n + 1) * 128 + 0) * 2000 + (1 - 1)
    bound n done count sum h e g = omega (arith, h, e, g)

-- the procedure is no entry
pub not_entry : (revision : Resolution) (shown : List Shown) (n : ℕ) (claims : Claims) → slice_get (map is_entry (procs_of revision)) n ≡ Some false → IsCountedBefore revision shown (at n 0 1) claims → IsCountedBefore revision shown (at (n + 1) 0 1) claims
not_entry revision shown n claims marked old =
    moved_on revision shown (at n 0 1) (at (n + 1) 0 1) claims
    (λ x is before. after_procs n 0 x is.from (λ same. absurd (no x is same)) before)
    (λ x before. before_procs n 0 x before)
    (let sum = old.few in bound n (claims.clean + claims.hidden + claims.left) sum) old
  where
    no : (x : Place) → IsPlace revision x → x.entry ≡ n → ⊥
    no x is same = let P : ℕ → Type 0 = λ i. IsEntry revision i is.params in no_entry_is revision n is.params marked (subst P same is.entry)

    bound : (n sum : ℕ) → sum ≤ (n * 128 + 0) * 2000 + (1 - 1) → sum ≤ ((n + 1) * 128 + 0) * 2000 + (1 - 1)
    bound n sum h = omega (arith, h)

-- all entries are counted
pub entries_done : (revision : Resolution) (shown : List Shown) (done : ℕ) (claims : Claims) → done ≡ length (procs_of revision) → IsCountedBefore revision shown (at done 0 1) claims → AreCounted revision shown claims
entries_done revision shown done claims e old = record {
  rows = old.rows;
  standings = record {
    each = λ row there. let x = old.each row there in (x.0, x.2);
    all = λ x is. let w = entry_within revision x.entry is.params is.entry in old.all x is (inl (omega (arith, w, e)));
    in_order = old.in_order;
  };
  clean_is = old.clean_is;
  hidden_is = old.hidden_is;
  left_is = old.left_is;
}

-- there is room for one more
pub room_left : (revision : Resolution) (shown : List Shown) (n m k : ℕ) (claims : Claims) → IsResolution revision → n < length (procs_of revision) → m < length (procs_of revision) → k ≤ 2000 → IsCountedBefore revision shown (at n m (k + 1)) claims →
    claims.clean + claims.hidden + claims.left < 40000000
room_left revision shown n m k claims valid hn hm hk old =
    let few = few_procs (tree_of revision) valid.valid in
    let sum = old.few in
    bound n m k (length (procs_of revision)) (claims.clean + claims.hidden + claims.left) sum hn hm few hk
  where
    bound : (n m k count sum : ℕ) → sum ≤ (n * 128 + m) * 2000 + (k + 1 - 1) → n < count → m < count → count ≤ 128 → k ≤ 2000 → sum < 40000000
    bound n m k count sum h a b c d = omega (arith, h, a, b, c, d)

pub room_at : (revision : Resolution) (shown : List Shown) (n m k last : ℕ) (claims : Claims) → IsResolution revision → slice_get (map is_entry (procs_of revision)) n ≡ Some true → m < length (procs_of revision) → slice_get (map body_sites (procs_of revision)) m ≡ Some last → k < last →
    IsCountedBefore revision shown (at n m (k + 1)) claims → claims.clean + claims.hidden + claims.left < 40000000
room_at revision shown n m k last claims valid marked inside count below old =
    let x = map_at body_sites (procs_of revision) m last count in
    let few = few_sites (tree_of revision) m x.0 valid.valid x.1 in
    let e = x.2 in
    room_left revision shown n m k claims valid (map_within is_entry (procs_of revision) n true marked) inside (omega (arith, few, e, below)) old

pub site_named : (revision : Resolution) (n m k : ℕ) (name : Name) → slice_get (map name_of (procs_of revision)) m ≡ Some name → site_at revision (at n m k) ≡ record { proc = name; index = k }
site_named revision n m k name e = let site : Name → NamedSite = λ x. record { proc = x; index = k } in ap site (ap (λ o. unwrap_or o []) e)

-- a row stands as the lists tell
pub stands_as : (revision : Resolution) (shown : List Shown) (n : ℕ) (lists : Lists) (place : Place) (site : NamedSite) (standing : Standing) → AreListsFor revision shown n lists → IsPlace revision place → place.entry ≡ n → site_at revision place ≡ site → IsListedAs lists site standing → StandsAs revision shown place standing
stands_as revision shown n lists place site standing are is same named told = by standing (subst (λ (x : NamedSite). IsListedAs lists x standing) (sym named) told)
  where
    by : (s : Standing) → IsListedAs lists (site_at revision place) s → StandsAs revision shown place s
    by clean h = (are.plain place is same).1 h
    by hidden h = ((λ p. (are.plain place is same).0 p h.0), (are.given place is same).1 h.1)
    by left h = ((λ p. (are.plain place is same).0 p h.0), (λ g. (are.given place is same).0 g h.1))
