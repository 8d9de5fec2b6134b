-- Rows that are gathered in the order of their places.
use Rattle.std.proofs.Common.{◌≡◌, ◌⊎◌, inl, inr, ⊎_elim, ℕ, ◌+◌, false, Some, List, [], ◌∷◌, ◌++◌, length, map, slice_get, get_or, refl, sym, ap, subst, arith, ◌∙◌}
use Rattle.std.specs.List.{Contains}
use Rattle.std.proofs.lemmas.List.Quantifiers.{all_pairs_push}
use Rattle.vmv_snapshot.specs.Procs.{is_entry}
use Rattle.vmv_snapshot.specs.Reaches.{Reaches}
use Rattle.vmv_snapshot.specs.Resolution.{tree_of, procs_of}
use Rattle.vmv_snapshot.specs.Tables.{body_sites}
use Rattle.vmv_cert.specs.Tables.{IsEntry}
use Rattle.vmv_check.proofs.Lists.{push_in, old_in, new_in, all_of}
use Rattle.vmv_report.specs.declared.row.ReportRow.{ReportRow}
use Rattle.vmv_report.specs.Rows.{Place, place_of, IsPlace, IsBefore, Review, IsOfClass, AreRows}
use Rattle.vmv_report.specs.Work.{AreRowsBefore, at}
use Rattle.vmv_report.proofs.Placing.{no_entry_is, entry_within, proc_within, site_within, after_sites, before_sites, after_procs, before_procs, itself_before, still_before, before_or_itself}

none_in : {X : Type 0} (x : X) → Contains [] x → ⊥
none_in x (k, within, is) = absurd (omega (arith, within))

-- a list has no part before one of its elements where it is empty
no_parts : {X : Type 0} (before after : List X) (x : X) → [] ≡ before ++ x ∷ after → ⊥
no_parts [] after x e = absurd (cc)
no_parts (y ∷ before) after x e = absurd (cc)

-- a part of a list with one more element is one of the list, or ends before that element
split_push : {X : Type 0} (xs : List X) (y : X) (before after : List X) (x : X) → xs ++ y ∷ [] ≡ before ++ x ∷ after → ((rest : List X) × (xs ≡ before ++ x ∷ rest)) ⊎ ((before ≡ xs) × (x ≡ y))
split_push [] y [] after x e = inr (refl, cc)
split_push [] y (z ∷ before) after x e = let f : [] ≡ before ++ x ∷ after = cc in absurd (no_parts before after x f)
split_push (w ∷ xs) y [] after x e = let f : w ≡ x = cc in inl (xs, ap (λ v. v ∷ xs) f)
split_push {X} (w ∷ xs) y (z ∷ before) after x e =
    let f : w ≡ z = cc in
    let g : xs ++ y ∷ [] ≡ before ++ x ∷ after = cc in
    ⊎_elim
    (λ (h : (rest : List X) × (xs ≡ before ++ x ∷ rest)). let i = h.1 in inl (h.0, cc))
    (λ (h : (before ≡ xs) × (x ≡ y)). let i = h.0 in inr (cc, h.1))
    (split_push xs y before after x g)

pub no_rows : (review : Review) (rows : List ReportRow) → rows ≡ [] → AreRowsBefore review (at 0 0 1) rows
no_rows review rows e = let P : List ReportRow → Type 0 = λ rs. AreRowsBefore review (at 0 0 1) rs in subst P (sym e) none
  where
    nothing_before : (q : Place) → IsPlace review.revision q → IsBefore q (at 0 0 1) → ⊥
    nothing_before q is (inl h) = absurd (omega (arith, h))
    nothing_before q is (inr (e, inl h)) = absurd (omega (arith, h))
    nothing_before q is (inr (e, inr (s, h))) = let one = is.from in absurd (omega (arith, one, h))

    none : AreRowsBefore review (at 0 0 1) []
    none = record {
      each = λ row there. absurd (none_in row there);
      all = λ q is before. absurd (nothing_before q is before);
      in_order = λ i j d h l. absurd (omega (arith, l));
      classes = λ before after row e. absurd (no_parts before after row e);
    }

-- one more row, at the place that comes next
pub one_row : (review : Review) (n m k : ℕ) (row : ReportRow) (rows more : List ReportRow) → more ≡ rows ++ row ∷ [] → place_of row ≡ at n m k → IsPlace review.revision (at n m k) → IsOfClass review rows row row.class →
    AreRowsBefore review (at n m k) rows → AreRowsBefore review (at n m (k + 1)) more
one_row review n m k row rows more grown here is class old = let P : List ReportRow → Type 0 = λ rs. AreRowsBefore review (at n m (k + 1)) rs in subst P (sym grown) new
  where
    new : AreRowsBefore review (at n m (k + 1)) (rows ++ row ∷ [])
    new = record {
      each = λ r there. ⊎_elim
          (λ (o : Contains rows r). let x = old.each r o in (x.0, still_before n m k (place_of r) x.1))
          (λ (e : row ≡ r).
          let at_r : place_of r ≡ at n m k = ap place_of (sym e) ∙ here in
          let P : Place → Type 0 = λ p. IsPlace review.revision p × IsBefore p (at n m (k + 1)) in
          subst P (sym at_r) (is, itself_before n m k))
          (push_in rows row r there);
      all = λ q is_q before. ⊎_elim
          (λ (b : IsBefore q (at n m k)). let x = old.all q is_q b in (x.0, old_in rows row x.0 x.1, x.2))
          (λ (e : q ≡ at n m k). (row, new_in rows row, here ∙ sym e))
          (before_or_itself n m k q before);
      in_order = all_pairs_push (λ a b. IsBefore (place_of a) (place_of b)) rows row old.in_order
          (λ i d h.
          let P : Place → Type 0 = λ p. IsBefore (place_of (get_or rows i d)) p in
          subst P (sym here) (all_of (λ (r : ReportRow). IsBefore (place_of r) (at n m k)) rows (λ r there. (old.each r there).1) i d h));
      classes = λ before after r e. ⊎_elim
          (λ (o : (rest : List ReportRow) × (rows ≡ before ++ r ∷ rest)). old.classes before o.0 r o.1)
          (λ (l : (before ≡ rows) × (r ≡ row)).
          let P : ReportRow → Type 0 = λ x. IsOfClass review rows x x.class in
          let Q : List ReportRow → Type 0 = λ xs. IsOfClass review xs r r.class in
          subst Q (sym l.0) (subst P (sym l.1) class))
          (split_push rows row before after r e);
    }

-- no place stands between the two
pub moved_on : (review : Review) (p q : Place) (rows : List ReportRow) → ((x : Place) → IsPlace review.revision x → IsBefore x q → IsBefore x p) → ((x : Place) → IsBefore x p → IsBefore x q) →
    AreRowsBefore review p rows → AreRowsBefore review q rows
moved_on review p q rows back on old = record {
  each = λ row there. let x = old.each row there in (x.0, on (place_of row) x.1);
  all = λ x is before. old.all x is (back x is before);
  in_order = old.in_order;
  classes = old.classes;
}

-- all sites of a procedure have rows
pub sites_done : (review : Review) (n m last done : ℕ) (rows : List ReportRow) → slice_get (map body_sites (procs_of review.revision)) m ≡ Some last → done ≡ last →
    AreRowsBefore review (at n m (done + 1)) rows → AreRowsBefore review (at n (m + 1) 1) rows
sites_done review n m last done rows count e old =
    moved_on review (at n m (done + 1)) (at n (m + 1) 1) rows
    (λ x is before. after_sites n m done x is.from (λ same here. let w = site_within review.revision x m last is count here in omega (arith, w, e)) before)
    (λ x before. before_sites n m (done + 1) x before) old

-- the entry doesn't reach the procedure
pub not_reached : (review : Review) (n m : ℕ) (rows : List ReportRow) → (Reaches (tree_of review.revision) n m → ⊥) → AreRowsBefore review (at n m 1) rows → AreRowsBefore review (at n (m + 1) 1) rows
not_reached review n m rows apart old =
    moved_on review (at n m 1) (at n (m + 1) 1) rows
    (λ x is before. after_sites n m 0 x is.from (λ same here. absurd (apart (reached x is same here))) before)
    (λ x before. before_sites n m 1 x before) old
  where
    reached : (x : Place) → IsPlace review.revision x → x.entry ≡ n → x.proc ≡ m → Reaches (tree_of review.revision) n m
    reached x is same here =
        let P : ℕ → Type 0 = λ i. Reaches (tree_of review.revision) i m in
        let Q : ℕ → Type 0 = λ j. Reaches (tree_of review.revision) x.entry j in
        subst P same (subst Q here is.reached)

-- all procedures that an entry reaches have their rows
pub procs_done : (review : Review) (n done : ℕ) (rows : List ReportRow) → done ≡ length (procs_of review.revision) → AreRowsBefore review (at n done 1) rows → AreRowsBefore review (at (n + 1) 0 1) rows
procs_done review n done rows e old =
    moved_on review (at n done 1) (at (n + 1) 0 1) rows
    (λ x is before. after_procs n done x is.from (λ same. let w = proc_within review.revision x is in omega (arith, w, e)) before)
    (λ x before. before_procs n done x before) old

-- the procedure is no entry
pub not_entry : (review : Review) (n : ℕ) (rows : List ReportRow) → slice_get (map is_entry (procs_of review.revision)) n ≡ Some false → AreRowsBefore review (at n 0 1) rows → AreRowsBefore review (at (n + 1) 0 1) rows
not_entry review n rows marked old =
    moved_on review (at n 0 1) (at (n + 1) 0 1) rows
    (λ x is before. after_procs n 0 x is.from (λ same. absurd (no x is same)) before)
    (λ x before. before_procs n 0 x before) old
  where
    no : (x : Place) → IsPlace review.revision x → x.entry ≡ n → ⊥
    no x is same = let P : ℕ → Type 0 = λ i. IsEntry review.revision i is.params in no_entry_is review.revision n is.params marked (subst P same is.entry)

-- all entries have their rows
pub entries_done : (review : Review) (done : ℕ) (rows : List ReportRow) → done ≡ length (procs_of review.revision) → AreRowsBefore review (at done 0 1) rows → AreRows review rows
entries_done review done rows e old = record {
  each = λ row there. (old.each row there).0;
  all = λ x is. let w = entry_within review.revision x.entry is.params is.entry in old.all x is (inl (omega (arith, w, e)));
  in_order = old.in_order;
  classes = old.classes;
}
