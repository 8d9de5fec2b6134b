-- The entries of a revision in text order, and the rows before each.
use Rattle.std.proofs.Common.{◌≡◌, ◌⊎◌, inl, inr, ⊎_elim, ℕ, zero, suc, ◌+◌, ◌<◌, ◌≤◌, false, true, Some, List, [], ◌∷◌, ◌++◌, length, get_or, map, slice_get, refl, sym, ap, subst, arith, ◌∙◌}
use Rattle.std.proofs.lemmas.Option.{slice_get_within, slice_get-get_or}
use Rattle.std.proofs.lemmas.List.{length-map}
use Rattle.vmv_crew.specs.Answers.{AnswersInOrder}
use Rattle.vmv_crew.proofs.AnswersLemmas.{answer_at}
use Rattle.vmv_snapshot.specs.declared.code.ProcId.{ProcId}
use Rattle.vmv_snapshot.specs.Procs.{is_entry}
use Rattle.vmv_snapshot.specs.Resolution.{Resolution, procs_of}
use Rattle.vmv_enough.proofs.Lists.{push_at, old_at, new_at, below_or_at, same_there, mapped_at, read_at}
use Rattle.vmv_tree.specs.Tree.{entry}
use Rattle.vmv_report.specs.declared.proving.EntrySites.{EntrySites}
use Rattle.vmv_report.specs.declared.told.Told.{Told}
use Rattle.vmv_report.specs.Rows.{Place, IsPlace, IsBefore, Review, AreRows}
use Rattle.vmv_report.specs.Work.{IsEntryOf, AreEntries, AreRowsBefore, IsToldBefore, AreSitesFor, AreSitesAt, AreSitesOfAll, at}
use Rattle.vmv_report.proofs.Gathering.{moved_on}
use Rattle.vmv_report.proofs.Counting.{none_counted}

pub no_entries : (program : Resolution) (entries : List ProcId) → entries ≡ [] → AreEntries program 0 entries
no_entries program entries e = let P : List ProcId → Type 0 = λ xs. AreEntries program 0 xs in subst P (sym e) none
  where
    nothing : (place : ℕ) (s : ProcId) → slice_get [] place ≡ Some s → ⊥
    nothing place s at = cc

    none : AreEntries program 0 []
    none = record {
      each = λ place s at. absurd (nothing place s at);
      rising = λ place later a b less at_a at_b. absurd (nothing place a at_a);
      all = λ m below flag. absurd (omega (arith, below));
    }

-- one more entry
pub one_entry : (program : Resolution) (n : ℕ) (entries more : List ProcId) (last : ProcId) → more ≡ entries ++ last ∷ [] → IsEntryOf program n → last.0 ≡ n → AreEntries program n entries → AreEntries program (n + 1) more
one_entry program n entries more last grown is number old = let P : List ProcId → Type 0 = λ xs. AreEntries program (n + 1) xs in subst P (sym grown) new
  where
    cases : (place : ℕ) (s : ProcId) → slice_get (entries ++ last ∷ []) place ≡ Some s → (slice_get entries place ≡ Some s) ⊎ ((place ≡ length entries) × (last ≡ s))
    cases place s at = push_at entries last s place at

    new_number : (s : ProcId) → last ≡ s → s.0 ≡ n
    new_number s same = ap (λ (x : ProcId). x.0) (sym same) ∙ number

    rises : (place later : ℕ) (a b : ProcId) → place < later → slice_get (entries ++ last ∷ []) place ≡ Some a → slice_get (entries ++ last ∷ []) later ≡ Some b → a.0 < b.0
    rises place later a b less at_a at_b =
        ⊎_elim
        (λ (b_old : slice_get entries later ≡ Some b).
        let inside = slice_get_within entries later b b_old in
        ⊎_elim (λ (a_old : slice_get entries place ≡ Some a). old.rising place later a b less a_old b_old)
        (λ (a_new : (place ≡ length entries) × (last ≡ a)). let e = a_new.0 in absurd (omega (arith, inside, less, e)))
        (cases place a at_a))
        (λ (b_new : (later ≡ length entries) × (last ≡ b)).
        let late = new_number b b_new.1 in
        ⊎_elim
        (λ (a_old : slice_get entries place ≡ Some a). let below = (old.each place a a_old).1 in omega (arith, below, late))
        (λ (a_new : (place ≡ length entries) × (last ≡ a)). let e = a_new.0 in let f = b_new.0 in absurd (omega (arith, less, e, f)))
        (cases place a at_a))
        (cases later b at_b)

    new : AreEntries program (n + 1) (entries ++ last ∷ [])
    new = record {
      each = λ place s at.
          ⊎_elim
          (λ (o : slice_get entries place ≡ Some s). let x = old.each place s o in let below = x.1 in (x.0, omega (arith, below)))
          (λ (e : (place ≡ length entries) × (last ≡ s)).
          let here = new_number s e.1 in
          (subst (λ (i : ℕ). IsEntryOf program i) (sym here) is, omega (arith, here)))
          (cases place s at);
      rising = rises;
      all = λ m below flag.
          ⊎_elim
          (λ (l : m < n). let x = old.all m l flag in (x.0, x.1, old_at entries (last ∷ []) x.1 x.0 x.2, x.3))
          (λ (e : m ≡ n). (length entries, last, new_at entries last, number ∙ sym e))
          (below_or_at m n below);
    }

-- the procedure is no entry
pub no_entry : (program : Resolution) (n : ℕ) (entries : List ProcId) → slice_get (map is_entry (procs_of program)) n ≡ Some false → AreEntries program n entries → AreEntries program (n + 1) entries
no_entry program n entries marked old = record {
  each = λ place s at. let x = old.each place s at in let below = x.1 in (x.0, omega (arith, below));
  rising = old.rising;
  all = λ m below flag.
      ⊎_elim (λ (l : m < n). old.all m l flag)
      (λ (e : m ≡ n).
      let there = subst (λ (i : ℕ). IsEntryOf program i) e flag in
      absurd (cc))
      (below_or_at m n below);
}

-- the entry that is read in a place
pub entry_at : (entries : List ProcId) (place : ℕ) (d : ProcId) → place < length entries → slice_get entries place ≡ Some (get_or entries place d)
entry_at entries place d inside = slice_get-get_or entries place d inside

-- the sites that are read in a place
pub sites_at : (review : Review) (entries : List ProcId) (sites : List EntrySites) (place : ℕ) (d : ProcId) (own : EntrySites) → AreSitesOfAll review entries sites → place < length entries → own ≡ get_or sites place own → AreSitesFor review (get_or entries place d).0 own
sites_at review entries sites place d own are inside is =
    let count = are.count in
    let within : place < length sites = omega (arith, count, inside) in
    are.each place own (read_at sites place own within is) (get_or entries place d) (entry_at entries place d inside)

-- answers in order of the places, one for each, are those of the entries
pub all_sites : (review : Review) (entries : List ProcId) (sites own : List EntrySites) (n : ℕ) → n ≡ length entries → own ≡ sites → AnswersInOrder (AreSitesAt review entries) 0 n sites → length sites ≡ n → AreSitesOfAll review entries own
all_sites review entries sites own n is same order count = let P : List EntrySites → Type 0 = λ xs. AreSitesOfAll review entries xs in subst P (sym same) (record {
  count = count ∙ is;
  each = λ place one there.
      let here : 0 + place ≡ place = omega arith in
      subst (λ (i : ℕ). AreSitesAt review entries i one) here (answer_at (AreSitesAt review entries) 0 n sites order place one there);
})

-- where no entry stands between the two, no place does
pub told_on : (review : Review) (b n : ℕ) (told : Told) → b ≤ n → ((m : ℕ) → IsEntryOf review.revision m → m < n → m < b) → IsToldBefore review (at b 0 1) told → IsToldBefore review (at n 0 1) told
told_on review b n told up none old =
    let rows : AreRowsBefore review (at n 0 1) told.rows = moved_on review (at b 0 1) (at n 0 1) told.rows back on old.rows in
    record {
      rows = rows;
      witnesses = old.witnesses;
      counted = old.counted ∙ none_counted review b told.rows old.rows ∙ sym (none_counted review n told.rows rows);
    }
  where
    low : (k : ℕ) (x : Place) → 1 ≤ x.index → IsBefore x (at k 0 1) → x.entry < k
    low k x from (inl h) = h
    low k x from (inr (e, inl h)) = absurd (omega (arith, h))
    low k x from (inr (e, inr (s, h))) = absurd (omega (arith, from, h))

    back : (x : Place) → IsPlace review.revision x → IsBefore x (at n 0 1) → IsBefore x (at b 0 1)
    back x is before =
        let flag : IsEntryOf review.revision x.entry = let own = is.entry in mapped_at is_entry (procs_of review.revision) x.entry (entry own.0 is.params own.1) own.2 in
        inl (none x.entry flag (low n x is.from before))

    on : (x : Place) → IsBefore x (at b 0 1) → IsBefore x (at n 0 1)
    on x (inl h) = inl (omega (arith, h, up))
    on x (inr (e, inl h)) = absurd (omega (arith, h))
    on x (inr (e, inr (s, h))) = by (below_or_at b n (omega (arith, up)))
      where
        by : (b < n) ⊎ (b ≡ n) → IsBefore x (at n 0 1)
        by (inl l) = inl (omega (arith, e, l))
        by (inr same) = inr (e ∙ same, inr (s, h))

-- the rows of the entries in the first so many places
pub record IsToldTo (review : Review) (entries : List ProcId) (place : ℕ) (told : Told) : Type 0 where
  pub b : ℕ
  pub told_is : IsToldBefore review (at b 0 1) told
  pub done : (k : ℕ) (e : ProcId) → k < place → slice_get entries k ≡ Some e → e.0 < b
  pub left : (k : ℕ) (e : ProcId) → place ≤ k → slice_get entries k ≡ Some e → b ≤ e.0

pub told_start : (review : Review) (entries : List ProcId) (told : Told) → IsToldBefore review (at 0 0 1) told → IsToldTo review entries 0 told
told_start review entries told is = record {
  b = 0;
  told_is = is;
  done = λ k e below there. absurd (omega (arith, below));
  left = λ k e above there. omega arith;
}

module _ (review : Review) (entries : List ProcId) (are : AreEntries review.revision (length (procs_of review.revision)) entries) where
  within : (m : ℕ) → IsEntryOf review.revision m → m < length (procs_of review.revision)
  within m flag =
      let item = slice_get_within (map is_entry (procs_of review.revision)) m true flag in
      omega (arith, item, length-map (procs_of review.revision) is_entry)

  -- an entry below that of a place comes before it
  earlier : (place : ℕ) (here : ProcId) → slice_get entries place ≡ Some here → (m : ℕ) → IsEntryOf review.revision m → m < here.0 → (k : ℕ) × (e : ProcId) × (slice_get entries k ≡ Some e) × (e.0 ≡ m) × (k < place)
  earlier place here there m flag below =
      let x = are.all m (within m flag) flag in
      (x.0, x.1, x.2, x.3, by (either x.0 place))
    where
      either : (a c : ℕ) → (a < c) ⊎ ((a ≡ c) ⊎ (c < a))
      either zero zero = inr (inl refl)
      either zero (suc c) = inl (omega arith)
      either (suc a) zero = inr (inr (omega arith))
      either (suc a) (suc c) =
          ⊎_elim (λ (l : a < c). inl (omega (arith, l))) (λ (r : (a ≡ c) ⊎ (c < a)). inr (⊎_elim (λ (e : a ≡ c). inl (ap suc e)) (λ (g : c < a). inr (omega (arith, g))) r)) (either a c)

      x : (place : ℕ) × (e : ProcId) × (slice_get entries place ≡ Some e) × (e.0 ≡ m)
      x = are.all m (within m flag) flag

      by : (x.0 < place) ⊎ ((x.0 ≡ place) ⊎ (place < x.0)) → x.0 < place
      by (inl l) = l
      by (inr (inl e)) =
          let same : x.1 ≡ here = same_there entries place x.1 here (subst (λ (i : ℕ). slice_get entries i ≡ Some x.1) e x.2) there in
          let number : x.1.0 ≡ here.0 = ap (λ (p : ProcId). p.0) same in
          let own = x.3 in
          absurd (omega (arith, own, number, below))
      by (inr (inr g)) = let h = are.rising place x.0 here x.1 g there x.2 in let own = x.3 in absurd (omega (arith, h, own, below))

  -- the rows before the entry of the next place
  pub told_here : (place : ℕ) (here : ProcId) (told : Told) → slice_get entries place ≡ Some here → IsToldTo review entries place told → IsToldBefore review (at here.0 0 1) told
  told_here place here told there to =
      told_on review to.b here.0 told (to.left place here (omega arith) there)
      (λ m flag below. let x = earlier place here there m flag below in let h = to.done x.0 x.1 x.4 x.2 in let own = x.3 in omega (arith, h, own)) to.told_is

  pub told_next : (place : ℕ) (here : ProcId) (told : Told) → slice_get entries place ≡ Some here → IsToldBefore review (at (here.0 + 1) 0 1) told → IsToldTo review entries (place + 1) told
  told_next place here told there is = record {
    b = here.0 + 1;
    told_is = is;
    done = λ k e below at_e.
        ⊎_elim (λ (l : k < place). let h = are.rising k place e here l at_e there in omega (arith, h))
        (λ (q : k ≡ place).
        let same : e ≡ here = same_there entries place e here (subst (λ (i : ℕ). slice_get entries i ≡ Some e) q at_e) there in
        let number : e.0 ≡ here.0 = ap (λ (p : ProcId). p.0) same in
        omega (arith, number))
        (below_or_at k place below);
    left = λ k e above at_e. let less : place < k = omega (arith, above) in let h = are.rising place k here e less there at_e in omega (arith, h);
  }

  -- the rows of all entries
  pub told_all : (place : ℕ) (told : Told) → length entries ≤ place → IsToldTo review entries place told → AreRows review told.rows
  told_all place told all to =
      let old = to.told_is.rows in
      record {
        each = λ row there. (old.each row there).0;
        all = λ x is.
            let own = is.entry in
            let flag : IsEntryOf review.revision x.entry = mapped_at is_entry (procs_of review.revision) x.entry (entry own.0 is.params own.1) own.2 in
            let y = are.all x.entry (within x.entry flag) flag in
            let inside = slice_get_within entries y.0 y.1 y.2 in
            let below : y.0 < place = omega (arith, inside, all) in
            let h = to.done y.0 y.1 below y.2 in
            let number = y.3 in
            old.all x is (inl (omega (arith, h, number)));
        in_order = old.in_order;
        classes = old.classes;
      }
