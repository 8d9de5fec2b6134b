-- The entries of a plan, in text order.
use Rattle.std.proofs.Common.{◌≡◌, ◌⊎◌, inl, inr, ⊎_elim, ℕ, zero, suc, ◌+◌, ◌<◌, false, Option, Some, None, List, [], ◌∷◌, ◌++◌, length, map, slice_get, refl, sym, ap, subst, arith, ◌∙◌, append-nil, option_to_list}
use Rattle.std.proofs.lemmas.Option.{slice_get_within}
use Rattle.vmv_tree.specs.declared.ends.NameEnds.{NameEnds}
use Rattle.vmv_snapshot.specs.Procs.{is_entry}
use Rattle.vmv_snapshot.specs.Resolution.{Resolution, procs_of}
use Rattle.vmv_enough.specs.declared.plan.Subject.{Subject}
use Rattle.vmv_crew.specs.Answers.{AnswersInOrder}
use Rattle.vmv_enough.specs.Plan.{IsEntryOf, IsSubject, IsFoundAt, IsAt, AreSubjects}
use Rattle.vmv_enough.proofs.Lists.{push_at, old_at, new_at, below_or_at, same_there}

pub no_subjects : (program : Resolution) (ends : List NameEnds) (subjects : List Subject) → subjects ≡ [] → AreSubjects program ends 0 subjects
no_subjects program ends subjects e = let P : List Subject → Type 0 = λ xs. AreSubjects program ends 0 xs in subst P (sym e) none
  where
    nothing : (place : ℕ) (s : Subject) → slice_get [] place ≡ Some s → ⊥
    nothing place s at = cc

    none : AreSubjects program ends 0 []
    none = record {
      each = λ place s at. absurd (nothing place s at);
      rising = λ place later m k less a b. absurd (nothing place a.subject a.there);
      all = λ m below flag. absurd (omega (arith, below));
    }

-- one more entry
pub one_subject : (program : Resolution) (ends : List NameEnds) (n : ℕ) (subjects more : List Subject) (subject : Subject) → more ≡ subjects ++ subject ∷ [] → IsSubject program ends subject → subject.entry.0 ≡ n →
    AreSubjects program ends n subjects → AreSubjects program ends (n + 1) more
one_subject program ends n subjects more subject grown is number old = let P : List Subject → Type 0 = λ xs. AreSubjects program ends (n + 1) xs in subst P (sym grown) new
  where
    cases : (place : ℕ) (s : Subject) → slice_get (subjects ++ subject ∷ []) place ≡ Some s → (slice_get subjects place ≡ Some s) ⊎ ((place ≡ length subjects) × (subject ≡ s))
    cases place s at = push_at subjects subject s place at

    new_number : (k : ℕ) (s : Subject) → subject ≡ s → s.entry.0 ≡ k → k ≡ n
    new_number k s same is_k = sym is_k ∙ ap (λ (x : Subject). x.entry.0) (sym same) ∙ number

    rises : (place later m k : ℕ) → place < later → IsAt (subjects ++ subject ∷ []) place m → IsAt (subjects ++ subject ∷ []) later k → m < k
    rises place later m k less a b =
        ⊎_elim
        (λ (b_old : slice_get subjects later ≡ Some b.subject).
        let inside = slice_get_within subjects later b.subject b_old in
        ⊎_elim
        (λ (a_old : slice_get subjects place ≡ Some a.subject).
        old.rising place later m k less (record { subject = a.subject; there = a_old; number = a.number }) (record { subject = b.subject; there = b_old; number = b.number }))
        (λ (a_new : (place ≡ length subjects) × (subject ≡ a.subject)). let e = a_new.0 in absurd (omega (arith, inside, less, e)))
        (cases place a.subject a.there))
        (λ (b_new : (later ≡ length subjects) × (subject ≡ b.subject)).
        let last = new_number k b.subject b_new.1 b.number in
        ⊎_elim
        (λ (a_old : slice_get subjects place ≡ Some a.subject).
        let below = (old.each place a.subject a_old).1 in
        let number_a = a.number in
        omega (arith, below, number_a, last))
        (λ (a_new : (place ≡ length subjects) × (subject ≡ a.subject)). let e = a_new.0 in let f = b_new.0 in absurd (omega (arith, less, e, f)))
        (cases place a.subject a.there))
        (cases later b.subject b.there)

    new : AreSubjects program ends (n + 1) (subjects ++ subject ∷ [])
    new = record {
      each = λ place s at.
          ⊎_elim
          (λ (o : slice_get subjects place ≡ Some s). let x = old.each place s o in let below = x.1 in (x.0, omega (arith, below)))
          (λ (e : (place ≡ length subjects) × (subject ≡ s)).
          let here = new_number s.entry.0 s e.1 refl in
          (subst (λ (x : Subject). IsSubject program ends x) e.1 is, omega (arith, here)))
          (cases place s at);
      rising = rises;
      all = λ m below flag.
          ⊎_elim
          (λ (l : m < n).
          let x = old.all m l flag in
          (x.0, record { subject = x.1.subject; there = old_at subjects (subject ∷ []) x.1.subject x.0 x.1.there; number = x.1.number }))
          (λ (e : m ≡ n). (length subjects, record { subject = subject; there = new_at subjects subject; number = number ∙ sym e }))
          (below_or_at m n below);
    }

-- the procedure is no entry
pub no_subject : (program : Resolution) (ends : List NameEnds) (n : ℕ) (subjects : List Subject) → slice_get (map is_entry (procs_of program)) n ≡ Some false → AreSubjects program ends n subjects → AreSubjects program ends (n + 1) subjects
no_subject program ends n subjects marked old = record {
  each = λ place s at. let x = old.each place s at in let below = x.1 in (x.0, omega (arith, below));
  rising = old.rising;
  all = λ m below flag.
      ⊎_elim (λ (l : m < n). old.all m l flag)
      (λ (e : m ≡ n).
      let there = subst (λ (i : ℕ). IsEntryOf program i) e flag in
      absurd (cc))
      (below_or_at m n below);
}

-- what was found of one procedure more
found_more : (program : Resolution) (ends : List NameEnds) (n : ℕ) (found : Option Subject) (subjects more : List Subject) → IsFoundAt program ends n found → more ≡ subjects ++ option_to_list found → AreSubjects program ends n subjects → AreSubjects program ends (n + 1) more
found_more program ends n None subjects more marked grown old =
    let P : List Subject → Type 0 = λ xs. AreSubjects program ends (n + 1) xs in subst P (sym (grown ∙ append-nil subjects)) (no_subject program ends n subjects marked old)
found_more program ends n (Some subject) subjects more found grown old = one_subject program ends n subjects more subject grown found.0 found.1 old

-- those of the first procedures, and in order what was found of those that are left
pub record ArePlanned (program : Resolution) (ends : List NameEnds) (left : List (Option Subject)) (subjects : List Subject) : Type 0 where
  pub n : ℕ
  pub added : AreSubjects program ends n subjects
  pub answers : AnswersInOrder (IsFoundAt program ends) n (length left) left
  pub count : n + length left ≡ length (procs_of program)

pub planned_start : (program : Resolution) (ends : List NameEnds) (found left : List (Option Subject)) (subjects : List Subject) (count : ℕ) → subjects ≡ [] → left ≡ found → count ≡ length (procs_of program) → AnswersInOrder (IsFoundAt program ends) 0 count found → length found ≡ count → ArePlanned program ends left subjects
planned_start program ends found left subjects count e same all answers counted = let P : List (Option Subject) → Type 0 = λ xs. ArePlanned program ends xs subjects in subst P (sym same) (record {
  n = 0;
  added = no_subjects program ends subjects e;
  answers = subst (λ (k : ℕ). AnswersInOrder (IsFoundAt program ends) 0 k found) (sym counted) answers;
  count = let size = counted ∙ all in omega (arith, size);
})

pub planned_more : (program : Resolution) (ends : List NameEnds) (left rest : List (Option Subject)) (found : Option Subject) (subjects more : List Subject) → left ≡ found ∷ rest → more ≡ subjects ++ option_to_list found → ArePlanned program ends left subjects → ArePlanned program ends rest more
planned_more program ends left rest found subjects more next grown is = by (let P : List (Option Subject) → Type 0 = λ xs. ArePlanned program ends xs subjects in subst P next is)
  where
    by : ArePlanned program ends (found ∷ rest) subjects → ArePlanned program ends rest more
    by l =
        let count = l.count in
        record {
          n = l.n + 1;
          added = found_more program ends l.n found subjects more l.answers.0 grown l.added;
          answers = l.answers.1;
          count = omega (arith, count);
        }

pub planned_all : (program : Resolution) (ends : List NameEnds) (left : List (Option Subject)) (subjects : List Subject) → length left ≡ 0 → ArePlanned program ends left subjects → AreSubjects program ends (length (procs_of program)) subjects
planned_all program ends left subjects none l =
    let count = l.count in
    let same : l.n ≡ length (procs_of program) = omega (arith, count, none) in
    subst (λ (n : ℕ). AreSubjects program ends n subjects) same l.added

either : (a b : ℕ) → (a < b) ⊎ ((a ≡ b) ⊎ (b < a))
either zero zero = inr (inl refl)
either zero (suc b) = inl (omega arith)
either (suc a) zero = inr (inr (omega arith))
either (suc a) (suc b) =
    ⊎_elim (λ (l : a < b). inl (omega (arith, l))) (λ (r : (a ≡ b) ⊎ (b < a)). inr (⊎_elim (λ (e : a ≡ b). inl (ap suc e)) (λ (g : b < a). inr (omega (arith, g))) r)) (either a b)

module _ (program : Resolution) (ends : List NameEnds) (bound : ℕ) (subjects : List Subject) (are : AreSubjects program ends bound subjects) where
  number_at : (a : ℕ) (m n : ℕ) → IsAt subjects a m → IsAt subjects a n → m ≡ n
  number_at a m n x y = sym x.number ∙ ap (λ (s : Subject). s.entry.0) (same_there subjects a x.subject y.subject x.there y.there) ∙ y.number

  -- an entry has one place
  pub same_place : (a b n : ℕ) → IsAt subjects a n → IsAt subjects b n → a ≡ b
  same_place a b n x y =
      ⊎_elim (λ (l : a < b). let h = are.rising a b n n l x y in absurd (omega (arith, h)))
      (λ (r : (a ≡ b) ⊎ (b < a)). ⊎_elim (λ (e : a ≡ b). e) (λ (g : b < a). let h = are.rising b a n n g y x in absurd (omega (arith, h))) r) (either a b)

  -- an earlier entry has an earlier place
  pub earlier_place : (a b m n : ℕ) → IsAt subjects a m → IsAt subjects b n → m < n → a < b
  earlier_place a b m n x y less =
      ⊎_elim (λ (l : a < b). l)
      (λ (r : (a ≡ b) ⊎ (b < a)).
      ⊎_elim
      (λ (e : a ≡ b). let h = number_at b m n (subst (λ (i : ℕ). IsAt subjects i m) e x) y in absurd (omega (arith, less, h)))
      (λ (g : b < a). let h = are.rising b a n m g y x in absurd (omega (arith, less, h))) r)
      (either a b)
