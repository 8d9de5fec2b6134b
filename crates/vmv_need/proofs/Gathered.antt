-- The entries of a program, as they were found in text order.
use Rattle.std.proofs.Common.{◌≡◌, ℕ, ◌+◌, Option, Some, None, option_to_list, List, [], ◌∷◌, ◌++◌, length, sym, subst, arith, ◌∙◌, append-nil}
use Rattle.vmv_crew.specs.Answers.{AnswersInOrder}
use Rattle.vmv_snapshot.specs.Resolution.{Resolution, procs_of}
use Rattle.vmv_need.specs.declared.subject.Subject.{Subject}
use Rattle.vmv_need.specs.Plan.{AreFirst, IsFoundAt}
use Rattle.vmv_need.proofs.First.{no_entry, one_entry, one_helper}

-- what was found of one procedure more
found_more : (program : Resolution) (n : ℕ) (found : Option Subject) (subjects more : List Subject) → IsFoundAt program n found → more ≡ subjects ++ option_to_list found → AreFirst program n subjects → AreFirst program (n + 1) more
found_more program n None subjects more marked grown old =
    let P : List Subject → Type 0 = λ xs. AreFirst program (n + 1) xs in subst P (sym (grown ∙ append-nil subjects)) (one_helper program n subjects old marked)
found_more program n (Some s) subjects more found grown old = one_entry program n subjects more s old grown found.1 found.0 found.2 found.3

-- those of the first procedures, and in order what was found of those that are left
pub record AreGathered (program : Resolution) (left : List (Option Subject)) (subjects : List Subject) : Type 0 where
  pub n : ℕ
  pub added : AreFirst program n subjects
  pub answers : AnswersInOrder (IsFoundAt program) n (length left) left
  pub count : n + length left ≡ length (procs_of program)

pub gathered_start : (program : Resolution) (found left : List (Option Subject)) (subjects : List Subject) (count : ℕ) → subjects ≡ [] → left ≡ found → count ≡ length (procs_of program) → AnswersInOrder (IsFoundAt program) 0 count found → length found ≡ count → AreGathered program left subjects
gathered_start program found left subjects count e same all answers counted = let P : List (Option Subject) → Type 0 = λ xs. AreGathered program xs subjects in subst P (sym same) (record {
  n = 0;
  added = subst (λ (ss : List Subject). AreFirst program 0 ss) (sym e) (no_entry program);
  answers = subst (λ (k : ℕ). AnswersInOrder (IsFoundAt program) 0 k found) (sym counted) answers;
  count = let size = counted ∙ all in omega (arith, size);
})

pub gathered_more : (program : Resolution) (left rest : List (Option Subject)) (found : Option Subject) (subjects more : List Subject) → left ≡ found ∷ rest → more ≡ subjects ++ option_to_list found → AreGathered program left subjects → AreGathered program rest more
gathered_more program left rest found subjects more next grown is = by (let P : List (Option Subject) → Type 0 = λ xs. AreGathered program xs subjects in subst P next is)
  where
    by : AreGathered program (found ∷ rest) subjects → AreGathered program rest more
    by l =
        let count = l.count in
        record {
          n = l.n + 1;
          added = found_more program l.n found subjects more l.answers.0 grown l.added;
          answers = l.answers.1;
          count = omega (arith, count);
        }

pub gathered_all : (program : Resolution) (left : List (Option Subject)) (subjects : List Subject) → length left ≡ 0 → AreGathered program left subjects → AreFirst program (length (procs_of program)) subjects
gathered_all program left subjects none l =
    let count = l.count in
    let same : l.n ≡ length (procs_of program) = omega (arith, count, none) in
    subst (λ (n : ℕ). AreFirst program n subjects) same l.added
