-- What is done with told texts is one thing, where what is done with their programs is.
use Rattle.std.proofs.Common.{◌≡◌, inl, inr, ℕ, ◌≤◌, nat_lt, Bool, true, false, MatchBool, Option, Some, List, length, refl, sym, subst, arith, ◌∙◌}
use Rattle.std.proofs.lemmas.Bool.Decides.{nat_tests}
use Rattle.vmv_edge.specs.Outside.{IsAsTold}
use Rattle.vmv_tree.specs.Tree.{Item}
use Rattle.vmv_source.specs.declared.fault.TextFault.{TextFault}
use Rattle.vmv_words.specs.Words.{Word}
use Rattle.vmv_command.specs.Lines.{IsLine, SaysTooLong}
use Rattle.vmv_command.specs.Faults.{SaysFault, HasWhy, IsSource, OnProgram}
use Rattle.vmv_command.specs.Command.{text_most, OnFile}
use Rattle.vmv_command_laws.proofs.Determined.{OfTexts}

-- one text is printed, with one status
abbrev pub IsOne : (List ℕ → ℕ → Type 0) → Type 0
IsOne Says = (p q : List ℕ) (s t : ℕ) → Says p s → Says q t → (p ≡ q) × (s ≡ t)

pub line_once : (text : List ℕ) (meant : ℕ) → IsOne (IsLine text meant)
line_once text meant p q s t h g = (h.0 ∙ sym g.0, h.1 ∙ sym g.1)

too_long_once : (called : List ℕ) (most : ℕ) → IsOne (SaysTooLong called most)
too_long_once called most p q s t h g = (h.0 ∙ sym g.0, h.1 ∙ sym g.1)

fault_line_once : (called : List ℕ) (why : TextFault) → IsOne (SaysFault called why)
fault_line_once called why p q s t h g = (h.0 ∙ sym g.0, h.1 ∙ sym g.1)

short_enough : (n m : ℕ) → nat_lt n m ≡ false → m ≤ n
short_enough n m e = grind (arith, nat_tests)

branch_once : (b : Bool) (P Q : List ℕ → ℕ → Type 0) → (b ≡ true → IsOne P) → (b ≡ false → IsOne Q) → IsOne (λ p s. MatchBool b (P p s) (Q p s))
branch_once true P Q one other p q s t h g = one refl p q s t h g
branch_once false P Q one other p q s t h g = other refl p q s t h g

read_as_told : (told : Word → Option (List ℕ)) (name : Word) (text read : List ℕ) → told name ≡ Some text → IsAsTold (told name) read → read ≡ text
read_as_told told name text read is h = subst (λ (o : Option (List ℕ)). IsAsTold o read) is h

-- of a text that is told
pub file_once : (told : Word → Option (List ℕ)) (name : Word) (called : List ℕ) (most : ℕ) (Next : List ℕ → List ℕ → ℕ → Type 0) (text : List ℕ) → told name ≡ Some text
    → (length text ≤ most → IsOne (Next text)) → IsOne (OnFile told name called most Next)
file_once told name called most Next text is once p q s t (one, as_told, h) (other, as_told', g) =
    branch_once (nat_lt most (length text)) (SaysTooLong called most) (Next text) (λ e. too_long_once called most) (λ e. once (short_enough most (length text) e)) p q s t
    (subst (λ (x : List ℕ). MatchBool (nat_lt most (length x)) (SaysTooLong called most p s) (Next x p s)) (read_as_told told name text one is as_told) h)
    (subst (λ (x : List ℕ). MatchBool (nat_lt most (length x)) (SaysTooLong called most q t) (Next x q t)) (read_as_told told name text other is as_told') g)

module _ (laws : OfTexts) where
  why_same : (text : List ℕ) (one other : TextFault) → HasWhy text one → HasWhy text other → one ≡ other
  why_same text one other h g = laws.faults text one other h.0 g.0 h.1 g.1

  -- and of its program, or its first fault
  pub program_once : (called text : List ℕ) (Next : List Item → List ℕ → ℕ → Type 0) → length text ≤ text_most → ((program : List Item) → IsSource text program → IsOne (Next program)) → IsOne (OnProgram called text Next)
  program_once called text Next short once p q s t (inl (why, has, says)) (inl (why', has', says')) =
      fault_line_once called why' p q s t (subst (λ (w : TextFault). SaysFault called w p s) (why_same text why why' has has') says) says'
  program_once called text Next short once p q s t (inl (why, has, says)) (inr (program, source, done)) = absurd (has.1 (laws.no_fault text program why short source.0 source.1 has.0))
  program_once called text Next short once p q s t (inr (program, source, done)) (inl (why, has, says)) = absurd (has.1 (laws.no_fault text program why short source.0 source.1 has.0))
  program_once called text Next short once p q s t (inr (program, source, done)) (inr (program', source', done')) =
      let same : program ≡ program' = laws.programs text program program' source.0 source'.0 in
      once program' source' p q s t (subst (λ (P : List Item). Next P p s) same done) done'
