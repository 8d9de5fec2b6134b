-- The words of a line that would tell a state but for the size of their numbers.
use Rattle.std.specs.Prelude.{◌≡◌, ◌≢◌, ◌⊎◌, ℕ, List, [], ◌∷◌, ◌++◌, codes}
use Rattle.vmv_witness.specs.Numbers.{IsNumber}
use Rattle.vmv_proof_words.specs.Words.{Word}
use Rattle.vmv_proof_text.specs.Loose.{Digits, SpelledBound, AreNumbers, IsLess, IsStateLoosely}
use Rattle.vmv_proof_line.specs.StateWords.{Climb, counted}

-- by the first thing, then by the second
abbrev pub ComesBefore : Digits × Digits → Digits × Digits → Type 0
ComesBefore p q = IsLess p.0 q.0 ⊎ ((p.0 ≡ q.0) × IsLess p.1 q.1)

-- behind two things, or first
abbrev pub Follows : Digits × Digits → Digits × Digits → Type 0
Follows p q = (p.0 ≡ []) ⊎ ComesBefore p q

abbrev pub NextBound : Digits × Digits → SpelledBound → Type 0
NextBound p b = AreNumbers b × Follows p (b.0, b.1)

-- a variable behind another, or first
abbrev pub FollowsMark : Digits → Digits → Type 0
FollowsMark last m = (last ≡ []) ⊎ IsLess last m

-- a number other than 0
abbrev pub IsVariable : Digits → Type 0
IsVariable m = IsNumber m × (m ≢ codes "0")

abbrev pub NextMark : Digits → Digits → Type 0
NextMark last m = IsVariable m × FollowsMark last m

abbrev pub things_of : SpelledBound → Digits × Digits
things_of b = (b.0, b.1)

abbrev pub spelled_triple : SpelledBound → List Word
spelled_triple b = b.0 ∷ b.1 ∷ b.2 ∷ []

abbrev pub spelled_mark : Digits → List Word
spelled_mark m = m ∷ []

abbrev pub AreLooseBounds : List SpelledBound → Type 0
AreLooseBounds bounds = Climb NextBound things_of ([], []) bounds

abbrev pub AreLooseMarks : List Digits → Type 0
AreLooseMarks marks = Climb NextMark (λ m. m) [] marks

pub record AreTakenLoosely (old new : List Word) : Type 0 where
  pub bounds : List SpelledBound
  pub sorted : AreLooseBounds bounds
  pub words : old ≡ counted spelled_triple bounds ++ new

abbrev pub NoBoundsLoosely : List Word → Type 0
NoBoundsLoosely words = (bounds : List SpelledBound) (rest : List Word) → AreLooseBounds bounds → words ≡ counted spelled_triple bounds ++ rest → ⊥

abbrev pub AreLastMarks : List Word → Type 0
AreLastMarks words = (marks : List Digits) × AreLooseMarks marks × (words ≡ counted spelled_mark marks)

-- what may stand behind the word `vars`
pub record IsToldLooselyBy (words : List Word) : Type 0 where
  pub vars : Digits
  pub bounds : List SpelledBound
  pub marks : List Digits
  pub number : IsNumber vars
  pub sorted_bounds : AreLooseBounds bounds
  pub sorted_marks : AreLooseMarks marks
  pub same : words ≡ vars ∷ codes "bounds" ∷ (counted spelled_triple bounds ++ codes "nonzero" ∷ counted spelled_mark marks)

abbrev pub IsStateLooselyBy : List Word → Type 0
IsStateLooselyBy words =
    ((vars : Digits) × IsNumber vars × (words ≡ codes "bottom" ∷ vars ∷ [])) ⊎ ((rest : List Word) × IsToldLooselyBy rest × (words ≡ codes "vars" ∷ rest))

-- a line of this word that would tell a state
abbrev pub IsStateLineLoosely : List ℕ → List ℕ → Type 0
IsStateLineLoosely word line = (bytes : List ℕ) × (line ≡ word ++ bytes) × IsStateLoosely bytes
