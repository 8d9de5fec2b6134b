-- The words of a line that tells a state, behind its first.
use Rattle.std.specs.Prelude.{◌≡◌, ◌≢◌, ◌⊎◌, ℕ, ◌+◌, ◌*◌, ◌<◌, ◌≤◌, ℤ, ◌≤ℤ◌, Option, Some, None, List, [], ◌∷◌, ◌++◌, length, codes}
use Rattle.std.specs.List.{flat_map}
use Rattle.std.specs.Fmt.{decimal, signed_decimal}
use Rattle.vmv_zone.specs.declared.zone.Zone.{Zone}
use Rattle.vmv_zone.specs.Bounds.{top_bound}
use Rattle.vmv_zone.specs.Zone.{vars_of, bound_of, mark_of, IsBottom, NotBottom}
use Rattle.vmv_proof_words.specs.Words.{Word}
use Rattle.vmv_proof_words.specs.Taking.{IsBetween, IsBoundWord}
use Rattle.vmv_proof_text.specs.States.{Bound, marked_variables}
use Rattle.vmv_proof_text.specs.Naming.{IsNaming}

-- one of so many variables, or 0
abbrev pub IsThingWord : ℕ → ℕ → Word → Type 0
IsThingWord vars i word = (i ≤ vars) × (word ≡ decimal i)

-- a bound on i - j
abbrev pub IsUnderTop : ℕ → ℕ → ℤ → Word → Type 0
IsUnderTop i j c word = IsBoundWord c word × (c ≤ℤ top_bound i j)

abbrev pub IsBottomWord : Zone → Word → Type 0
IsBottomWord z word = (vars_of z ≤ 16) × IsBottom z × (word ≡ decimal (vars_of z))

-- the words of a bound, and of a mark
abbrev pub bound_triple : Bound → List Word
bound_triple b = decimal b.0 ∷ decimal b.1 ∷ signed_decimal b.2 ∷ []

abbrev pub mark_word : ℕ → List Word
mark_word m = decimal m ∷ []

-- a bound comes behind those of lesser places
abbrev pub place_of : Bound → ℕ
place_of b = 32 * b.0 + b.1

-- a bound on the difference of two things, at most top's, behind a place
pub record IsNext (vars last : ℕ) (b : Bound) : Type 0 where
  pub first : b.0 ≤ vars
  pub second : b.1 ≤ vars
  pub other : b.0 ≢ b.1
  pub behind : last < place_of b
  pub between : IsBetween b.2
  pub high : b.2 ≤ℤ top_bound b.0 b.1

-- a variable behind another
abbrev pub IsNextMark : ℕ → ℕ → ℕ → Type 0
IsNextMark vars last m = (last < m) × (m ≤ vars)

abbrev pub TakesBound : ℕ → ℕ → List Word → List Word → Option Bound → Type 0
TakesBound vars last old new (Some b) = IsNext vars last b × (old ≡ bound_triple b ++ new)
TakesBound vars last old new None = (b : Bound) (rest : List Word) → IsNext vars last b → old ≡ bound_triple b ++ rest → ⊥

abbrev pub TakesMark : ℕ → ℕ → List Word → List Word → Option ℕ → Type 0
TakesMark vars last old new (Some m) = IsNextMark vars last m × (old ≡ mark_word m ++ new)
TakesMark vars last old new None = (m : ℕ) (rest : List Word) → IsNextMark vars last m → old ≡ mark_word m ++ rest → ⊥

-- each may stand behind the one before it
abbrev pub Climb : {P A : Type 0} → (P → A → Type 0) → (A → P) → P → List A → Type 0
Climb Next at p [] = Unit {0}
Climb Next at p (x ∷ xs) = Next p x × Climb Next at (at x) xs

abbrev pub AreBounds : ℕ → List Bound → Type 0
AreBounds vars bounds = Climb (IsNext vars) place_of 0 bounds

abbrev pub AreMarks : ℕ → List ℕ → Type 0
AreMarks vars marks = Climb (IsNextMark vars) (λ m. m) 0 marks

-- so many, and these
abbrev pub counted : {A : Type 0} → (A → List Word) → List A → List Word
counted show xs = decimal (length xs) ∷ flat_map show xs

-- bounds were taken, and the state has them
pub record AreTaken (old new : List Word) (before after : Zone) : Type 0 where
  pub bounds : List Bound
  pub words : old ≡ counted bound_triple bounds ++ new
  pub naming : IsNaming after bounds
  pub vars : vars_of after ≡ vars_of before
  pub bottom : NotBottom after
  pub marks : (p : ℕ) → mark_of after p ≡ mark_of before p

abbrev pub NoBounds : ℕ → List Word → Type 0
NoBounds vars words = (bounds : List Bound) (rest : List Word) → AreBounds vars bounds → words ≡ counted bound_triple bounds ++ rest → ⊥

-- the words are the marks of the state, which is as before but for these
pub record LastMarks (words : List Word) (before after : Zone) : Type 0 where
  pub same : words ≡ counted mark_word (marked_variables after)
  pub vars : vars_of after ≡ vars_of before
  pub bottom : NotBottom after
  pub bounds : (i j : ℕ) → bound_of after i j ≡ bound_of before i j

abbrev pub NoMarks : ℕ → List Word → Type 0
NoMarks vars words = (marks : List ℕ) → AreMarks vars marks → words ≡ counted mark_word marks → ⊥

-- what stands behind the word `vars`
abbrev pub told_words : ℕ → List Bound → List ℕ → List Word
told_words vars bounds marks = decimal vars ∷ codes "bounds" ∷ (counted bound_triple bounds ++ codes "nonzero" ∷ counted mark_word marks)

pub record IsToldWords (z : Zone) (words : List Word) : Type 0 where
  pub few : vars_of z ≤ 16
  pub not_bottom : NotBottom z
  pub bounds : List Bound
  pub naming : IsNaming z bounds
  pub same : words ≡ told_words (vars_of z) bounds (marked_variables z)

abbrev pub TellsTold : List Word → Option Zone → Type 0
TellsTold words (Some z) = IsToldWords z words
TellsTold words None = (z : Zone) → IsToldWords z words → ⊥

-- the words of a state of at most 16 variables
abbrev pub IsStateWords : Zone → List Word → Type 0
IsStateWords z words =
    ((word : Word) × IsBottomWord z word × (words ≡ codes "bottom" ∷ word ∷ []))
    ⊎ ((rest : List Word) × IsToldWords z rest × (words ≡ codes "vars" ∷ rest))

abbrev pub TellsState : List Word → Option Zone → Type 0
TellsState words (Some z) = IsStateWords z words
TellsState words None = (z : Zone) → IsStateWords z words → ⊥
