-- Lines of a word and what stands behind it.
use Rattle.std.specs.Prelude.{◌≡◌, ◌⊎◌, ℕ, ℤ, Bool, true, false, Option, Some, None, List, [], ◌∷◌, ◌++◌, codes}
use Rattle.std.specs.Fmt.{decimal, signed_decimal}
use Rattle.vmv_tree.specs.declared.name.Name.{Name}
use Rattle.vmv_cond.specs.declared.cond.Piece.{Piece}
use Rattle.vmv_cond.specs.declared.cond.Piece.TheVariants.{Below, Above, Zero}
use Rattle.vmv_witness.specs.Numbers.{IsNumber}
use Rattle.vmv_proof_words.specs.Words.{Word}
use Rattle.vmv_proof_text.specs.Text.{spaced}
use Rattle.vmv_proof_text.specs.Lines.{IsCount, IsName, IsPiece, IsRange}
use Rattle.vmv_proof_text.specs.Loose.{IsLoosely}
use Rattle.vmv_proof_text.specs.Parts.{row_part, exclude_part, box_part}

-- the word and a number of 32 bits
abbrev pub IsCountLine : List ℕ → ℕ → List ℕ → Type 0
IsCountLine word n line = IsCount n × (line ≡ word ++ spaced (decimal n))

-- the word and a name
abbrev pub IsNameLine : List ℕ → Name → List ℕ → Type 0
IsNameLine word name line = IsName name × (line ≡ word ++ spaced name)

-- what a line tells of the head of a row, but for the size of its number
abbrev pub IsRowLoosely : List ℕ → Type 0
IsRowLoosely line = IsLoosely (row_part [] 0) line

-- the words of a piece
abbrev pub piece_words : Piece → List Word
piece_words (Below end) = codes "below" ∷ signed_decimal end ∷ []
piece_words (Above end) = codes "above" ∷ signed_decimal end ∷ []
piece_words Zero = codes "zero" ∷ []

-- the words of a piece with an end of any size
abbrev pub IsPieceWords : List Word → Type 0
IsPieceWords words =
    ((end : Word) × IsNumber end × (words ≡ codes "below" ∷ end ∷ [])) ⊎ ((end : Word) × IsNumber end × (words ≡ codes "above" ∷ end ∷ [])) ⊎ (words ≡ codes "zero" ∷ [])

-- a piece stands first, and is taken; or none does
abbrev pub TakesPiece : List Word → List Word → Option Piece → Type 0
TakesPiece old new (Some piece) = IsPiece piece × (old ≡ piece_words piece ++ new)
TakesPiece old new None = (piece : Piece) (rest : List Word) → IsPiece piece → old ≡ piece_words piece ++ rest → ⊥

abbrev pub TakesPieceLoosely : List Word → List Word → Bool → Type 0
TakesPieceLoosely old new true = (words : List Word) × IsPieceWords words × (old ≡ words ++ new)
TakesPieceLoosely old new false = (words rest : List Word) → IsPieceWords words → old ≡ words ++ rest → ⊥

-- what a line tells of the head of an exclusion, but for the size of its numbers
abbrev pub IsExcludeLoosely : List ℕ → Type 0
IsExcludeLoosely line = IsLoosely (exclude_part [] [] Zero 0) line

-- the two words of a range
abbrev pub range_pair : ℤ × ℤ → List Word
range_pair r = signed_decimal r.0 ∷ signed_decimal r.1 ∷ []

-- a range stands first, and is taken; or none does
abbrev pub TakesRange : List Word → List Word → Option (ℤ × ℤ) → Type 0
TakesRange old new (Some r) = IsRange r × (old ≡ range_pair r ++ new)
TakesRange old new None = (r : ℤ × ℤ) (rest : List Word) → IsRange r → old ≡ range_pair r ++ rest → ⊥

abbrev pub AreNumbers : Word × Word → Type 0
AreNumbers r = IsNumber r.0 × IsNumber r.1

abbrev pub TakesRangeLoosely : List Word → List Word → Bool → Type 0
TakesRangeLoosely old new true = (r : Word × Word) × AreNumbers r × (old ≡ r.0 ∷ r.1 ∷ new)
TakesRangeLoosely old new false = (r : Word × Word) (rest : List Word) → AreNumbers r → old ≡ r.0 ∷ r.1 ∷ rest → ⊥

-- what a line tells of a box, but for the size of its numbers
abbrev pub IsBoxLoosely : List ℕ → Type 0
IsBoxLoosely line = IsLoosely (box_part []) line
