-- Why a text is no witness text, and at which line.
use Rattle.std.specs.Prelude.{◌≡◌, ◌≢◌, ℕ, ◌+◌, ◌<◌, ◌≤◌, List, [], ◌∷◌, ◌++◌, length, ⊤}
use Rattle.vmv_witness.specs.declared.fault.WitnessFault.{WitnessFault}
use Rattle.vmv_witness.specs.declared.fault.WitnessFault.TheVariants.{Syntax, Range, Limit, Memory}
use Rattle.vmv_witness.specs.Numbers.{IsNumber, IsSiteNumber, IsValue}
use Rattle.vmv_witness.specs.Text.{Spelled, lines_of, text_of, IsSpelled}

-- the lines of some witness text begin with these
abbrev pub Begins : List (List ℕ) → Type 0
Begins lines = (s : Spelled) × (more : List (List ℕ)) × IsSpelled IsSiteNumber IsValue s × (lines_of s ≡ lines ++ more)

-- those of some text that is a witness text but for numbers that may be of any size
abbrev pub BeginsLoosely : List (List ℕ) → Type 0
BeginsLoosely lines = (s : Spelled) × (more : List (List ℕ)) × IsSpelled IsNumber IsNumber s × (lines_of s ≡ lines ++ more)

-- The text is no witness text, but some witness text begins with its lines before line n, behind which is the rest.
pub record Departs (text : List ℕ) (n : ℕ) (before : List (List ℕ)) (rest : List ℕ) : Type 0 where
  pub place : text ≡ text_of before ++ rest
  pub number : n ≡ length before + 1
  pub begun : Begins before
  pub none : (s : Spelled) → IsSpelled IsSiteNumber IsValue s → text ≢ text_of (lines_of s)

-- no line with its LF stands at line n, or one that may not, whatever the size of its number
pub record SyntaxAt (text : List ℕ) (n : ℕ) : Type 0 where
  pub before : List (List ℕ)
  pub rest : List ℕ
  pub departs : Departs text n before rest
  pub shut : (line more : List ℕ) → rest ≡ line ++ 10 ∷ more → BeginsLoosely (before ++ line ∷ []) → ⊥

-- a line stands at line n that may but for the size of its number
pub record RangeAt (text : List ℕ) (n : ℕ) : Type 0 where
  pub before : List (List ℕ)
  pub line : List ℕ
  pub more : List ℕ
  pub departs : Departs text n before (line ++ 10 ∷ more)
  pub loosely : BeginsLoosely (before ++ line ∷ [])
  pub out : Begins (before ++ line ∷ []) → ⊥

-- Each fault is told exactly where it is so. Of memory nothing is said.
abbrev pub IsWhy : List ℕ → WitnessFault → Type 0
IsWhy text (Syntax n) = (length text ≤ 1048576) × SyntaxAt text n
IsWhy text (Range n) = (length text ≤ 1048576) × RangeAt text n
IsWhy text (Limit found) = (1048576 < length text) × (found ≡ length text)
IsWhy text Memory = ⊤
