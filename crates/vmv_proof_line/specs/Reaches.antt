-- The words of what a procedure may return.
use Rattle.std.specs.Prelude.{◌≡◌, ℕ, ℤ, Bool, Option, Some, None, List, [], ◌∷◌, ◌++◌, codes, if◌then◌else◌}
use Rattle.std.specs.Fmt.{signed_decimal}
use Rattle.vmv_cond.specs.declared.cond.Cond.{Cond}
use Rattle.vmv_cert.specs.declared.row.Reach.TheVariants.{Bottom}
use Rattle.vmv_witness.specs.Numbers.{IsNumber}
use Rattle.vmv_proof_words.specs.Words.{Word}
use Rattle.vmv_proof_text.specs.Text.{is_zero_left_out}
use Rattle.vmv_proof_text.specs.Lines.{IsRange}
use Rattle.vmv_proof_text.specs.Loose.{IsLoosely}
use Rattle.vmv_proof_text.specs.Parts.{result_part}

-- two ends in one word
abbrev pub range_word : List ℕ → List ℕ → Word
range_word lo hi = lo ++ (codes ".." ++ hi)

-- the words behind a range that leaves out 0, and behind one that doesn't
abbrev pub zero_words : Bool → List Word
zero_words out = if out then codes "not" ∷ codes "0" ∷ [] else []

abbrev pub IsRangeWord : ℤ × ℤ → Word → Type 0
IsRangeWord r word = IsRange r × (word ≡ range_word (signed_decimal r.0) (signed_decimal r.1))

-- a range whose ends are numbers of any size, in any order
abbrev pub IsRangeLoosely : Word × Word → Word → Type 0
IsRangeLoosely r word = IsNumber r.0 × IsNumber r.1 × (word ≡ range_word r.0 r.1)

-- the condition has this range, and leaves out 0 as the words tell
abbrev pub IsCondOf : ℤ × ℤ → List Word → Cond → Type 0
IsCondOf r words c = (c.lo ≡ r.0) × (c.hi ≡ r.1) × (words ≡ zero_words (is_zero_left_out c))

-- it is told; or there is none
abbrev pub TellsCond : ℤ × ℤ → List Word → Option Cond → Type 0
TellsCond r words (Some c) = IsCondOf r words c
TellsCond r words None = (c : Cond) → IsCondOf r words c → ⊥

-- what a line tells of a result, but for the size of its numbers
abbrev pub IsResultLoosely : List ℕ → Type 0
IsResultLoosely line = IsLoosely (result_part Bottom) line
