-- What the readers of the parts of a proof say of the lines that they read.
use Rattle.std.specs.Prelude.{◌≡◌, ℕ, ◌<◌, Result, Ok, Err, List, [], ◌∷◌, ◌++◌, length, ⊤}
use Rattle.std.specs.List.{AllZip}
use Rattle.vmv_witness.specs.Text.{text_of}
use Rattle.vmv_proof_text.specs.Parts.{Part}
use Rattle.vmv_proof_text.specs.Lines.{IsLine}
use Rattle.vmv_proof_text.specs.Faults.{Line, Start, StartLoosely}
use Rattle.vmv_proof_line.specs.declared.fault.LineFault.{LineFault}
use Rattle.vmv_proof_line.specs.declared.fault.LineFault.TheVariants.{Form, Size, Memory}

-- lines that may tell the parts, one each, stand first in the old text, and behind them the new one
pub record Tells (parts : List Part) (old new : List ℕ) : Type 0 where
  pub lines : List Line
  pub told : AllZip IsLine parts lines
  pub place : old ≡ text_of lines ++ new

-- The lines before the new text are the first lines of something that may be read there, but of nothing all lines.
pub record Stops {A : Type 0} (Has : A → Type 0) (parts : A → List Part) (old new : List ℕ) (before : List Line) : Type 0 where
  pub place : old ≡ text_of before ++ new
  pub begun : (x : A) × Has x × Start (parts x) before
  pub short : (x : A) (more : List Part) → Has x → Start (parts x ++ more) before → length before < length (parts x)

-- no line with its LF stands first in the new text, or one that tells what nothing has there, whatever the size of its numbers
pub record IsShut {A : Type 0} (Has : A → Type 0) (parts : A → List Part) (new : List ℕ) (before : List Line) : Type 0 where
  pub never : (line : Line) (back : List ℕ) (x : A) → Has x → new ≡ line ++ 10 ∷ back → StartLoosely (parts x) before line → ⊥

-- a line stands there that something would have but for the size of its numbers
pub record IsLarge {A : Type 0} (Has : A → Type 0) (parts : A → List Part) (new : List ℕ) (before : List Line) : Type 0 where
  pub line : Line
  pub back : List ℕ
  pub place : new ≡ line ++ 10 ∷ back
  pub loosely : (x : A) × Has x × StartLoosely (parts x) before line
  pub out : (x : A) → Has x → Start (parts x) (before ++ line ∷ []) → ⊥

-- Something is read of which the lines tell the parts, and it is such; or the line first in the new text is at fault.
abbrev pub Reads : {A : Type 0} → (A → Type 0) → (A → List Part) → (old new : List ℕ) → Result A LineFault → Type 0
Reads Has parts old new (Ok x) = Has x × Tells (parts x) old new
Reads Has parts old new (Err Form) = (before : List Line) × Stops Has parts old new before × IsShut Has parts new before
Reads Has parts old new (Err Size) = (before : List Line) × Stops Has parts old new before × IsLarge Has parts new before
Reads Has parts old new (Err Memory) = ⊤

-- whatever it is
abbrev pub Any : {A : Type 0} → A → Type 0
Any x = Unit {0}

-- so many of them
abbrev pub HasCount : {A : Type 0} → ℕ → List A → Type 0
HasCount n xs = length xs ≡ n

-- a single line tells it
abbrev pub only : {A : Type 0} → (A → Part) → A → List Part
only k x = k x ∷ []
