-- What is told of an input before and after some of it was read.
use Rattle.std.specs.Prelude.{◌≡◌, ℕ, ◌≤◌, List, ◌++◌, length, Option, Some, None, ⊤}
use Rattle.vmv_edge.specs.Outside.{WasRead}

-- it holds of what is still to be read, where that is told
abbrev pub OfInput : Option (List ℕ) → (List ℕ → Type 0) → Type 0
OfInput None P = ⊤
OfInput (Some input) P = P input

-- where what is still to be read is told, it is told after too, and this holds of the two
abbrev pub OfInputs : Option (List ℕ) → Option (List ℕ) → (List ℕ → List ℕ → Type 0) → Type 0
OfInputs None now P = ⊤
OfInputs (Some before) None P = ⊥
OfInputs (Some before) (Some now) P = P before now

-- at most so many bytes were read
abbrev pub WereRead : ℕ → Option (List ℕ) → Option (List ℕ) → Type 0
WereRead most before now = (bytes : List ℕ) × (length bytes ≤ most) × WasRead before bytes now

-- bytes that stand behind others, all of which were read
abbrev pub IsFilled : Option (List ℕ) → Option (List ℕ) → (front room : List ℕ) → Type 0
IsFilled before now front room = (bytes : List ℕ) × (room ≡ front ++ bytes) × WasRead before bytes now
