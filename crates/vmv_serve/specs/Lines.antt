-- The two lines that a service prints.
use Rattle.std.specs.Prelude.{ℕ, List, [], ◌∷◌, ◌++◌, codes}
use Rattle.std.specs.Fmt.{decimal}

-- a word and what it says
abbrev pub line_of : List ℕ → List ℕ → List ℕ
line_of word said = word ++ (said ++ 10 ∷ [])

-- it listens at this address and its desk has started
abbrev pub serving : List ℕ → List ℕ
serving address = line_of (codes "serving ") address

-- it has ended after so many connections
abbrev pub served : ℕ → List ℕ
served count = line_of (codes "served ") (decimal count)
