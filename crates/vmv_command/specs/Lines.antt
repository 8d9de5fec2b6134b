-- Lines of output.
use Rattle.std.specs.Prelude.{◌≡◌, ℕ, ◌+◌, List, ◌++◌, codes}
use Rattle.std.specs.Fmt.{decimal}
use Rattle.vmv_report.specs.Texts.{line}

-- what is printed is this line, with this status
abbrev pub IsLine : List ℕ → ℕ → List ℕ → ℕ → Type 0
IsLine text meant printed status = (printed ≡ line text) × (status ≡ meant)

-- The line of a text that departs from its format at a line, behind what the text is called: by the size of numbers alone (range), or
-- otherwise (syntax).
abbrev pub syntax_end : ℕ → List ℕ
syntax_end at = codes ": syntax at line " ++ line (decimal at)

abbrev pub range_end : ℕ → List ℕ
range_end at = codes ": range at line " ++ line (decimal at)

-- behind the name of a site's procedure
abbrev pub site_end : ℕ → List ℕ
site_end site = line (codes "#" ++ decimal site)

-- the line of a text that is longer than it may be, behind what it is called: one byte more was found
abbrev pub too_long_end : ℕ → List ℕ
too_long_end most = codes ": limit bytes found " ++ (decimal (most + 1) ++ (codes " most " ++ line (decimal most)))

-- that line of the text that is called so, and its status
abbrev pub SaysTooLong : (called : List ℕ) (most : ℕ) → List ℕ → ℕ → Type 0
SaysTooLong called most printed status = (printed ≡ called ++ too_long_end most) × (status ≡ 5)
