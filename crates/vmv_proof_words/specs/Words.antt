-- The words of a line, with a space between each and the next.
use Rattle.std.specs.Prelude.{ℕ, ◌==◌, List, [], ◌∷◌, if◌then◌else◌}

abbrev pub Word : Type 0
Word = List ℕ

-- the byte stands before the first word
abbrev pub before_first : ℕ → List Word → List Word
before_first b [] = (b ∷ []) ∷ []
before_first b (word ∷ words) = (b ∷ word) ∷ words

-- the words of bytes: what stands before, between and behind their spaces
unfoldable pub words_of : List ℕ → List Word
words_of [] = [] ∷ []
words_of (b ∷ bytes) = if b == 32 then [] ∷ words_of bytes else before_first b (words_of bytes)

-- the words of what is behind the first byte
unfoldable pub words_behind : List ℕ → List Word
words_behind [] = []
words_behind (b ∷ bytes) = words_of bytes
