-- What the definitions say of small texts, computed.
use Rattle.std.proofs.Common.{◌≡◌, ℕ, List, [], ◌∷◌, ◌++◌, replicate, refl}
use Rattle.std.specs.Prelude.{codes}
use Rattle.vmv_text.specs.declared.token.Token.TheVariants.{Named, Number, Edge, Bad, EntryWord, ToWord, Dots, DoubleEquals, LessOrEqual, Equals, Minus, Slash, Semicolon}
use Rattle.vmv_text.specs.Tokens.{tokens, placed_tokens}
use Rattle.vmv_text.specs.Faults.{line_after, column_after, front_at}

-- each `-` is a token
two_signs : tokens (codes "x=a - -1;") ≡ Named (codes "x") ∷ Equals ∷ Named (codes "a") ∷ Minus ∷ Minus ∷ Number 1 ∷ Semicolon ∷ []
unfolding tokens placed_tokens
two_signs = refl

-- a range, and what a single point is
range : tokens (codes "1..9") ≡ Number 1 ∷ Dots ∷ Number 9 ∷ []
unfolding tokens placed_tokens
range = refl

three_points : tokens (codes "...") ≡ Dots ∷ Bad ∷ []
unfolding tokens placed_tokens
three_points = refl

-- the longest symbol is taken
longest : tokens (codes "===<==") ≡ DoubleEquals ∷ Equals ∷ LessOrEqual ∷ Equals ∷ []
unfolding tokens placed_tokens
longest = refl

lone_mark : tokens (codes "! =") ≡ Bad ∷ Equals ∷ []
unfolding tokens placed_tokens
lone_mark = refl

-- a comment at the end of the text, and one that its line feed ends
comment_last : tokens (codes "a // b") ≡ Named (codes "a") ∷ []
unfolding tokens placed_tokens
comment_last = refl

comment_line : tokens (codes "a // / b" ++ 13 ∷ 10 ∷ 9 ∷ codes "c / /") ≡ Named (codes "a") ∷ Named (codes "c") ∷ Slash ∷ Slash ∷ []
unfolding tokens placed_tokens
comment_line = refl

only_white : tokens (32 ∷ 9 ∷ 13 ∷ 10 ∷ codes "//") ≡ []
unfolding tokens placed_tokens
only_white = refl

-- a keyword, and a name that begins with one
keyword_or_name : tokens (codes "entry to1 to") ≡ EntryWord ∷ Named (codes "to1") ∷ ToWord ∷ []
unfolding tokens placed_tokens
keyword_or_name = refl

-- a digit begins no name
digits_first : tokens (codes "1a") ≡ Number 1 ∷ Named (codes "a") ∷ []
unfolding tokens placed_tokens
digits_first = refl

long_name : tokens (replicate 64 97) ≡ Named (replicate 64 97) ∷ []
unfolding tokens placed_tokens
long_name = refl

longer_name : tokens (replicate 65 97 ++ codes ";") ≡ Bad ∷ Semicolon ∷ []
unfolding tokens placed_tokens
longer_name = refl

leading_zeros : tokens (codes "007 0") ≡ Number 7 ∷ Number 0 ∷ []
unfolding tokens placed_tokens
leading_zeros = refl

large_numbers : tokens (codes "9223372036854775807 9223372036854775808 9223372036854775809") ≡ Number 9223372036854775807 ∷ Edge ∷ Bad ∷ []
unfolding tokens placed_tokens
large_numbers = refl

-- a byte that begins no token is a bad token alone
bad_bytes : tokens (codes "#" ++ 195 ∷ 164 ∷ []) ≡ Bad ∷ Bad ∷ Bad ∷ []
unfolding tokens placed_tokens
bad_bytes = refl

-- the end of a text, in its second line
cut_text : List ℕ
cut_text = codes "outside read(0);" ++ 10 ∷ codes "entry e() { var q; q = re"

end_line : line_after (front_at cut_text 17) ≡ 2
unfolding cut_text tokens placed_tokens
end_line = refl

end_column : column_after (front_at cut_text 17) ≡ 26
unfolding cut_text tokens placed_tokens
end_column = refl

-- its last token
last_column : column_after (front_at cut_text 16) ≡ 24
unfolding cut_text tokens placed_tokens
last_column = refl

-- a text's first byte
first_line : line_after [] ≡ 1
first_line = refl

first_column : column_after [] ≡ 1
first_column = refl
