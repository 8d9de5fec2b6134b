-- The tokens of a text.
use Rattle.std.specs.Prelude.{ℕ, zero, suc, ◌+◌, ◌-◌, ◌*◌, ◌^◌, Bool, true, false, not, ◌&&◌, ◌||◌, nat_le, nat_lt, ◌==◌, List, [], ◌∷◌, ◌++◌, length, take, drop, fold, take_while, codes, Option, Some, None, unwrap_or, if◌then◌else◌, map}
use Rattle.std.specs.Option.{option_map}
use Rattle.std.specs.List.{prefix_len}
use Rattle.std.specs.Str.{bytes_eq}
use Rattle.vmv_tree.specs.Names.{is_letter, is_digit, is_name_byte}
use Rattle.vmv_text.specs.declared.language.Language.{Language}
use Rattle.vmv_text.specs.declared.language.Language.TheVariants.{Core, Surface}
use Rattle.vmv_text.specs.declared.token.Token.{Token}
use Rattle.vmv_text.specs.declared.token.Token.TheVariants.{Named, Number, Edge, Bad, OutsideWord, HelperWord, EntryWord, VarWord, ReturnWord, AssertWord, IfWord, ElseWord, RepeatWord, ToWord, CapWord, Dots, DoubleEquals, NotEquals, LessOrEqual, GreaterOrEqual, OpenParen, CloseParen, OpenBrace, CloseBrace, Comma, Semicolon, Colon, Equals, Plus, Minus, Star, Slash, Percent, LessThan, GreaterThan, AndWord, OrWord, NotWord, OpenBracket, CloseBracket}

-- the keywords and the symbols, as they are spelled
abbrev pub item_words : List (List ℕ × Token)
item_words =
    (codes "outside", OutsideWord) ∷ (codes "helper", HelperWord) ∷ (codes "entry", EntryWord) ∷ (codes "var", VarWord) ∷ []

abbrev pub stmt_words : List (List ℕ × Token)
stmt_words =
    (codes "return", ReturnWord) ∷ (codes "assert", AssertWord) ∷ (codes "if", IfWord) ∷ (codes "else", ElseWord) ∷ []

abbrev pub loop_words : List (List ℕ × Token)
loop_words =
    (codes "repeat", RepeatWord) ∷ (codes "to", ToWord) ∷ (codes "cap", CapWord) ∷ []

abbrev pub keywords : List (List ℕ × Token)
keywords = item_words ++ (stmt_words ++ loop_words)

abbrev pub pairs : List (List ℕ × Token)
pairs =
    (codes "..", Dots) ∷ (codes "==", DoubleEquals) ∷ (codes "!=", NotEquals) ∷ (codes "<=", LessOrEqual) ∷ (codes ">=", GreaterOrEqual) ∷ []

abbrev pub marks : List (List ℕ × Token)
marks =
    (codes "(", OpenParen) ∷ (codes ")", CloseParen) ∷ (codes "{", OpenBrace) ∷ (codes "}", CloseBrace) ∷ (codes ",", Comma) ∷ (codes ";", Semicolon) ∷ (codes ":", Colon) ∷ (codes "=", Equals) ∷ (codes "+", Plus) ∷ (codes "-", Minus) ∷ (codes "*", Star) ∷ (codes "/", Slash) ∷ (codes "%", Percent) ∷ (codes "<", LessThan) ∷ (codes ">", GreaterThan) ∷ []

-- the token that is spelled so
abbrev pub spelled : List (List ℕ × Token) → List ℕ → Option Token
spelled [] bytes = None
spelled (word ∷ words) bytes = if bytes_eq bytes word.0 then Some word.1 else spelled words bytes

abbrev pub is_white : ℕ → Bool
is_white b = b == 32 || b == 9 || b == 13 || b == 10

abbrev pub begins_with : ℕ → List ℕ → Bool
begins_with b [] = false
begins_with b (c ∷ rest) = c == b

-- the text from the next token on: behind white space, and behind comments, which end with their line
abbrev pub after_gap : (in_comment : Bool) → List ℕ → List ℕ
after_gap comment [] = []
after_gap true (b ∷ rest) = after_gap (not (b == 10)) rest
after_gap false (b ∷ rest) =
    if is_white b then after_gap false rest else (if b == 47 && begins_with 47 rest then after_gap true rest else b ∷ rest)

-- a number with one more digit
abbrev pub with_digit : ℕ → ℕ → ℕ
with_digit n d = 10 * n + (d - 48)

abbrev pub number_of : List ℕ → ℕ
number_of digits = fold with_digit 0 digits

-- a keyword, or else a name of at most 64 bytes
abbrev pub word_token : List ℕ → Token
word_token bytes = unwrap_or (spelled keywords bytes) (if nat_le (length bytes) 64 then Named bytes else Bad)

abbrev pub number_token : ℕ → Token
number_token n = if nat_lt n (2 ^ 63) then Number n else (if n == 2 ^ 63 then Edge else Bad)

-- a symbol of two bytes, or else of one, and its length
abbrev pub mark_token : List ℕ → Token × ℕ
mark_token text =
    unwrap_or (option_map (λ t. (t, 2)) (spelled pairs (take 2 text))) (unwrap_or (spelled marks (take 1 text)) Bad, 1)

-- the longest token that a text begins with, and its length
abbrev pub token_at : List ℕ → Token × ℕ
token_at [] = (Bad, 0)
token_at (b ∷ rest) =
    if is_letter b then (word_token (take_while is_name_byte (b ∷ rest)), prefix_len is_name_byte (b ∷ rest))
    else (if is_digit b then (number_token (number_of (take_while is_digit (b ∷ rest))), prefix_len is_digit (b ∷ rest)) else mark_token (b ∷ rest))

-- a token, and the text from its first byte on
pub record Placed : Type 0 where
  pub token : Token
  pub from : List ℕ

-- the token that stands first, and then those of what is behind it
abbrev pub token_and : (List ℕ → List Placed) → List ℕ → List Placed
token_and more [] = []
token_and more (b ∷ rest) =
    record { token = (token_at (b ∷ rest)).0; from = b ∷ rest } ∷ more (drop (token_at (b ∷ rest)).1 (b ∷ rest))

-- at most n tokens
abbrev pub tokens_in : ℕ → List ℕ → List Placed
tokens_in zero text = []
tokens_in (suc n) text = token_and (tokens_in n) (after_gap false text)

-- the tokens of a text with their places: it has no more of them than bytes
unfoldable pub placed_tokens : List ℕ → List Placed
placed_tokens text = tokens_in (length text) text

-- the tokens alone
abbrev pub tokens_of : List Placed → List Token
tokens_of [] = []
tokens_of (p ∷ rest) = p.token ∷ tokens_of rest

unfoldable pub tokens : List ℕ → List Token
tokens text = tokens_of (placed_tokens text)

-- what a text of the surface language has beside those

abbrev pub connectives : List (List ℕ × Token)
connectives = (codes "and", AndWord) ∷ (codes "or", OrWord) ∷ (codes "not", NotWord) ∷ []

abbrev pub begins_as_temporary : List ℕ → Bool
begins_as_temporary name = bytes_eq (take 2 name) (codes "__")

-- three names are keywords there, and those that begin with two underscores are bad
abbrev pub surface_word : List ℕ → Token
surface_word name = unwrap_or (spelled connectives name) (if begins_as_temporary name then Bad else Named name)

-- two of the bad bytes are symbols
abbrev pub surface_mark : List ℕ → Token
surface_mark from = if begins_with 91 from then OpenBracket else (if begins_with 93 from then CloseBracket else Bad)

-- what a token is there, from whose first byte on the text is this
abbrev pub surface_token : Token → List ℕ → Token
surface_token (Named name) from = surface_word name
surface_token Bad from = surface_mark from
surface_token token from = token

abbrev pub token_in : Language → Token → List ℕ → Token
token_in Core token from = token
token_in Surface token from = surface_token token from

abbrev pub placed_in : Language → Placed → Placed
placed_in language p = record { token = token_in language p.token p.from; from = p.from }

-- the tokens of a text of a language, with their places
abbrev pub language_tokens : Language → List ℕ → List Placed
language_tokens Core text = placed_tokens text
language_tokens Surface text = map (placed_in Surface) (placed_tokens text)
