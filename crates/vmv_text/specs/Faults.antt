-- Where a text's syntax fault stands.
use Rattle.std.specs.Prelude.{◌≡◌, ℕ, ◌+◌, ◌-◌, ◌<◌, ◌≤◌, ◌==◌, not, List, [], ◌∷◌, ◌++◌, length, take, drop, count_by}
use Rattle.std.specs.List.{suffix_len}
use Rattle.std.specs.Str.{IsUtf8, IsValidUpTo}
use Rattle.vmv_tree.specs.Tree.{Item}
use Rattle.vmv_text.specs.declared.fault.ReadFault.{ReadFault}
use Rattle.vmv_text.specs.declared.fault.ReadFault.TheVariants.{TooLong, NotUtf8, Syntax, Memory}
use Rattle.vmv_text.specs.declared.token.Token.{Token}
use Rattle.vmv_text.specs.Tokens.{Placed, placed_tokens, tokens}
use Rattle.vmv_text.specs.Grammar.{IsProgram}

-- some program's tokens begin so
abbrev pub Begins : List Token → Type 0
Begins ts = (program : List Item) × (more : List Token) × IsProgram program (ts ++ more)

-- The syntax fault stands at token number k, from 0: the tokens before it begin a program, and with it they begin none.
-- At the end of the text it has the number of the tokens: they begin a program, and are none.
pub record FaultAt (ts : List Token) (k : ℕ) : Type 0 where
  pub within : k < length ts + 1
  pub before : Begins (take k ts)
  pub here : k < length ts → Begins (take (k + 1) ts) → ⊥
  pub no_program : (program : List Item) → IsProgram program ts → ⊥

-- lines count line feeds from 1
abbrev pub line_after : List ℕ → ℕ
line_after front = 1 + count_by (λ b. b == 10) front

-- columns count the bytes of the line from 1
abbrev pub column_after : List ℕ → ℕ
column_after front = 1 + suffix_len (λ b. not (b == 10)) front

-- what is left of a text from the first of these tokens on; nothing where there is none
abbrev pub left_from : List Placed → List ℕ
left_from [] = []
left_from (p ∷ rest) = p.from

-- the bytes before the token of this number
abbrev pub front_at : List ℕ → ℕ → List ℕ
front_at text k = take (length text - length (left_from (drop k (placed_tokens text)))) text

-- the text has its syntax fault at this line and column
pub record HasFault (text : List ℕ) (line column : ℕ) : Type 0 where
  pub token : ℕ
  pub fault : FaultAt (tokens text) token
  pub line_is : line ≡ line_after (front_at text token)
  pub column_is : column ≡ column_after (front_at text token)

-- a syntax fault behind this front
abbrev pub IsPlace : List ℕ → ReadFault → Type 0
IsPlace front (TooLong found) = ⊥
IsPlace front (NotUtf8 at) = ⊥
IsPlace front (Syntax line column) = (line ≡ line_after front) × (column ≡ column_after front)
IsPlace front Memory = ⊥

-- Why a text isn't read: it is too long; it isn't UTF-8, and its longest front that is has so many bytes; or it has
-- its syntax fault there. Want of memory says nothing.
abbrev pub IsReadFault : List ℕ → ReadFault → Type 0
IsReadFault text (TooLong found) = (1048576 < length text) × (found ≡ length text)
IsReadFault text (NotUtf8 at) = (length text ≤ 1048576) × IsValidUpTo text at
IsReadFault text (Syntax line column) = (length text ≤ 1048576) × IsUtf8 text × HasFault text line column
IsReadFault text Memory = Unit {0}
