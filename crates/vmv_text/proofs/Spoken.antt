-- The tokens, by names that the crates above can use.
use Rattle.std.specs.Prelude.{ℕ}
use Rattle.vmv_tree.specs.declared.name.Name.{Name}
use Rattle.vmv_text.specs.declared.token.Token as type
use Rattle.vmv_text.specs.declared.token.Token.TheVariants as token

abbrev pub Token : Type 0
Token = type.Token

abbrev pub Named : Name → Token
Named x = token.Named x

abbrev pub Number : ℕ → Token
Number n = token.Number n

abbrev pub OutsideWord : Token
OutsideWord = token.OutsideWord

abbrev pub HelperWord : Token
HelperWord = token.HelperWord

abbrev pub EntryWord : Token
EntryWord = token.EntryWord

abbrev pub VarWord : Token
VarWord = token.VarWord

abbrev pub ReturnWord : Token
ReturnWord = token.ReturnWord

abbrev pub AssertWord : Token
AssertWord = token.AssertWord

abbrev pub IfWord : Token
IfWord = token.IfWord

abbrev pub ElseWord : Token
ElseWord = token.ElseWord

abbrev pub RepeatWord : Token
RepeatWord = token.RepeatWord

abbrev pub ToWord : Token
ToWord = token.ToWord

abbrev pub CapWord : Token
CapWord = token.CapWord

abbrev pub Dots : Token
Dots = token.Dots

abbrev pub OpenParen : Token
OpenParen = token.OpenParen

abbrev pub CloseParen : Token
CloseParen = token.CloseParen

abbrev pub OpenBrace : Token
OpenBrace = token.OpenBrace

abbrev pub CloseBrace : Token
CloseBrace = token.CloseBrace

abbrev pub Comma : Token
Comma = token.Comma

abbrev pub Semicolon : Token
Semicolon = token.Semicolon

abbrev pub Colon : Token
Colon = token.Colon

abbrev pub Equals : Token
Equals = token.Equals

abbrev pub Minus : Token
Minus = token.Minus

abbrev pub Edge : Token
Edge = token.Edge
