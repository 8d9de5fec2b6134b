-- The keywords and marks that the grammar asks for by themselves.
use Rattle.std.specs.Prelude.{Option, Some, None}
use Rattle.vmv_text.specs.declared.token.Token.{Token}
use Rattle.vmv_text.specs.declared.token.Token.TheVariants as token
use Rattle.vmv_text.specs.declared.symbol.Symbol.{Symbol}
use Rattle.vmv_text.specs.declared.symbol.Symbol.TheVariants.{Minus, Colon, Dots, Comma, Semicolon, Equals, OpenParen, CloseParen, OpenBrace, CloseBrace, ElseWord, ToWord, CapWord, VarWord, ReturnWord, AndWord, OrWord, NotWord, OpenBracket, CloseBracket}

-- the token of a symbol
abbrev pub as_token : Symbol → Token
as_token Minus = token.Minus
as_token Colon = token.Colon
as_token Dots = token.Dots
as_token Comma = token.Comma
as_token Semicolon = token.Semicolon
as_token Equals = token.Equals
as_token OpenParen = token.OpenParen
as_token CloseParen = token.CloseParen
as_token OpenBrace = token.OpenBrace
as_token CloseBrace = token.CloseBrace
as_token ElseWord = token.ElseWord
as_token ToWord = token.ToWord
as_token CapWord = token.CapWord
as_token VarWord = token.VarWord
as_token ReturnWord = token.ReturnWord
as_token AndWord = token.AndWord
as_token OrWord = token.OrWord
as_token NotWord = token.NotWord
as_token OpenBracket = token.OpenBracket
as_token CloseBracket = token.CloseBracket

-- the symbol that a token is
abbrev pub symbol_in : Token → Option Symbol
symbol_in token.Minus = Some Minus
symbol_in token.Colon = Some Colon
symbol_in token.Dots = Some Dots
symbol_in token.Comma = Some Comma
symbol_in token.Semicolon = Some Semicolon
symbol_in token.Equals = Some Equals
symbol_in token.OpenParen = Some OpenParen
symbol_in token.CloseParen = Some CloseParen
symbol_in token.OpenBrace = Some OpenBrace
symbol_in token.CloseBrace = Some CloseBrace
symbol_in token.ElseWord = Some ElseWord
symbol_in token.ToWord = Some ToWord
symbol_in token.CapWord = Some CapWord
symbol_in token.VarWord = Some VarWord
symbol_in token.ReturnWord = Some ReturnWord
symbol_in token.AndWord = Some AndWord
symbol_in token.OrWord = Some OrWord
symbol_in token.NotWord = Some NotWord
symbol_in token.OpenBracket = Some OpenBracket
symbol_in token.CloseBracket = Some CloseBracket
symbol_in t = None
