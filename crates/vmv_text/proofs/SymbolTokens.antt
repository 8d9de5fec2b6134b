-- A symbol and its token tell one another.
use Rattle.std.proofs.Common.{◌≡◌, Some, refl, ap}
use Rattle.vmv_text.specs.declared.token.Token.{Token}
use Rattle.vmv_text.specs.declared.token.Token.TheVariants as token
use Rattle.vmv_text.specs.declared.symbol.Symbol.{Symbol}
use Rattle.vmv_text.specs.declared.symbol.Symbol.TheVariants.{Minus, Colon, Dots, Comma, Semicolon, Equals, OpenParen, CloseParen, OpenBrace, CloseBrace, ElseWord, ToWord, CapWord, VarWord, ReturnWord, AndWord, OrWord, NotWord, OpenBracket, CloseBracket}
use Rattle.vmv_text.specs.Symbols.{as_token, symbol_in}

pub token_symbol : (s : Symbol) → symbol_in (as_token s) ≡ Some s
token_symbol Minus = refl
token_symbol Colon = refl
token_symbol Dots = refl
token_symbol Comma = refl
token_symbol Semicolon = refl
token_symbol Equals = refl
token_symbol OpenParen = refl
token_symbol CloseParen = refl
token_symbol OpenBrace = refl
token_symbol CloseBrace = refl
token_symbol ElseWord = refl
token_symbol ToWord = refl
token_symbol CapWord = refl
token_symbol VarWord = refl
token_symbol ReturnWord = refl
token_symbol AndWord = refl
token_symbol OrWord = refl
token_symbol NotWord = refl
token_symbol OpenBracket = refl
token_symbol CloseBracket = refl

pub symbol_token : (t : Token) (s : Symbol) → symbol_in t ≡ Some s → t ≡ as_token s
symbol_token token.Minus s h =
    let e : Minus ≡ s = cc h in
    ap as_token e
symbol_token token.Colon s h =
    let e : Colon ≡ s = cc h in
    ap as_token e
symbol_token token.Dots s h =
    let e : Dots ≡ s = cc h in
    ap as_token e
symbol_token token.Comma s h =
    let e : Comma ≡ s = cc h in
    ap as_token e
symbol_token token.Semicolon s h =
    let e : Semicolon ≡ s = cc h in
    ap as_token e
symbol_token token.Equals s h =
    let e : Equals ≡ s = cc h in
    ap as_token e
symbol_token token.OpenParen s h =
    let e : OpenParen ≡ s = cc h in
    ap as_token e
symbol_token token.CloseParen s h =
    let e : CloseParen ≡ s = cc h in
    ap as_token e
symbol_token token.OpenBrace s h =
    let e : OpenBrace ≡ s = cc h in
    ap as_token e
symbol_token token.CloseBrace s h =
    let e : CloseBrace ≡ s = cc h in
    ap as_token e
symbol_token token.ElseWord s h =
    let e : ElseWord ≡ s = cc h in
    ap as_token e
symbol_token token.ToWord s h =
    let e : ToWord ≡ s = cc h in
    ap as_token e
symbol_token token.CapWord s h =
    let e : CapWord ≡ s = cc h in
    ap as_token e
symbol_token token.VarWord s h =
    let e : VarWord ≡ s = cc h in
    ap as_token e
symbol_token token.ReturnWord s h =
    let e : ReturnWord ≡ s = cc h in
    ap as_token e
symbol_token token.AndWord s h =
    let e : AndWord ≡ s = cc h in
    ap as_token e
symbol_token token.OrWord s h =
    let e : OrWord ≡ s = cc h in
    ap as_token e
symbol_token token.NotWord s h =
    let e : NotWord ≡ s = cc h in
    ap as_token e
symbol_token token.OpenBracket s h =
    let e : OpenBracket ≡ s = cc h in
    ap as_token e
symbol_token token.CloseBracket s h =
    let e : CloseBracket ≡ s = cc h in
    ap as_token e
symbol_token t s h = absurd (cc h)
