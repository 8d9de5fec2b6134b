use Rattle.std.proofs.Common.{◌≡◌, Some, sym, ◌∙◌, ap, rules}
use denote.Enum.Bare.{same_true, true_same}
use Rattle.vmv_text.specs.contracts.symbol.Symbol.{the_type}
use Rattle.vmv_text.specs.Symbols.{as_token, symbol_in}
use Rattle.vmv_text.proofs.SymbolTokens.{token_symbol, symbol_token}
use Rattle.vmv_text.proofs.symbol.is_token.Goals as goal

pub returns : goal.returns
returns c =
    let token = symbol_token c.in-Some.token c.in-Some-symbol_of.symbol (sym c.in-Some-symbol_of.ensures) in (
      λ h. c.in-Some.is ∙ ap Some (token ∙ ap as_token (same_true the_type (search rules) _ _ (sym c.eq.ensures ∙ h))),
      λ h.
          let wanted : c.in-Some.token ≡ as_token c.args.wanted = cc (h, c.in-Some.is) in
          let found = c.in-Some-symbol_of.ensures ∙ (ap symbol_in wanted ∙ token_symbol c.args.wanted) in
          let is : c.in-Some-symbol_of.symbol ≡ c.args.wanted = cc found in
          c.eq.ensures ∙ true_same the_type _ _ is,
    )
