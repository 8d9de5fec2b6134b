use Rattle.std.proofs.Common.{◌≡◌, drop, fold}
use Rattle.vmv_text.specs.Tokens.{with_digit, number_of}
use Rattle.vmv_text.proofs.lexer.number.Given as goal

abbrev pub invariant-loop-digit : goal.invariant-loop-digit
invariant-loop-digit l = fold with_digit l.value (drop l.digit-index l.digits) ≡ number_of l.digits
