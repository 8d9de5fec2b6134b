use Rattle.std.proofs.Common.{arith}
use Rattle.vmv_text.proofs.Runs.{too_large}
use Rattle.vmv_text.proofs.lexer.number.Goals as goal

pub returns-then-value-gt-MOST_TENTH : goal.returns-then-value-gt-MOST_TENTH
returns-then-value-gt-MOST_TENTH c =
    too_large c.loop-digit.value c.loop-digit.digit-index c.args.digits.now (omega arith) (omega arith) c.loop-digit.invariant
