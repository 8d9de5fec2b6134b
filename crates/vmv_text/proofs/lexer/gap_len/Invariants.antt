use Rattle.std.proofs.Common.{◌≡◌, drop, false}
use Rattle.vmv_text.specs.Tokens.{after_gap}
use Rattle.vmv_text.proofs.lexer.gap_len.Given as goal

abbrev pub invariant-loop-i : goal.invariant-loop-i
invariant-loop-i l = after_gap l.in_comment (drop l.i l.text) ≡ after_gap false l.text
