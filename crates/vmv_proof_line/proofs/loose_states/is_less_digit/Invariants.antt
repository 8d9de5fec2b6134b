use Rattle.std.proofs.Common.{◌≡◌, drop}
use Rattle.vmv_proof_text.specs.Loose.{is_less_digit}
use Rattle.vmv_proof_line.proofs.loose_states.is_less_digit.Given as goal

abbrev pub invariant-loop-i : goal.invariant-loop-i
invariant-loop-i l = is_less_digit l.digits l.others ≡ is_less_digit (drop l.i l.digits) (drop l.i l.others)
