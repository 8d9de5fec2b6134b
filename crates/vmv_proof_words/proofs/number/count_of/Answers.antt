use Rattle.vmv_proof_words.proofs.Digits.{count_not_read}
use Rattle.vmv_proof_words.proofs.number.count_of.Goals as goal

pub returns-then-number : goal.returns-then-number
returns-then-number c = count_not_read c.args.digits.now c.in-Some.number c.in-Some.ensures c.if-number.true
