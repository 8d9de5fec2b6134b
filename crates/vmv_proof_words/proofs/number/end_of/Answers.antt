use Rattle.std.proofs.Common.{rules}
use Rattle.vmv_proof_words.proofs.Digits.{low_end_not_read, high_end_not_read}
use Rattle.vmv_proof_words.proofs.number.end_of.Goals as goal

pub returns-then-bound : goal.returns-then-bound
returns-then-bound c = low_end_not_read c.args.bytes.now c.in-Some.bound c.in-Some.ensures (search rules)

pub returns-then-bound-2 : goal.returns-then-bound-2
returns-then-bound-2 c = high_end_not_read c.args.bytes.now c.in-Some.bound c.in-Some.ensures (search rules)
