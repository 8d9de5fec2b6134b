use Rattle.std.proofs.Common.{◌∷◌, []}
use Rattle.std.specs.Fmt.{decimal}
use Rattle.vmv_proof_line.proofs.Fields.{count_words, count_told}
use Rattle.vmv_proof_line.proofs.counts.told_count.Goals as goal

pub returns-in_default : goal.returns-in_default
returns-in_default c = λ n h. c.in_default.ensures.none (decimal n ∷ []) (count_words c.args.word.now c.args.line.now n c.requires h)

pub returns : goal.returns
returns c = count_told c.args.word.now c.args.line.now c.in-Some.words c.last_count.result c.requires c.in-Some.ensures.some c.last_count.ensures
