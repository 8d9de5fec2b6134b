use Rattle.std.proofs.Common.{arith, ◌∙◌}
use Rattle.vmv_records.proofs.Records.{reply_found, reply_again}
use Rattle.vmv_records.proofs.replies.read_reply.Goals as goal

pub returns-clause-found : goal.returns-clause-found
returns-clause-found c = reply_found c.args.bytes.now c.reply_in.result (λ i. omega (arith, c.type_inv.bytes i)) c.reply_in.ensures

pub returns-clause-only : goal.returns-clause-only
returns-clause-only c = λ reply is e. c.reply_in.ensures ∙ reply_again reply c.args.bytes.now is e
