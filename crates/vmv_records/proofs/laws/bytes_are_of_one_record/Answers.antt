use Rattle.std.proofs.Common.{sym, ap, ◌∙◌}
use Rattle.vmv_records.specs.Reading.{act_in}
use Rattle.vmv_records.proofs.Parts.{some_is}
use Rattle.vmv_records.proofs.Records.{act_again, reply_again}
use Rattle.vmv_records.proofs.laws.bytes_are_of_one_record.Goals as goal

pub returns-clause-acts : goal.returns-clause-acts
returns-clause-acts c = λ a b is-a is-b e. some_is a b (sym (act_again a is-a) ∙ ap act_in e ∙ act_again b is-b)

pub returns-clause-replies : goal.returns-clause-replies
returns-clause-replies c = λ a b bytes is-a is-b e f. some_is a b (sym (reply_again a bytes is-a e) ∙ reply_again b bytes is-b f)
