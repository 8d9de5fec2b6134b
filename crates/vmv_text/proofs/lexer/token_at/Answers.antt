use Rattle.vmv_tree.specs.Names.{is_name_byte}
use Rattle.vmv_text.proofs.Runs.{front_all}
use Rattle.vmv_text.proofs.lexer.token_at.Goals as goal

pub word-requires-clause-run : goal.word-requires-clause-run
word-requires-clause-run c = rw c.word_len-len.ensures (front_all is_name_byte c.args.text.now)
