use Rattle.vmv_witness.proofs.Parts.{pair_fault}
use Rattle.vmv_witness.proofs.lines.Lines.take_pair.Goals as goal

pub returns-in-Err : goal.returns-in-Err
returns-in-Err c =
    pair_fault c.args.word.now c.in-Some.bytes.now c.args.self.now c.take_behind.new.self c.in-Err.ill c.requires c.in-Some.ensures.some c.in-Err.ensures
