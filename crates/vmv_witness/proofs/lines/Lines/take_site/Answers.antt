use Rattle.vmv_witness.proofs.Parts.{site_fault}
use Rattle.vmv_witness.proofs.lines.Lines.take_site.Goals as goal

pub returns-in-Err : goal.returns-in-Err
returns-in-Err c =
    site_fault c.in-Some.bytes.now c.args.self.now c.take_behind.new.self c.in-Err.ill c.at.result c.at.ensures c.in-Some.ensures.some c.in-Err.ensures
