use Rattle.vmv_witness.proofs.Parts.{not_line, no_line}
use Rattle.vmv_witness.proofs.lines.Lines.take_line.Goals as goal

pub returns-in_default-clause-none : goal.returns-in_default-clause-none
returns-in_default-clause-none c = no_line c.args.line.now c.args.self.now c.in_default.ensures.none.1

pub returns-in-len1-up-clause-none : goal.returns-in-len1-up-clause-none
returns-in-len1-up-clause-none c =
    not_line c.args.line.now c.in-Some.bytes.now c.args.self.now c.take_behind.new.self c.requires c.in-Some.ensures.some c.in-len1-up.len_at_least
