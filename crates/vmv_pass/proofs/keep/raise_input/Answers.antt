use Rattle.vmv_pass.proofs.keep.raise_input.Goals as goal

pub returns : goal.returns
returns c = (c.join_with.new.self, c.join_with.ensures.join, c.normalize.ensures)
