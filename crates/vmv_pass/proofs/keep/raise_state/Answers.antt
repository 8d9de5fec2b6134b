use Rattle.vmv_pass.proofs.keep.raise_state.Goals as goal

pub returns-clause-raised : goal.returns-clause-raised
returns-clause-raised c = (c.join_with.new.self, c.join_with.ensures.join, c.raise_to.ensures)
