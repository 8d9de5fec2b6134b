use Rattle.vmv_proof_line.proofs.StateTold.{no_line, state_tells}
use Rattle.vmv_proof_line.proofs.states.told_state.Goals as goal

pub returns-in_default : goal.returns-in_default
returns-in_default c = no_line c.args.line.now c.args.word.now c.requires c.in_default.ensures.none

pub returns : goal.returns
returns c = state_tells c.args.line.now c.args.word.now c.in-Some.words c.state_of.result c.requires c.in-Some.ensures.some c.state_of.ensures
