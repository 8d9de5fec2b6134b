use Rattle.std.proofs.Common.{arith}
use Rattle.std.proofs.lemmas.Bool.{false≢true}
use Rattle.vmv_proof_line.proofs.LooseTold.{no_loose_line, line_loosely, few_words}
use Rattle.vmv_proof_line.proofs.loose_states.is_state_loosely.Goals as goal

pub returns-in_default : goal.returns-in_default
returns-in_default c = (
  λ t. absurd (false≢true t),
  λ h. absurd (no_loose_line c.args.line.now c.args.word.now (omega (arith, c.if-prove.false)) c.requires c.in_default.ensures.none h),
)

pub is_loose_state-requires : goal.is_loose_state-requires
is_loose_state-requires c = few_words c.args.line.now c.args.word.now c.in-Some.words (omega (arith, c.if-prove.false)) c.in-Some.ensures.some

pub returns : goal.returns
returns c = line_loosely c.args.line.now c.args.word.now c.in-Some.words c.is_loose_state.result (omega (arith, c.if-prove.false)) c.requires c.in-Some.ensures.some c.is_loose_state.ensures
