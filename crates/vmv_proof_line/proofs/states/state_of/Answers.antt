use Rattle.std.proofs.Common.{◌∙◌}
use Rattle.std.proofs.lemmas.Bool.Decides.{Decides-eqb}
use Rattle.std.proofs.lemmas.Slice.Eq.{slice_eq-Decides}
use Rattle.vmv_proof_line.proofs.StateTold.{vars_tell}
use Rattle.vmv_proof_line.proofs.states.state_of.Goals as goal

pub returns-then-eq-2 : goal.returns-then-eq-2
returns-then-eq-2 c =
    vars_tell c.args.words.now c.next_word.new.self c.in-Some.word.now c.told_vars.result c.in-Some.ensures.some ((slice_eq-Decides Decides-eqb _ _ _ c.eq-2.ensures).0 c.if-eq-2.true ∙ c.as_slice-2.ensures) c.told_vars.ensures
