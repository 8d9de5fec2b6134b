use Rattle.std.proofs.Common.{◌∙◌}
use Rattle.std.proofs.lemmas.Bool.Decides.{Decides-eqb}
use Rattle.std.proofs.lemmas.Slice.Eq.{slice_eq-Decides}
use Rattle.vmv_proof_line.proofs.LooseTold.{bottom_loose, vars_loose}
use Rattle.vmv_proof_line.proofs.loose_states.is_loose_state.Goals as goal

pub returns-then-eq : goal.returns-then-eq
returns-then-eq c =
    bottom_loose c.args.words.now c.next_word.new.self c.in-Some.word.now c.is_last_number.result c.in-Some.ensures.some ((slice_eq-Decides Decides-eqb _ _ _ c.eq.ensures).0 c.if-eq.true ∙ c.as_slice.ensures) c.is_last_number.ensures

pub returns-then-eq-2 : goal.returns-then-eq-2
returns-then-eq-2 c =
    vars_loose c.args.words.now c.next_word.new.self c.in-Some.word.now c.is_told_loosely.result c.in-Some.ensures.some ((slice_eq-Decides Decides-eqb _ _ _ c.eq-2.ensures).0 c.if-eq-2.true ∙ c.as_slice-2.ensures)
    c.is_told_loosely.ensures
