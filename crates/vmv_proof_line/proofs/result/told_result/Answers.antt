use Rattle.std.proofs.Common.{sym, ◌∙◌, subst}
use Rattle.std.proofs.lemmas.Bool.{both_ways, iff_false}
use Rattle.std.proofs.lemmas.Bool.Decides.{Decides-eqb}
use Rattle.std.proofs.lemmas.Slice.Eq.{slice_eq-Decides}
use Rattle.vmv_cond.specs.declared.cond.Cond.{Cond}
use Rattle.vmv_proof_line.specs.Reaches.{IsCondOf}
use Rattle.vmv_proof_line.proofs.Boxes.{kept_range}
use Rattle.vmv_proof_line.proofs.Reaches.{reach_words, to_reach, behind_reach, some_reach, bottom_alone, no_reach, no_cond, reach_told, bottom_told}
use Rattle.vmv_proof_line.proofs.result.told_result.Goals as goal

pub returns-in_default : goal.returns-in_default
returns-in_default c = λ r h. c.in_default.ensures.none (reach_words r) (to_reach c.args.line.now r h)

pub returns-in_default-next_word : goal.returns-in_default-next_word
returns-in_default-next_word c =
    λ r h. some_reach r (sym c.in_default-next_word.ensures.none ∙ behind_reach c.args.line.now c.in-Some.words r c.in-Some.ensures.some h)

pub returns-then-not-is_done : goal.returns-then-not-is_done
returns-then-not-is_done c =
    λ r h. iff_false c.is_done.ensures c.if-not-is_done.true
    (bottom_alone r c.in-Some-next_word.word.now c.next_word.new.self ((slice_eq-Decides Decides-eqb _ _ _ c.eq.ensures).0 c.if-eq.true ∙ c.as_slice.ensures)
    (sym c.in-Some-next_word.ensures.some ∙ behind_reach c.args.line.now c.in-Some.words r c.in-Some.ensures.some h))

pub returns-then-eq : goal.returns-then-eq
returns-then-eq c =
    bottom_told c.args.line.now c.in-Some.words c.next_word.new.self c.in-Some-next_word.word.now c.in-Some.ensures.some c.in-Some-next_word.ensures.some
    ((slice_eq-Decides Decides-eqb _ _ _ c.eq.ensures).0 c.if-eq.true ∙ c.as_slice.ensures) (c.is_done.ensures.0 c.if-not-is_done.false)

pub returns-in_default-told_range : goal.returns-in_default-told_range
returns-in_default-told_range c =
    λ r h. no_reach r c.in-Some-next_word.word.now c.next_word.new.self
    (λ e. both_ways _ c.if-eq.false ((slice_eq-Decides Decides-eqb _ _ _ c.eq.ensures).1 (e ∙ sym c.as_slice.ensures))) c.in_default-told_range.ensures h.0
    (sym c.in-Some-next_word.ensures.some ∙ behind_reach c.args.line.now c.in-Some.words r c.in-Some.ensures.some h)

pub returns-in-Some-told_cond : goal.returns-in-Some-told_cond
returns-in-Some-told_cond c =
    reach_told c.args.line.now c.in-Some.words c.next_word.new.self c.in-Some-next_word.word.now (c.in-Some-told_range.lo, c.in-Some-told_range.hi) c.in-Some-told_cond.cond
    c.in-Some.ensures.some c.in-Some-next_word.ensures.some c.in-Some-told_range.ensures
    (subst (λ r. IsCondOf r c.next_word.new.self c.in-Some-told_cond.cond) (sym (kept_range (c.in-Some-told_range.lo, c.in-Some-told_range.hi) c.in-Some-told_range.ensures.0)) c.in-Some-told_cond.ensures)

pub returns-in-None : goal.returns-in-None
returns-in-None c =
    λ r h. no_cond r c.in-Some-next_word.word.now c.next_word.new.self (c.in-Some-told_range.lo, c.in-Some-told_range.hi)
    (λ e. both_ways _ c.if-eq.false ((slice_eq-Decides Decides-eqb _ _ _ c.eq.ensures).1 (e ∙ sym c.as_slice.ensures))) c.in-Some-told_range.ensures
    (subst (λ r. (x : Cond) → IsCondOf r c.next_word.new.self x → ⊥) (sym (kept_range (c.in-Some-told_range.lo, c.in-Some-told_range.hi) c.in-Some-told_range.ensures.0)) c.in-None.ensures) h.0
    (sym c.in-Some-next_word.ensures.some ∙ behind_reach c.args.line.now c.in-Some.words r c.in-Some.ensures.some h)
