use Rattle.std.proofs.Common.{inl, ◌∷◌, [], sym, refl, ◌∙◌, ap}
use Rattle.std.specs.Prelude.{codes}
use Rattle.std.proofs.lemmas.Bool.{both_ways, iff_false, false≢true}
use Rattle.std.proofs.lemmas.Bool.Decides.{Decides-eqb}
use Rattle.std.proofs.lemmas.Slice.Eq.{slice_eq-Decides}
use Rattle.vmv_proof_line.proofs.Reaches.{loose_words, behind_loose, from_loose, none_loose, bottom_loose, range_not_loose, zero_loose, range_loose, left_out_loose}
use Rattle.vmv_proof_line.proofs.result.is_result_loosely.Goals as goal

pub returns-in_default : goal.returns-in_default
returns-in_default c = (
  λ t. absurd (false≢true t),
  λ h. let w = loose_words c.args.line.now h in absurd (c.in_default.ensures.none w.0 w.2),
)

pub returns-in_default-next_word : goal.returns-in_default-next_word
returns-in_default-next_word c = (
  λ t. absurd (false≢true t),
  λ h. absurd (none_loose (behind_loose c.args.line.now [] (c.in-Some.ensures.some ∙ ap (λ w. codes "result" ∷ w) c.in_default-next_word.ensures.none) h)),
)

pub returns-then-eq : goal.returns-then-eq
returns-then-eq c =
    let whole = c.in-Some.ensures.some ∙ ap (λ w. codes "result" ∷ w) c.in-Some-next_word.ensures.some in
    let bottom = (slice_eq-Decides Decides-eqb _ _ _ c.eq.ensures).0 c.if-eq.true ∙ c.as_slice.ensures in (
      λ t. from_loose c.args.line.now (c.in-Some-next_word.word.now ∷ c.next_word.new.self) whole (inl (λ i. bottom i ∷ c.is_done.ensures.0 t i)),
      λ h. c.is_done.ensures.1 (bottom_loose c.in-Some-next_word.word.now c.next_word.new.self bottom (behind_loose c.args.line.now (c.in-Some-next_word.word.now ∷ c.next_word.new.self) whole h)),
    )

pub returns-in_default-spelled_range : goal.returns-in_default-spelled_range
returns-in_default-spelled_range c = (
  λ t. absurd (false≢true t),
  λ h. absurd (range_not_loose c.in-Some-next_word.word.now c.next_word.new.self
      (λ e. both_ways _ c.if-eq.false ((slice_eq-Decides Decides-eqb _ _ _ c.eq.ensures).1 (e ∙ sym c.as_slice.ensures))) c.in_default-spelled_range.ensures.none
      (behind_loose c.args.line.now (c.in-Some-next_word.word.now ∷ c.next_word.new.self) (c.in-Some.ensures.some ∙ ap (λ w. codes "result" ∷ w) c.in-Some-next_word.ensures.some) h)),
)

pub returns-then-is_done : goal.returns-then-is_done
returns-then-is_done c = (
  λ t. from_loose c.args.line.now (c.in-Some-next_word.word.now ∷ c.next_word.new.self) (c.in-Some.ensures.some ∙ ap (λ w. codes "result" ∷ w) c.in-Some-next_word.ensures.some)
      (range_loose c.in-Some-next_word.word.now c.in-Some-spelled_range.low.now c.in-Some-spelled_range.high.now c.next_word.new.self c.in-Some-spelled_range.ensures.some (c.is_done-2.ensures.0 c.if-is_done.true)),
  λ h. refl,
)

pub returns-then-not-are_around : goal.returns-then-not-are_around
returns-then-not-are_around c = (
  λ t. absurd (false≢true t),
  λ h. absurd (iff_false c.are_around.ensures c.if-not-are_around.true
      (zero_loose c.in-Some-next_word.word.now c.in-Some-spelled_range.low.now c.in-Some-spelled_range.high.now c.next_word.new.self
      (λ e. both_ways _ c.if-eq.false ((slice_eq-Decides Decides-eqb _ _ _ c.eq.ensures).1 (e ∙ sym c.as_slice.ensures))) c.in-Some-spelled_range.ensures.some
      (iff_false c.is_done-2.ensures c.if-is_done.false)
      (behind_loose c.args.line.now (c.in-Some-next_word.word.now ∷ c.next_word.new.self) (c.in-Some.ensures.some ∙ ap (λ w. codes "result" ∷ w) c.in-Some-next_word.ensures.some) h)).0),
)

pub returns : goal.returns
returns c =
    let whole = c.in-Some.ensures.some ∙ ap (λ w. codes "result" ∷ w) c.in-Some-next_word.ensures.some in (
      λ t. from_loose c.args.line.now (c.in-Some-next_word.word.now ∷ c.next_word.new.self) whole
          (left_out_loose c.in-Some-next_word.word.now c.in-Some-spelled_range.low.now c.in-Some-spelled_range.high.now c.next_word.new.self c.in-Some-spelled_range.ensures.some
          (c.are_around.ensures.0 c.if-not-are_around.false) (c.is_not_zero.ensures.0 t)),
      λ h. c.is_not_zero.ensures.1
          (zero_loose c.in-Some-next_word.word.now c.in-Some-spelled_range.low.now c.in-Some-spelled_range.high.now c.next_word.new.self
          (λ e. both_ways _ c.if-eq.false ((slice_eq-Decides Decides-eqb _ _ _ c.eq.ensures).1 (e ∙ sym c.as_slice.ensures))) c.in-Some-spelled_range.ensures.some
          (iff_false c.is_done-2.ensures c.if-is_done.false)
          (behind_loose c.args.line.now (c.in-Some-next_word.word.now ∷ c.next_word.new.self) whole h)).1,
    )
