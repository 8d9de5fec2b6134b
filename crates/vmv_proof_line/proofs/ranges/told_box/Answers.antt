use Rattle.std.proofs.Common.{◌∷◌, [], ◌++◌, sym, ap, subst, ◌∙◌, ℤ, length, arith}
use Rattle.std.proofs.lemmas.Bool.{iff_false}
use Rattle.vmv_proof_text.specs.Lines.{IsRange}
use Rattle.vmv_proof_line.proofs.Boxes.{ArePairsRead, ends, pairs, ranges_spelled, pairs_more, no_pair, too_many, box_words, box_told, kept_range}
use Rattle.vmv_proof_line.proofs.ranges.told_box.Goals as goal

pub returns-in_default : goal.returns-in_default
returns-in_default c = λ rs h. c.in_default.ensures.none (pairs ends rs) (box_words c.args.line.now rs h)

pub returns-then-ranges-ge16 : goal.returns-then-ranges-ge16
returns-then-ranges-ge16 c =
    λ rs h. too_many IsRange ends c.args.line.now c.loop-words.ranges c.loop-words.words c.loop-words.invariant (iff_false c.is_done.ensures c.loop-words-test.true) (omega (arith, c.if-ranges-ge16.true, ap length c.ranges-in-loop-words.ensures)) rs h.0 h.1 (box_words c.args.line.now rs h)

pub returns-in_default-next_range : goal.returns-in_default-next_range
returns-in_default-next_range c =
    λ rs h. no_pair IsRange ends c.args.line.now c.loop-words.ranges c.loop-words.words c.loop-words.invariant (iff_false c.is_done.ensures c.loop-words-test.true) c.in_default-next_range.ensures rs h.1 (box_words c.args.line.now rs h)

pub loop-words-preserved : goal.loop-words-preserved
loop-words-preserved c =
    let taken = c.in-Some-next_range.ensures in
    let r : ℤ × ℤ = (c.in-Some-next_range.lo, c.in-Some-next_range.hi) in
    let read =
    pairs_more IsRange ends ranges_spelled c.args.line.now c.loop-words.ranges r c.loop-words.words c.next_range.new.words c.loop-words.invariant
    (omega (arith, c.if-ranges-ge16.false, ap length c.ranges-in-loop-words.ensures)) taken.0 taken.1 in
    subst (λ t. ArePairsRead IsRange ends c.args.line.now t c.next_range.new.words) (ap (λ p. c.loop-words.ranges ++ p ∷ []) (kept_range r taken.0) ∙ sym c.push.ensures) read

pub returns : goal.returns
returns c = box_told c.args.line.now c.loop-words.ranges c.loop-words.words c.loop-words.invariant (c.is_done.ensures.0 c.loop-words-test.false)
