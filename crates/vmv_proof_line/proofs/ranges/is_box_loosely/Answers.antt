use Rattle.std.proofs.Common.{◌∷◌, [], ◌++◌, refl, arith, length-append}
use Rattle.std.proofs.lemmas.Bool.{iff_false, false≢true}
use Rattle.vmv_proof_line.specs.Shapes.{AreNumbers}
use Rattle.vmv_proof_line.proofs.Boxes.{itself, pairs, numbers_spelled, pairs_more, no_pair, too_many, loose_words_of_box, box_loose}
use Rattle.vmv_proof_line.proofs.ranges.is_box_loosely.Goals as goal

pub returns-in_default : goal.returns-in_default
returns-in_default c = (λ t. absurd (false≢true t), λ h. absurd (c.in_default.ensures.none (pairs itself h.0) (loose_words_of_box c.args.line.now h)))

pub returns-then-count-ge16 : goal.returns-then-count-ge16
returns-then-count-ge16 c = (
  λ t. absurd (false≢true t),
  λ h. let i = c.loop-words.invariant in
      absurd (too_many AreNumbers itself c.args.line.now i.0 c.loop-words.words i.1 (iff_false c.is_done.ensures c.loop-words-test.true) (omega (arith, i.2, c.if-count-ge16.true)) h.0 h.1 h.2 (loose_words_of_box c.args.line.now h)),
)

pub returns-then-not-takes_range_loosely : goal.returns-then-not-takes_range_loosely
returns-then-not-takes_range_loosely c = (
  λ t. absurd (false≢true t),
  λ h. let i = c.loop-words.invariant in
      absurd (no_pair AreNumbers itself c.args.line.now i.0 c.loop-words.words i.1 (iff_false c.is_done.ensures c.loop-words-test.true) c.if-not-takes_range_loosely.ensures h.0 h.2 (loose_words_of_box c.args.line.now h)),
)

pub loop-words-preserved : goal.loop-words-preserved
loop-words-preserved c =
    let i = c.loop-words.invariant in
    let taken = c.if-not-takes_range_loosely.ensures in (
      i.0 ++ taken.0 ∷ [],
      pairs_more AreNumbers itself numbers_spelled c.args.line.now i.0 taken.0 c.loop-words.words c.takes_range_loosely.new.words i.1 (omega (arith, i.2, c.if-count-ge16.false)) taken.1 taken.2,
      omega (arith, i.2, length-append i.0 (taken.0 ∷ [])),
    )

pub returns : goal.returns
returns c =
    let i = c.loop-words.invariant in
    (λ t. box_loose c.args.line.now i.0 c.loop-words.words i.1 (c.is_done.ensures.0 c.loop-words-test.false), λ h. refl)
