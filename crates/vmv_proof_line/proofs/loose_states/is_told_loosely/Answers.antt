use Rattle.std.proofs.Common.{arith, ap, length}
use Rattle.std.proofs.lemmas.Bool.{false≢true}
use Rattle.vmv_proof_line.proofs.LooseTold.{no_number, no_marks_word, all_loose}
use Rattle.vmv_proof_line.proofs.loose_states.is_told_loosely.Goals as goal

pub returns-in_default : goal.returns-in_default
returns-in_default c = (λ t. absurd (false≢true t), λ h. absurd (no_number c.args.words.now c.in_default.ensures.none h))

pub returns-then-not-takes-2 : goal.returns-then-not-takes-2
returns-then-not-takes-2 c = (
  λ t. absurd (false≢true t),
  λ h. let one = c.in-Some.ensures.some in
      absurd (no_marks_word c.args.words.now c.next_number.new.self c.takes.new.self c.takes_bounds_loosely.new.words c.in-Some.field-0.now (omega (arith, c.requires, ap length one.1, ap length c.if-not-takes.ensures.yes))
      one.1 c.if-not-takes.ensures.yes c.if-not-takes_bounds_loosely.ensures.yes c.if-not-takes-2.ensures.no h),
)

pub returns : goal.returns
returns c =
    let one = c.in-Some.ensures.some in
    all_loose c.args.words.now c.next_number.new.self c.takes.new.self c.takes_bounds_loosely.new.words c.takes-2.new.self c.in-Some.field-0.now c.are_last_marks.result (omega (arith, c.requires, ap length one.1, ap length c.if-not-takes.ensures.yes))
    one.0 one.1 c.if-not-takes.ensures.yes c.if-not-takes_bounds_loosely.ensures.yes c.if-not-takes-2.ensures.yes c.are_last_marks.ensures
