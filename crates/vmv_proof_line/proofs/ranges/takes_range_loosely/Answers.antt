use Rattle.std.proofs.Common.{◌∷◌}
use Rattle.vmv_proof_line.proofs.Boxes.{pair_there, no_second}
use Rattle.vmv_proof_line.proofs.ranges.takes_range_loosely.Goals as goal

pub returns-in_default : goal.returns-in_default
returns-in_default c = λ r rest h e. c.in_default.ensures.none r.0 (r.1 ∷ rest) h.0 e

pub returns-in-Some-next_number : goal.returns-in-Some-next_number
returns-in-Some-next_number c =
    let one = c.in-Some.ensures.some in
    let two = c.in-Some-next_number.ensures.some in
    pair_there c.args.words.now c.next_number.new.self c.next_number-2.new.self _ _ one.0 one.1 two.0 two.1

pub returns-in-None : goal.returns-in-None
returns-in-None c = no_second c.args.words.now c.next_number.new.self _ c.in-Some.ensures.some.1 c.in-None.ensures.none
