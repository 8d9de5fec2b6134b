use Rattle.std.proofs.Common.{rules}
use Rattle.vmv_proof_line.proofs.Boxes.{not_range}
use Rattle.vmv_proof_line.proofs.ranges.next_range.Goals as goal

pub returns-then-lo-hi : goal.returns-then-lo-hi
returns-then-lo-hi c =
    let one = c.in-Some.ensures in
    let two = c.in-Some-next_end.ensures in
    not_range c.args.words.now c.next_end.new.self c.next_end-2.new.self one.0 two.0 c.in-Some.lo c.in-Some-next_end.hi one.2 one.1 two.2 two.1 (let less = c.if-lo-hi.true in search (rules))
