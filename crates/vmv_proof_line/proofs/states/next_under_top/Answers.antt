use Rattle.std.proofs.Common.{rules}
use Rattle.vmv_proof_line.proofs.StateNaming.{not_under}
use Rattle.vmv_proof_line.proofs.states.next_under_top.Goals as goal

pub returns-then-bound-top_of : goal.returns-then-bound-top_of
returns-then-bound-top_of c =
    let t = c.in-Some.ensures in
    not_under c.args.words.now c.next_bound.new.self t.0 c.in-Some.bound c.top_of.result c.args.i c.args.j t.1 t.2 c.top_of.ensures (let less = c.if-bound-top_of.true in search (rules))
