-- Each write adds to what was written before.
use Rattle.std.proofs.Common.{rules, arith, ◌∙◌, ◌<◌, inl}
use Rattle.vmv_edge.proofs.Appending.{Appended-add, AppendedFront-add, within-rest_of}
use Rattle.vmv_edge.proofs.link.send_all.Goals as goal

pub returns-in_err-n-clause-prefix : goal.returns-in_err-n-clause-prefix
returns-in_err-n-clause-prefix g c =
    let front = AppendedFront-add _ _ _ c.args.piece.now c.loop-from.from c.loop-from.invariant.1 c.in_err-n.ensures.prefix in
    search (rules, front)

pub loop-from-preserved : goal.loop-from-preserved
loop-from-preserved g c =
    let more = Appended-add _ _ _ c.args.piece.now c.loop-from.from c.in_ok-n.n c.loop-from.invariant.1 c.in_ok-n.ensures.appended in
    let within = within-rest_of c.args.piece.now c.loop-from.from c.in_ok-n.n c.loop-from.invariant.0 c.in_ok-n.ensures.within in
    let moved : 0 < c.in_ok-n.n = omega (arith, c.if-n-eq0.false) in
    (within, more, c.in_ok-n.ensures.stands (inl moved) ∙ c.loop-from.invariant.2, c.in_ok-n.ensures.kept ∙ c.loop-from.invariant.3)
