use Rattle.std.proofs.Common.{◌≡◌, ◌*◌, ◌+◌, refl}
use Rattle.vmv_tree.specs.View.{stmt_of, block_of}
use Rattle.vmv_tree.specs.Limits.{statements, block_statements}
use Rattle.vmv_snapshot.proofs.Walk.{falls_first, falls_second, falls_body, part_first, part_second, part_body, item_known, call_resolved, kept_start, kept_more}
use Rattle.vmv_snapshot.proofs.resolver.Resolver.+resolve.Goals as goal

pub stmt-block-requires : goal.stmt-block-requires
stmt-block-requires t c =
    let d : 2 * statements (stmt_of c.args.stmt.now) ≡ t = c.decreases in (
      falls_first t c.args.stmt.now c.in-If.test c.in-If.first c.in-If.second c.as_slice-in-If.result.now c.in-If.is c.as_slice-in-If.ensures d,
      part_first c.args.self.now c.args.count.now c.args.stmt.now c.in-If.test c.in-If.first c.in-If.second c.as_slice-in-If.result.now c.in-If.is c.as_slice-in-If.ensures c.requires.known c.requires.few,
    )

pub stmt-block-requires-in-If : goal.stmt-block-requires-in-If
stmt-block-requires-in-If t c =
    let d : 2 * statements (stmt_of c.args.stmt.now) ≡ t = c.decreases in (
      falls_second t c.args.stmt.now c.in-If.test c.in-If.first c.in-If.second c.as_slice-in-If-2.result.now c.in-If.is c.as_slice-in-If-2.ensures d,
      part_second c.args.self.now c.args.count.now c.block.new.count c.args.stmt.now c.in-If.test c.in-If.first c.in-If.second c.as_slice-in-If.result.now c.as_slice-in-If-2.result.now c.in-If.is
          c.as_slice-in-If.ensures c.as_slice-in-If-2.ensures c.in_ok-first-in-If.ensures.counted c.requires.known c.requires.few,
    )

pub stmt-block-requires-in-Repeat : goal.stmt-block-requires-in-Repeat
stmt-block-requires-in-Repeat t c =
    let d : 2 * statements (stmt_of c.args.stmt.now) ≡ t = c.decreases in (
      falls_body t c.args.stmt.now c.in-Repeat.index c.in-Repeat.bound c.in-Repeat.cap c.in-Repeat.body c.as_slice-in-Repeat.result.now c.in-Repeat.is c.as_slice-in-Repeat.ensures d,
      part_body c.args.self.now c.args.count.now _ c.args.stmt.now c.in-Repeat.index c.in-Repeat.bound c.in-Repeat.cap c.in-Repeat.body c.as_slice-in-Repeat.result.now c.in-Repeat.is
          c.as_slice-in-Repeat.ensures refl c.requires.known c.requires.few,
    )

pub block-stmt-requires : goal.block-stmt-requires
block-stmt-requires t c =
    let d : 2 * block_statements (block_of c.args.block.now) + 1 ≡ t = c.decreases in
    let k = c.loop-stmt.invariant in
    let h =
    item_known c.args.self.now c.args.block.now c.loop-stmt.stmt-index c.loop-stmt.count t _ c.stmt-item.result c.loop-stmt-test.true c.stmt-item.is k.known k.left c.requires.few k.inside d in
    (h.0, (h.1, h.2))

pub stmt-returns-in-Call-clause-resolved : goal.stmt-returns-in-Call-clause-resolved
stmt-returns-in-Call-clause-resolved t c =
    call_resolved c.args.self.now c.args.count.now c.args.stmt.now c.in-Call.to c.in-Call.callee c.in-Call.args c.as_slice.result.now c.call.result c.in-Call.is c.as_slice.ensures c.call.ensures

pub block-loop-stmt-init : goal.block-loop-stmt-init
block-loop-stmt-init t c = kept_start c.args.self.now c.args.count.now c.args.block.now c.new-codes.result c.requires.known c.new-codes.ensures

pub block-loop-stmt-preserved : goal.block-loop-stmt-preserved
block-loop-stmt-preserved t c =
    kept_more c.args.self.now c.args.count.now c.loop-stmt.count c.stmt.new.count c.args.block.now c.loop-stmt.stmt-index c.loop-stmt.codes c.push.new.self c.stmt-item.result _ c.loop-stmt-test.true
    c.stmt-item.is c.loop-stmt.invariant c.in_ok-stmt.ensures.resolved c.in_ok-stmt.ensures.counted c.in_ok-push.ensures.ok
