use Rattle.std.proofs.Common.{◌≡◌, ◌+◌, ◌-◌, ◌<◌, Some, List, length, map, slice_get, slice_set, refl, sym, ap, subst, arith, ◌∙◌}
use Rattle.vmv_snapshot.specs.declared.code.CodeStmt.{CodeStmt}
use Rattle.vmv_snapshot.specs.declared.code.CodeOperand.{CodeOperand}
use Rattle.vmv_snapshot.specs.Code.{help, Stmt}
use Rattle.vmv_cert.specs.Sizes.{loops, block_loops}
use Rattle.vmv_snapshot.specs.View.{stmt_of, block_of}
use Rattle.vmv_zone.specs.declared.zone.Zone.{Zone}
use Rattle.vmv_zone.specs.Zone.{vars_of, IsNormOf}
use Rattle.vmv_step.specs.Steps.{stepped}
use Rattle.vmv_step.specs.Zones.{IsVariable}
use Rattle.vmv_check.specs.Walker.{loop_of}
use Rattle.vmv_check.proofs.Walking.{is_plain, is_help, if_of}
use Rattle.vmv_check.proofs.Lists.{at_place}
use Rattle.vmv_pass.specs.Callees.{block_callees}
use Rattle.vmv_pass.specs.Moves.{given_of, lists, Moves, MovesAll, AreCalled, HasSites, HaveSites}
use Rattle.vmv_pass.proofs.Zips.{set_long}
use Rattle.vmv_pass.proofs.Flags.{told_chain}
use Rattle.vmv_pass.proofs.Rows.{row_takes, row_more, part_as, if_parts, if_moves, if_calls, call_size}
use Rattle.vmv_pass.proofs.walk.+pass.Goals as goal

pub pass_block-loop-stmt-preserved : goal.pass_block-loop-stmt-preserved
pass_block-loop-stmt-preserved g t c = record {
  row =
      row_more c.args.at.now.snapshot.now (given_of c.args.at.now) (length c.args.unproved.now) c.args.mark.now.keep c.args.mark.now.call c.args.block.now c.args.zone.now
      (lists c.args.keeps.now c.args.inputs.now c.args.unproved.now c.args.mark.now.raised c.args.mark.now.looped c.args.steps.now) c.loop-stmt.stmt-index c.loop-stmt.mark.keep c.loop-stmt.mark.call c.pass_stmt.new.mark.keep c.pass_stmt.new.mark.call
      c.loop-stmt.zone c.pass_stmt.new.zone (lists c.loop-stmt.keeps c.loop-stmt.inputs c.loop-stmt.unproved c.loop-stmt.mark.raised c.loop-stmt.mark.looped c.loop-stmt.steps)
      (lists c.pass_stmt.new.keeps c.pass_stmt.new.inputs c.pass_stmt.new.unproved c.pass_stmt.new.mark.raised c.pass_stmt.new.mark.looped c.pass_stmt.new.steps) c.stmt-item.result c.loop-stmt-test.true c.stmt-item.is c.loop-stmt.invariant.row
      c.pass_stmt.ensures.moves c.pass_stmt.ensures.normal c.pass_stmt.ensures.vars c.pass_stmt.ensures.over c.pass_stmt.ensures.sizes c.pass_stmt.ensures.keep c.pass_stmt.ensures.call;
  told = told_chain c.args.inputs.now c.args.risen.now c.loop-stmt.inputs c.loop-stmt.risen c.pass_stmt.new.inputs c.pass_stmt.new.risen c.loop-stmt.invariant.told c.pass_stmt.ensures.told;
}

pub pass_block-pass_stmt-requires : goal.pass_block-pass_stmt-requires
pass_block-pass_stmt-requires g t c κs within =
    let long : length c.loop-stmt.keeps ≡ length c.args.keeps.now = c.loop-stmt.auto.keeps in
    let wide : length c.loop-stmt.inputs ≡ length c.args.inputs.now = c.loop-stmt.auto.inputs in
    let enough = c.requires.kept.enough in
    let calls = c.requires.calls in
    let x = row_takes c.args.at.now.snapshot.now (given_of c.args.at.now) (length c.args.unproved.now) c.args.mark.now.keep c.args.mark.now.call c.args.block.now c.args.zone.now
    (lists c.args.keeps.now c.args.inputs.now c.args.unproved.now c.args.mark.now.raised c.args.mark.now.looped c.args.steps.now) c.loop-stmt.stmt-index c.loop-stmt.mark.keep c.loop-stmt.mark.call t c.loop-stmt.zone
    (lists c.loop-stmt.keeps c.loop-stmt.inputs c.loop-stmt.unproved c.loop-stmt.mark.raised c.loop-stmt.mark.looped c.loop-stmt.steps) c.stmt-item.result c.loop-stmt-test.true c.stmt-item.is c.loop-stmt.invariant.row c.requires.few (omega (arith, long, enough))
    (omega (arith, wide, calls)) c.decreases in
    (x.falls, (within, (x.normal, (x.few, (x.ready, (subst (λ n. HasSites n (stmt_of c.stmt-item.result)) (sym c.loop-stmt.auto.unproved) x.sites, (x.kept, (x.called, (x.calls, (c.requires.results ∙ sym wide, c.requires.scale))))))))))

pub pass_repeat-raise_keep-requires-2-clause-over : goal.pass_repeat-raise_keep-requires-2-clause-over
pass_repeat-raise_keep-requires-2-clause-over g t c k d h =
    c.pass_block.ensures.over k d h ∙ sym (c.again_in_place.ensures.vars ∙ c.pass_block.ensures.vars)

pub pass_repeat-pass_block-requires : goal.pass_repeat-pass_block-requires
pass_repeat-pass_block-requires g t c κs within =
    let r = c.args.repeat.now in
    let long : length c.raise_keep.new.keeps ≡ length c.args.keeps.now = c.raise_keep.auto.keeps in
    let enough = c.requires.kept.enough in
    let one : loops (loop_of r) ≡ 1 + block_loops (block_of r.body) = refl in
    let inside : c.args.mark.now.keep < length c.raise_keep.new.keeps = omega (arith, long, enough, one) in
    let size : vars_of c.turn_in_place.new.zone ≡ vars_of c.args.zone.now =
    c.turn_in_place.ensures.vars ∙ (c.normalize.ensures.vars ∙ (ap vars_of c.copy_from.ensures ∙ (c.raise_keep.ensures.over c.args.mark.now.keep c.index-keeps-k.result inside ∙ c.head_in_place-flag.ensures.vars))) in
    let few = c.requires.few in
    let d = c.decreases in
    let x = part_as c.args.at.now.snapshot.now c.args.zone.now.vars c.turn_in_place.new.zone.vars (length c.args.unproved.now) (length c.args.keeps.now) (length c.args.inputs.now) (map vars_of c.args.inputs.now) t (c.args.mark.now.keep + 1)
    (c.args.mark.now.keep + 1) c.args.mark.now.call c.args.mark.now.call r.body c.as_slice.result.now
    (record { falls = omega (arith, d); ready = c.requires.ready.3; sites = c.requires.sites.2; enough = omega (arith, enough); called = c.requires.called; calls = c.requires.calls }) size refl refl c.as_slice.ensures in (
      x.falls,
      (
        within,
        (
          c.turn_in_place.ensures.normal,
          (
            omega (arith, size, few),
            (
              x.ready,
              (
                subst (λ n. HaveSites n (block_of c.as_slice.result.now)) (sym (set_long c.args.unproved.now (r.site - 1) c.head_in_place-flag.result)) x.sites,
                (
                  record {
                    enough = let e = x.enough in omega (arith, e, long);
                    over = λ k d h. c.raise_keep.ensures.over k d h ∙ (c.head_in_place-flag.ensures.vars ∙ sym size);
                  },
                  (x.called, (x.calls, (c.requires.results, c.requires.scale))),
                ),
              ),
            ),
          ),
        ),
      ),
    )

pub pass_repeat-returns-clause-moves : goal.pass_repeat-returns-clause-moves
pass_repeat-returns-clause-moves g t c =
    let r = c.args.repeat.now in
    let k = c.args.mark.now.keep in
    let flag = c.head_in_place-flag.result in
    let flags = slice_set c.args.unproved.now (r.site - 1) flag in
    let S1 = lists c.raise_keep.new.keeps c.args.inputs.now flags c.raise_keep.new.raised c.raise_keep.new.looped c.raise_keep.new.steps in
    let S2 = lists c.pass_block.new.keeps c.pass_block.new.inputs c.pass_block.new.unproved c.pass_block.new.mark.raised c.pass_block.new.mark.looped c.pass_block.new.steps in
    let one : loops (loop_of r) ≡ 1 + block_loops (block_of r.body) = refl in
    let enough = c.requires.kept.enough in
    let long : length c.raise_keep.new.keeps ≡ length c.args.keeps.now = c.raise_keep.auto.keeps in
    let long' : length c.pass_block.new.keeps ≡ length c.raise_keep.new.keeps = c.pass_block.auto.keeps in
    let long'' : length c.raise_keep-2.new.keeps ≡ length c.pass_block.new.keeps = c.raise_keep-2.auto.keeps in
    let there : slice_get c.raise_keep.new.keeps k ≡ Some c.index-keeps-k.result = at_place c.raise_keep.new.keeps k c.index-keeps-k.result (omega (arith, long, enough, one)) c.index-keeps-k.is in
    let there' : slice_get c.raise_keep-2.new.keeps k ≡ Some c.index-keeps-k-2.result = at_place c.raise_keep-2.new.keeps k c.index-keeps-k-2.result (omega (arith, long, long', long'', enough, one)) c.index-keeps-k-2.is in (
      stepped c.head_in_place-flag.new.zone flag,
      c.index-keeps-k.result,
      c.normalize.new.self,
      c.turn_in_place.new.zone,
      c.pass_block.new.zone,
      c.again_in_place.new.zone,
      c.index-keeps-k-2.result,
      c.normalize-2.new.self,
      S1,
      S2,
      c.head_in_place-flag.ensures.head,
      c.raise_keep.ensures.keeps c.args.inputs.now flags c.index-keeps-k.result there,
      subst (λ (z : Zone). IsNormOf z c.normalize.new.self) (c.copy_from.ensures ∙ sym c.index-keeps-k.is) c.normalize.ensures,
      c.turn_in_place.ensures.turn,
      subst (λ (x : List CodeStmt). MovesAll (given_of c.args.at.now) (k + 1) c.args.mark.now.call (block_of x) c.turn_in_place.new.zone S1 c.pass_block.new.zone S2) c.as_slice.ensures c.pass_block.ensures.moves,
      c.again_in_place.ensures.again,
      c.raise_keep-2.ensures.keeps c.pass_block.new.inputs c.pass_block.new.unproved c.index-keeps-k-2.result there',
      subst (λ (z : Zone). IsNormOf z c.normalize-2.new.self) (c.copy_from-2.ensures ∙ sym c.index-keeps-k-2.is) c.normalize-2.ensures,
      c.leave_in_place.ensures.left,
    )

pub pass_repeat-leave_in_place-requires-clause-index : goal.pass_repeat-leave_in_place-requires-clause-index
pass_repeat-leave_in_place-requires-clause-index g t c =
    let r = c.args.repeat.now in
    let one : loops (loop_of r) ≡ 1 + block_loops (block_of r.body) = refl in
    let enough = c.requires.kept.enough in
    let long : length c.raise_keep.new.keeps ≡ length c.args.keeps.now = c.raise_keep.auto.keeps in
    let inside : c.args.mark.now.keep < length c.raise_keep.new.keeps = omega (arith, long, enough, one) in
    let turned : vars_of c.again_in_place.new.zone ≡ vars_of c.args.zone.now =
    c.again_in_place.ensures.vars ∙ (c.pass_block.ensures.vars ∙ (c.turn_in_place.ensures.vars ∙ (c.normalize.ensures.vars ∙ (ap vars_of c.copy_from.ensures ∙ (c.raise_keep.ensures.over c.args.mark.now.keep c.index-keeps-k.result inside ∙ c.head_in_place-flag.ensures.vars))))) in
    let long' : length c.pass_block.new.keeps ≡ length c.raise_keep.new.keeps = c.pass_block.auto.keeps in
    let long'' : length c.raise_keep-2.new.keeps ≡ length c.pass_block.new.keeps = c.raise_keep-2.auto.keeps in
    let inside' : c.args.mark.now.keep < length c.raise_keep-2.new.keeps = omega (arith, inside, long', long'') in
    let size : vars_of c.normalize-2.new.self ≡ vars_of c.args.zone.now =
    c.normalize-2.ensures.vars ∙ (ap vars_of c.copy_from-2.ensures ∙ (c.raise_keep-2.ensures.over c.args.mark.now.keep c.index-keeps-k-2.result inside' ∙ turned)) in
    subst (λ n. IsVariable n r.index) (sym size) c.requires.ready.0

pub pass_repeat-leave_in_place-requires-clause-slot : goal.pass_repeat-leave_in_place-requires-clause-slot
pass_repeat-leave_in_place-requires-clause-slot g t c =
    let r = c.args.repeat.now in
    let one : loops (loop_of r) ≡ 1 + block_loops (block_of r.body) = refl in
    let enough = c.requires.kept.enough in
    let long : length c.raise_keep.new.keeps ≡ length c.args.keeps.now = c.raise_keep.auto.keeps in
    let inside : c.args.mark.now.keep < length c.raise_keep.new.keeps = omega (arith, long, enough, one) in
    let turned : vars_of c.again_in_place.new.zone ≡ vars_of c.args.zone.now =
    c.again_in_place.ensures.vars ∙ (c.pass_block.ensures.vars ∙ (c.turn_in_place.ensures.vars ∙ (c.normalize.ensures.vars ∙ (ap vars_of c.copy_from.ensures ∙ (c.raise_keep.ensures.over c.args.mark.now.keep c.index-keeps-k.result inside ∙ c.head_in_place-flag.ensures.vars))))) in
    let long' : length c.pass_block.new.keeps ≡ length c.raise_keep.new.keeps = c.pass_block.auto.keeps in
    let long'' : length c.raise_keep-2.new.keeps ≡ length c.pass_block.new.keeps = c.raise_keep-2.auto.keeps in
    let inside' : c.args.mark.now.keep < length c.raise_keep-2.new.keeps = omega (arith, inside, long', long'') in
    let size : vars_of c.normalize-2.new.self ≡ vars_of c.args.zone.now =
    c.normalize-2.ensures.vars ∙ (ap vars_of c.copy_from-2.ensures ∙ (c.raise_keep-2.ensures.over c.args.mark.now.keep c.index-keeps-k-2.result inside' ∙ turned)) in
    subst (λ n. IsVariable n r.slot) (sym size) c.requires.ready.1

pub pass_repeat-returns-clause-vars : goal.pass_repeat-returns-clause-vars
pass_repeat-returns-clause-vars g t c =
    let r = c.args.repeat.now in
    let one : loops (loop_of r) ≡ 1 + block_loops (block_of r.body) = refl in
    let enough = c.requires.kept.enough in
    let long : length c.raise_keep.new.keeps ≡ length c.args.keeps.now = c.raise_keep.auto.keeps in
    let inside : c.args.mark.now.keep < length c.raise_keep.new.keeps = omega (arith, long, enough, one) in
    let turned : vars_of c.again_in_place.new.zone ≡ vars_of c.args.zone.now =
    c.again_in_place.ensures.vars ∙ (c.pass_block.ensures.vars ∙ (c.turn_in_place.ensures.vars ∙ (c.normalize.ensures.vars ∙ (ap vars_of c.copy_from.ensures ∙ (c.raise_keep.ensures.over c.args.mark.now.keep c.index-keeps-k.result inside ∙ c.head_in_place-flag.ensures.vars))))) in
    let long' : length c.pass_block.new.keeps ≡ length c.raise_keep.new.keeps = c.pass_block.auto.keeps in
    let long'' : length c.raise_keep-2.new.keeps ≡ length c.pass_block.new.keeps = c.raise_keep-2.auto.keeps in
    let inside' : c.args.mark.now.keep < length c.raise_keep-2.new.keeps = omega (arith, inside, long', long'') in
    let size : vars_of c.normalize-2.new.self ≡ vars_of c.args.zone.now =
    c.normalize-2.ensures.vars ∙ (ap vars_of c.copy_from-2.ensures ∙ (c.raise_keep-2.ensures.over c.args.mark.now.keep c.index-keeps-k-2.result inside' ∙ turned)) in
    c.leave_in_place.ensures.vars ∙ size

pub pass_repeat-returns-clause-over : goal.pass_repeat-returns-clause-over
pass_repeat-returns-clause-over g t c k d h =
    let r = c.args.repeat.now in
    let one : loops (loop_of r) ≡ 1 + block_loops (block_of r.body) = refl in
    let enough = c.requires.kept.enough in
    let long : length c.raise_keep.new.keeps ≡ length c.args.keeps.now = c.raise_keep.auto.keeps in
    let inside : c.args.mark.now.keep < length c.raise_keep.new.keeps = omega (arith, long, enough, one) in
    let turned : vars_of c.again_in_place.new.zone ≡ vars_of c.args.zone.now =
    c.again_in_place.ensures.vars ∙ (c.pass_block.ensures.vars ∙ (c.turn_in_place.ensures.vars ∙ (c.normalize.ensures.vars ∙ (ap vars_of c.copy_from.ensures ∙ (c.raise_keep.ensures.over c.args.mark.now.keep c.index-keeps-k.result inside ∙ c.head_in_place-flag.ensures.vars))))) in
    c.raise_keep-2.ensures.over k d h ∙ turned

pub pass_if-pass_block-requires : goal.pass_if-pass_block-requires
pass_if-pass_block-requires g t c κs within =
    let size = c.branch_in_place.ensures.vars in
    let few = c.requires.few in
    let first = block_of c.args.first.now in
    let second = block_of c.args.second.now in
    let p = if_parts c.args.at.now.snapshot.now c.args.zone.now.vars (length c.args.unproved.now) (length c.args.keeps.now) (length c.args.inputs.now) (map vars_of c.args.inputs.now) t c.args.mark.now.keep c.args.mark.now.call c.args.test.now
    first second c.requires.ready c.requires.sites c.requires.kept.enough c.requires.called c.requires.calls c.decreases in
    let x = part_as c.args.at.now.snapshot.now c.args.zone.now.vars c.branch_in_place.new.zone.vars (length c.args.unproved.now) (length c.args.keeps.now) (length c.args.inputs.now) (map vars_of c.args.inputs.now) t c.args.mark.now.keep c.args.mark.now.keep
    c.args.mark.now.call c.args.mark.now.call c.args.first.now c.args.first.now p.one size refl refl refl in
    (x.falls, (within, (c.branch_in_place.ensures.normal, (omega (arith, size, few), (x.ready, (x.sites, (record { enough = x.enough; over = λ k d h. c.requires.kept.over k d h ∙ sym size }, (x.called, (x.calls, (c.requires.results, c.requires.scale))))))))))

pub pass_if-pass_block-requires-2 : goal.pass_if-pass_block-requires-2
pass_if-pass_block-requires-2 g t c κs within =
    let size = c.branch_in_place.ensures.vars_other in
    let size' = c.branch_in_place.ensures.vars in
    let few = c.requires.few in
    let long : length c.pass_block.new.keeps ≡ length c.args.keeps.now = c.pass_block.auto.keeps in
    let wide : length c.pass_block.new.inputs ≡ length c.args.inputs.now = c.pass_block.auto.inputs in
    let program = c.args.at.now.snapshot.now in
    let sizes = map vars_of c.args.inputs.now in
    let first = block_of c.args.first.now in
    let second = block_of c.args.second.now in
    let p = if_parts program c.args.zone.now.vars (length c.args.unproved.now) (length c.args.keeps.now) (length c.args.inputs.now) sizes t c.args.mark.now.keep c.args.mark.now.call c.args.test.now
    first second c.requires.ready c.requires.sites c.requires.kept.enough c.requires.called c.requires.calls c.decreases in
    let x = part_as program c.args.zone.now.vars c.branch_in_place.new.other.vars (length c.args.unproved.now) (length c.args.keeps.now) (length c.args.inputs.now) sizes t (c.args.mark.now.keep + block_loops first)
    c.pass_block.new.mark.keep (c.args.mark.now.call + length (block_callees first)) c.pass_block.new.mark.call c.args.second.now c.args.second.now p.other size c.pass_block.ensures.keep c.pass_block.ensures.call refl in
    (x.falls, (within, (c.branch_in_place.ensures.normal_other, (omega (arith, size, few), (x.ready, (subst (λ n. HaveSites n second) (sym c.pass_block.auto.unproved) x.sites, (record { enough = let e = x.enough in omega (arith, e, long); over = λ k d h. c.pass_block.ensures.over k d h ∙ (size' ∙ sym size) }, (subst (λ ns. AreCalled program ns c.pass_block.new.mark.call (block_callees second)) (sym c.pass_block.ensures.sizes) x.called, (let e = x.calls in omega (arith, e, wide), (c.requires.results ∙ sym wide, c.requires.scale))))))))))

pub pass_if-returns-clause-moves : goal.pass_if-returns-clause-moves
pass_if-returns-clause-moves g t c =
    if_moves (given_of c.args.at.now) c.args.mark.now.keep c.args.mark.now.call c.pass_block.new.mark.keep c.pass_block.new.mark.call c.args.test.now (block_of c.args.first.now) (block_of c.args.second.now)
    c.args.zone.now c.branch_in_place.new.zone c.branch_in_place.new.other c.pass_block.new.zone c.pass_block-2.new.zone c.join_with.new.self
    (lists c.args.keeps.now c.args.inputs.now c.args.unproved.now c.args.mark.now.raised c.args.mark.now.looped c.args.steps.now)
    (lists c.pass_block.new.keeps c.pass_block.new.inputs c.pass_block.new.unproved c.pass_block.new.mark.raised c.pass_block.new.mark.looped c.pass_block.new.steps)
    (lists c.pass_block-2.new.keeps c.pass_block-2.new.inputs c.pass_block-2.new.unproved c.pass_block-2.new.mark.raised c.pass_block-2.new.mark.looped c.pass_block-2.new.steps)
    c.branch_in_place.ensures.branched c.pass_block.ensures.keep c.pass_block.ensures.call c.pass_block.ensures.moves c.pass_block-2.ensures.moves c.join_with.ensures.join

pub pass_if-returns-clause-call : goal.pass_if-returns-clause-call
pass_if-returns-clause-call g t c =
    if_calls c.args.mark.now.call c.pass_block.new.mark.call c.pass_block-2.new.mark.call c.args.test.now (block_of c.args.first.now) (block_of c.args.second.now) c.pass_block.ensures.call c.pass_block-2.ensures.call

pub pass_stmt-pass_call-requires-clause-size : goal.pass_stmt-pass_call-requires-clause-size
pass_stmt-pass_call-requires-clause-size g t c =
    call_size c.args.at.now.snapshot.now c.args.zone.now.vars c.args.inputs.now c.args.mark.now.call c.args.stmt.now c.in-Help.to c.in-Help.callee c.in-Help.args c.as_slice.result.now c.in-Help.is c.as_slice.ensures c.requires.ready
    c.requires.called

pub pass_stmt-returns-in-Plain-clause-moves : goal.pass_stmt-returns-in-Plain-clause-moves
pass_stmt-returns-in-Plain-clause-moves g t c =
    subst (λ s. Moves (given_of c.args.at.now) c.args.mark.now.keep c.args.mark.now.call s c.args.zone.now (lists c.args.keeps.now c.args.inputs.now c.args.unproved.now c.args.mark.now.raised c.args.mark.now.looped c.args.steps.now) c.pass_simple.new.zone
    (lists c.args.keeps.now c.args.inputs.now c.pass_simple.new.unproved c.args.mark.now.raised c.args.mark.now.looped c.args.steps.now)) (sym (is_plain c.args.stmt.now c.in-Plain.simple c.in-Plain.is))
    (c.pass_simple.ensures.moves c.args.mark.now.keep c.args.mark.now.call c.args.keeps.now c.args.inputs.now c.args.mark.now.raised c.args.mark.now.looped c.args.steps.now)

pub pass_stmt-returns-in-Help-clause-moves : goal.pass_stmt-returns-in-Help-clause-moves
pass_stmt-returns-in-Help-clause-moves g t c =
    let S = lists c.args.keeps.now c.args.inputs.now c.args.unproved.now c.args.mark.now.raised c.args.mark.now.looped c.args.steps.now in
    let S' = lists c.args.keeps.now c.pass_call.new.inputs c.args.unproved.now c.pass_call.new.raised c.args.mark.now.looped c.args.steps.now in
    subst (λ s. Moves (given_of c.args.at.now) c.args.mark.now.keep c.args.mark.now.call s c.args.zone.now S c.pass_call.new.zone S') (sym (is_help c.args.stmt.now c.in-Help.to c.in-Help.callee c.in-Help.args c.in-Help.is))
    (subst (λ (xs : List CodeOperand). Moves (given_of c.args.at.now) c.args.mark.now.keep c.args.mark.now.call (help c.in-Help.to c.in-Help.callee xs) c.args.zone.now S c.pass_call.new.zone S') c.as_slice.ensures
    (c.pass_call.ensures.moves c.args.mark.now.keep c.in-Help.callee c.args.keeps.now c.args.unproved.now c.args.mark.now.looped c.args.steps.now))

pub pass_stmt-returns-in-If-clause-moves : goal.pass_stmt-returns-in-If-clause-moves
pass_stmt-returns-in-If-clause-moves g t c =
    let S = lists c.args.keeps.now c.args.inputs.now c.args.unproved.now c.args.mark.now.raised c.args.mark.now.looped c.args.steps.now in
    let S' = lists c.pass_if.new.keeps c.pass_if.new.inputs c.pass_if.new.unproved c.pass_if.new.mark.raised c.pass_if.new.mark.looped c.pass_if.new.steps in
    subst (λ (s : Stmt). Moves (given_of c.args.at.now) c.args.mark.now.keep c.args.mark.now.call s c.args.zone.now S c.pass_if.new.zone S')
    (sym (if_of c.args.stmt.now c.in-If.test c.in-If.first c.in-If.second c.as_slice-in-If.result.now c.as_slice-in-If-2.result.now c.in-If.is c.as_slice-in-If.ensures c.as_slice-in-If-2.ensures))
    c.pass_if.ensures.moves

pub pass_if-returns-clause-told : goal.pass_if-returns-clause-told
pass_if-returns-clause-told g t c =
    told_chain c.args.inputs.now c.args.risen.now c.pass_block.new.inputs c.pass_block.new.risen c.pass_block-2.new.inputs c.pass_block-2.new.risen c.pass_block.ensures.told c.pass_block-2.ensures.told
