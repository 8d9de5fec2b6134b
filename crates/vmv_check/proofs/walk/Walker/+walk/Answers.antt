use Rattle.std.proofs.Common.{◌+◌, List, refl, sym, subst}
use Rattle.vmv_snapshot.specs.declared.code.CodeOperand.{CodeOperand}
use Rattle.vmv_snapshot.specs.Code.{branch}
use Rattle.vmv_snapshot.specs.View.{stmt_of, block_of}
use Rattle.vmv_zone.specs.declared.zone.Zone.{Zone}
use Rattle.vmv_zone.specs.Zone.{IsNormOf}
use Rattle.vmv_step.specs.Steps.{stepped}
use Rattle.vmv_cert.specs.Walk.{Walks, WalksCall}
use Rattle.vmv_check.specs.Walker.{walk_of, way_at, loop_of}
use Rattle.vmv_check.proofs.Walking.{begun_of, head_fails, body_fails, again_fails, loop_goes, if_of, if_first_fails, if_second_fails, if_goes, is_plain, is_help, err_way}
use Rattle.vmv_check.proofs.walk.Walker.+walk.Goals as goal

pub walk_if-returns-in_err-walk_block-clause-way : goal.walk_if-returns-in_err-walk_block-clause-way
walk_if-returns-in_err-walk_block-clause-way t c =
    let w = walk_of c.args.self.now in
    subst (λ way. Walks w c.args.n c.args.place.now.keep (branch c.args.test.now (block_of c.args.first.now) (block_of c.args.second.now)) c.args.zone.now way)
    (sym (err_way c.from_residual.result c.walk_block.new.zone c.in_err-walk_block.field-0.0 c.from_residual.ensures.0 c.from_residual.ensures.1))
    (if_first_fails w c.args.n c.args.place.now.keep c.args.place.now.step c.in_err-walk_block.field-0.0 c.args.test.now c.args.first.now c.args.second.now c.args.zone.now c.branch_in_place.new.zone c.branch_in_place.new.other
    c.branch_in_place.ensures.branched c.requires.step c.in_err-walk_block.ensures.way)

pub walk_if-returns-in_err-walk_block-2-clause-way : goal.walk_if-returns-in_err-walk_block-2-clause-way
walk_if-returns-in_err-walk_block-2-clause-way t c =
    let w = walk_of c.args.self.now in
    subst (λ way. Walks w c.args.n c.args.place.now.keep (branch c.args.test.now (block_of c.args.first.now) (block_of c.args.second.now)) c.args.zone.now way)
    (sym (err_way c.from_residual-in_err-walk_block-2.result c.walk_block.new.zone c.in_err-walk_block-2.field-0.0 c.from_residual-in_err-walk_block-2.ensures.0 c.from_residual-in_err-walk_block-2.ensures.1))
    (if_second_fails w c.args.n c.args.place.now.keep c.args.place.now.step c.walk_block.new.place.step c.walk_block.new.place.keep c.in_err-walk_block-2.field-0.0 c.args.test.now c.args.first.now c.args.second.now c.args.zone.now
    c.branch_in_place.new.zone c.branch_in_place.new.other c.walk_block.new.zone c.branch_in_place.ensures.branched c.requires.step c.in_ok-walk_block.ensures.step c.in_ok-walk_block.ensures.keep c.in_ok-walk_block.ensures.way
    c.in_err-walk_block-2.ensures.way)

pub walk_if-returns-clause-way : goal.walk_if-returns-clause-way
walk_if-returns-clause-way t c =
    let w = walk_of c.args.self.now in
    if_goes w c.args.n c.args.place.now.keep c.args.place.now.step c.walk_block.new.place.step c.walk_block.new.place.keep c.args.test.now c.args.first.now c.args.second.now c.args.zone.now
    c.branch_in_place.new.zone c.branch_in_place.new.other c.walk_block.new.zone c.walk_block-2.new.zone c.join_with.new.self c.branch_in_place.ensures.branched c.requires.step c.in_ok-walk_block.ensures.step c.in_ok-walk_block.ensures.keep
    c.in_ok-walk_block.ensures.way c.in_ok-walk_block-2.ensures.way c.join_with.ensures.join

pub walk_repeat-returns-then-not-allowed-clause-way : goal.walk_repeat-returns-then-not-allowed-clause-way
walk_repeat-returns-then-not-allowed-clause-way t c =
    let w = walk_of c.args.self.now in
    let s = stepped c.head_in_place-unproved.new.zone c.head_in_place-unproved.result in
    let norm : IsNormOf c.index-as_slice-place.result c.normalize.new.self = subst (λ (z : Zone). IsNormOf z c.normalize.new.self) c.copy_from.ensures c.normalize.ensures in
    let b = begun_of w c.args.place.now.keep c.args.repeat.now c.args.zone.now s c.index-as_slice-place.result c.normalize.new.self c.turn_in_place.new.zone c.leave_in_place.new.zone c.as_slice.result.now c.as_slice.ensures
    c.index-as_slice-place.is c.requires.kept c.head_in_place-unproved.ensures.head norm c.turn_in_place.ensures.turn c.leave_in_place.ensures.left in
    head_fails w c.args.n c.args.place.now.keep c.args.repeat.now c.args.zone.now s c.index-as_slice-place.result c.normalize.new.self c.turn_in_place.new.zone c.leave_in_place.new.zone b
    (λ p. let f = c.if-not-allowed.ensures.1 p in absurd (cc))

pub walk_repeat-returns-in_err-walk_block-clause-way : goal.walk_repeat-returns-in_err-walk_block-clause-way
walk_repeat-returns-in_err-walk_block-clause-way t c =
    let w = walk_of c.args.self.now in
    let s = stepped c.head_in_place-unproved.new.zone c.head_in_place-unproved.result in
    let norm : IsNormOf c.index-as_slice-place.result c.normalize.new.self = subst (λ (z : Zone). IsNormOf z c.normalize.new.self) c.copy_from.ensures c.normalize.ensures in
    let b = begun_of w c.args.place.now.keep c.args.repeat.now c.args.zone.now s c.index-as_slice-place.result c.normalize.new.self c.turn_in_place.new.zone c.leave_in_place.new.zone c.as_slice.result.now c.as_slice.ensures
    c.index-as_slice-place.is c.requires.kept c.head_in_place-unproved.ensures.head norm c.turn_in_place.ensures.turn c.leave_in_place.ensures.left in
    subst (λ way. Walks w c.args.n c.args.place.now.keep (loop_of c.args.repeat.now) c.args.zone.now way)
    (sym (err_way c.from_residual.result c.leave_in_place.new.zone c.in_err-walk_block.field-0.0 c.from_residual.ensures.0 c.from_residual.ensures.1))
    (body_fails w c.args.n c.args.place.now.keep c.in_err-walk_block.field-0.0 c.args.place.now.step (c.args.place.now.keep + 1) c.args.repeat.now c.as_slice-2.result.now c.args.zone.now s c.index-as_slice-place.result c.normalize.new.self
    c.turn_in_place.new.zone c.leave_in_place.new.zone b (c.if-not-allowed.ensures.0 refl) c.as_slice-2.ensures c.requires.step refl c.in_err-walk_block.ensures.way)

pub walk_repeat-returns-then-not-below-clause-way : goal.walk_repeat-returns-then-not-below-clause-way
walk_repeat-returns-then-not-below-clause-way t c =
    let w = walk_of c.args.self.now in
    let s = stepped c.head_in_place-unproved.new.zone c.head_in_place-unproved.result in
    let norm : IsNormOf c.index-as_slice-place.result c.normalize.new.self = subst (λ (z : Zone). IsNormOf z c.normalize.new.self) c.copy_from.ensures c.normalize.ensures in
    let b = begun_of w c.args.place.now.keep c.args.repeat.now c.args.zone.now s c.index-as_slice-place.result c.normalize.new.self c.turn_in_place.new.zone c.leave_in_place.new.zone c.as_slice.result.now c.as_slice.ensures
    c.index-as_slice-place.is c.requires.kept c.head_in_place-unproved.ensures.head norm c.turn_in_place.ensures.turn c.leave_in_place.ensures.left in
    again_fails w c.args.n c.args.place.now.keep c.args.place.now.step (c.args.place.now.keep + 1) c.args.repeat.now c.as_slice-2.result.now c.args.zone.now s c.index-as_slice-place.result c.normalize.new.self
    c.turn_in_place.new.zone c.leave_in_place.new.zone c.walk_block.new.zone c.again_in_place.new.zone b (c.if-not-allowed.ensures.0 refl) c.as_slice-2.ensures c.requires.step refl
    c.in_ok-walk_block.ensures.way c.again_in_place.ensures.again (λ p. let f = c.if-not-below.ensures.1 p in absurd (cc))

pub walk_repeat-returns-clause-way : goal.walk_repeat-returns-clause-way
walk_repeat-returns-clause-way t c =
    let w = walk_of c.args.self.now in
    let s = stepped c.head_in_place-unproved.new.zone c.head_in_place-unproved.result in
    let norm : IsNormOf c.index-as_slice-place.result c.normalize.new.self = subst (λ (z : Zone). IsNormOf z c.normalize.new.self) c.copy_from.ensures c.normalize.ensures in
    let b = begun_of w c.args.place.now.keep c.args.repeat.now c.args.zone.now s c.index-as_slice-place.result c.normalize.new.self c.turn_in_place.new.zone c.leave_in_place.new.zone c.as_slice.result.now c.as_slice.ensures
    c.index-as_slice-place.is c.requires.kept c.head_in_place-unproved.ensures.head norm c.turn_in_place.ensures.turn c.leave_in_place.ensures.left in
    loop_goes w c.args.n c.args.place.now.keep c.args.place.now.step (c.args.place.now.keep + 1) c.args.repeat.now c.as_slice-2.result.now c.args.zone.now s c.index-as_slice-place.result c.normalize.new.self
    c.turn_in_place.new.zone c.leave_in_place.new.zone c.walk_block.new.zone c.again_in_place.new.zone b (c.if-not-allowed.ensures.0 refl) c.as_slice-2.ensures c.requires.step refl
    c.in_ok-walk_block.ensures.way c.again_in_place.ensures.again (c.if-not-below.ensures.0 refl)

pub walk_stmt-returns-in-Plain-clause-way : goal.walk_stmt-returns-in-Plain-clause-way
walk_stmt-returns-in-Plain-clause-way t c =
    let w = walk_of c.args.self.now in
    subst (λ s. Walks w c.args.place.now.step c.args.place.now.keep s c.args.zone.now (way_at c.walk_simple.result c.walk_simple.new.zone)) (sym (is_plain c.args.stmt.now c.in-Plain.simple c.in-Plain.is))
    (c.walk_simple.ensures.way c.args.place.now.keep)

pub walk_stmt-returns-in-Help-clause-way : goal.walk_stmt-returns-in-Help-clause-way
walk_stmt-returns-in-Help-clause-way t c =
    let w = walk_of c.args.self.now in
    subst (λ s. Walks w c.args.place.now.step c.args.place.now.keep s c.args.zone.now (way_at c.walk_call.result c.walk_call.new.zone)) (sym (is_help c.args.stmt.now c.in-Help.to c.in-Help.callee c.in-Help.args c.in-Help.is))
    (subst (λ (xs : List CodeOperand). WalksCall w c.args.place.now.step c.in-Help.to c.in-Help.callee xs c.args.zone.now (way_at c.walk_call.result c.walk_call.new.zone)) c.as_slice.ensures c.walk_call.ensures.way)

pub walk_stmt-returns-in-If-clause-way : goal.walk_stmt-returns-in-If-clause-way
walk_stmt-returns-in-If-clause-way t c =
    let w = walk_of c.args.self.now in
    subst (λ s. Walks w c.args.place.now.step c.args.place.now.keep s c.args.zone.now (way_at c.walk_if.result c.walk_if.new.zone))
    (sym (if_of c.args.stmt.now c.in-If.test c.in-If.first c.in-If.second c.as_slice-in-If.result.now c.as_slice-in-If-2.result.now c.in-If.is c.as_slice-in-If.ensures c.as_slice-in-If-2.ensures))
    c.walk_if.ensures.way
