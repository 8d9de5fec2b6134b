use Rattle.std.proofs.Common.{refl, sym, subst}
use Rattle.vmv_zone.specs.declared.operand.ZoneOperand.{ZoneOperand}
use Rattle.vmv_zone.specs.Operand.{IsOperand}
use Rattle.vmv_step.specs.Zones.{zone_operand}
use Rattle.vmv_cert.specs.Tables.{WalksBody}
use Rattle.vmv_check.specs.Walker.{walk_of}
use Rattle.vmv_check.proofs.Walking.{err_way}
use Rattle.vmv_check.proofs.Bodies.{started, body_fails_at, return_fails, body_goes}
use Rattle.vmv_check.proofs.walk.Walker.walk_body.Goals as goal

pub walk_block-requires-clause-few : goal.walk_block-requires-clause-few
walk_block-requires-clause-few c =
    let w = walk_of c.args.self.now in
    (started w.program w.row c.args.proc.0 c.code-code.result.now c.as_slice.result.now c.enter-zone.result c.requires.resolution c.code-code.ensures.resolved c.code-code.ensures.kept c.requires.formed c.enter-zone.ensures c.as_slice.ensures).few

pub walk_block-requires-clause-normal : goal.walk_block-requires-clause-normal
walk_block-requires-clause-normal c =
    let w = walk_of c.args.self.now in
    (started w.program w.row c.args.proc.0 c.code-code.result.now c.as_slice.result.now c.enter-zone.result c.requires.resolution c.code-code.ensures.resolved c.code-code.ensures.kept c.requires.formed c.enter-zone.ensures c.as_slice.ensures).normal

pub walk_block-requires-clause-ready : goal.walk_block-requires-clause-ready
walk_block-requires-clause-ready c =
    let w = walk_of c.args.self.now in
    (started w.program w.row c.args.proc.0 c.code-code.result.now c.as_slice.result.now c.enter-zone.result c.requires.resolution c.code-code.ensures.resolved c.code-code.ensures.kept c.requires.formed c.enter-zone.ensures c.as_slice.ensures).ready

pub walk_block-requires-clause-steps : goal.walk_block-requires-clause-steps
walk_block-requires-clause-steps c =
    let w = walk_of c.args.self.now in
    (started w.program w.row c.args.proc.0 c.code-code.result.now c.as_slice.result.now c.enter-zone.result c.requires.resolution c.code-code.ensures.resolved c.code-code.ensures.kept c.requires.formed c.enter-zone.ensures c.as_slice.ensures).steps

pub returns-in_err-walk_block : goal.returns-in_err-walk_block
returns-in_err-walk_block c =
    let w = walk_of c.args.self.now in (
      c.walk_block.new.zone,
      λ item code f.
          subst (WalksBody w item code) (sym (err_way c.from_residual.result c.walk_block.new.zone c.in_err-walk_block.field-0.0 c.from_residual.ensures.0 c.from_residual.ensures.1))
          (body_fails_at w c.args.proc.0 c.in_err-walk_block.field-0.0 c.code-code.result.now c.as_slice.result.now c.enter-zone.result c.as_slice.ensures c.code-code.ensures.kept c.enter-zone.ensures c.in_err-walk_block.ensures.way item code f),
    )

pub range_normed-range-requires-clause-operand : goal.range_normed-range-requires-clause-operand
range_normed-range-requires-clause-operand c =
    let w = walk_of c.args.self.now in
    let s = started w.program w.row c.args.proc.0 c.code-code.result.now c.as_slice.result.now c.enter-zone.result c.requires.resolution c.code-code.ensures.resolved c.code-code.ensures.kept c.requires.formed c.enter-zone.ensures c.as_slice.ensures in
    subst (λ (o : ZoneOperand). IsOperand c.walk_block.new.zone.vars o) (sym c.zone_operand.ensures) (subst (λ k. IsOperand k (zone_operand c.code-code.result.now.result)) (sym c.in_ok-walk_block.ensures.vars) s.output)

pub returns-then-not-is_above : goal.returns-then-not-is_above
returns-then-not-is_above c =
    let w = walk_of c.args.self.now in (
      c.walk_block.new.zone,
      λ item code f. return_fails w c.args.proc.0 c.walk_block.new.place.step c.code-code.result.now c.as_slice.result.now c.enter-zone.result c.walk_block.new.zone c.zone_operand.result c.range_normed-range.result c.as_slice.ensures c.code-code.ensures.kept c.enter-zone.ensures
          c.in_ok-walk_block.ensures.way c.zone_operand.ensures c.range_normed-range.ensures (λ p. let t = c.if-not-is_above.ensures.1 p in absurd (cc)) c.in_ok-walk_block.ensures.step item code f,
    )

pub returns : goal.returns
returns c =
    let w = walk_of c.args.self.now in (
      c.walk_block.new.zone,
      λ item code f. body_goes w c.args.proc.0 c.code-code.result.now c.as_slice.result.now c.enter-zone.result c.walk_block.new.zone c.zone_operand.result c.range_normed-range.result c.as_slice.ensures c.code-code.ensures.kept c.enter-zone.ensures c.in_ok-walk_block.ensures.way
          c.zone_operand.ensures c.range_normed-range.ensures (c.if-not-is_above.ensures.0 refl) item code f,
    )
