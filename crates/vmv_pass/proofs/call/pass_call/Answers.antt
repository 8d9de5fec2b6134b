use Rattle.std.proofs.Common.{◌<◌, inr, sym, subst, arith, length}
use Rattle.vmv_cond.specs.declared.cond.Cond.{Cond}
use Rattle.vmv_zone.specs.declared.operand.ZoneValue.TheVariants.{Within}
use Rattle.vmv_zone.specs.Step.{IsAssigned}
use Rattle.vmv_zone.proofs.MoreLaws.{assign_normal}
use Rattle.vmv_check.proofs.Lists.{at_place, up_of}
use Rattle.vmv_pass.proofs.call.pass_call.Goals as goal

pub returns-clause-moves : goal.returns-clause-moves
returns-clause-moves c k callee keeps flags looped steps =
    let there : c.args.c < length c.args.at.now.results.now = omega arith in
    inr (
      up_of c.args.zone.now.bottom c.if-is_bottom.ensures.1,
      (
        c.pass_into.new.into,
        c.index-at-c.result,
        c.pass_into.ensures,
        c.take_input.ensures.takes keeps flags looped steps,
        at_place c.args.at.now.results.now c.args.c c.index-at-c.result there c.index-at-c.is,
        subst (λ (x : Cond). IsAssigned c.args.zone.now c.args.to.0 (Within x) c.store.new.self) (sym c.index-at-c.is) c.store.ensures,
      ),
    )

pub returns-clause-normal : goal.returns-clause-normal
returns-clause-normal c = assign_normal _ _ _ _ c.requires.to.0 c.store.ensures
