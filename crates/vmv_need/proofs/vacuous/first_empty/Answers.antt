use Rattle.std.proofs.Common.{refl}
use Rattle.vmv_assumption.specs.Assumed.{cond_of}
use Rattle.vmv_need.specs.Vacuous.{IsEmptyName}
use Rattle.vmv_need.proofs.Lists.{none_in, none_more, none_at_all}
use Rattle.vmv_need.proofs.Firsts.{first_is, empty_name, full_name}
use Rattle.vmv_need.proofs.vacuous.first_empty.Goals as goal

pub loop-name-init : goal.loop-name-init
loop-name-init c = λ name there. absurd (none_in name there)

pub loop-name-preserved : goal.loop-name-preserved
loop-name-preserved c =
    none_more (IsEmptyName (cond_of c.args.assumed.now)) _ c.loop-name.name-index _ c.loop-name-test.true c.name-item.is c.loop-name.invariant
    (full_name (cond_of c.args.assumed.now) c.name-item.result _ c.get.ensures (λ empty. let t = c.is_empty.ensures.empty.1 empty in let f = c.if-is_empty.false in absurd (cc)))

pub returns-then-is_empty : goal.returns-then-is_empty
returns-then-is_empty c =
    first_is (IsEmptyName (cond_of c.args.assumed.now)) _ _ c.loop-name.name-index _ c.loop-name-test.true c.name-item.is refl c.loop-name.invariant
    (empty_name (cond_of c.args.assumed.now) c.name-item.result _ c.get.ensures (c.is_empty.ensures.empty.0 c.if-is_empty.true))

pub returns : goal.returns
returns c = none_at_all (IsEmptyName (cond_of c.args.assumed.now)) _ c.loop-name.name-index c.loop-name-test.false c.loop-name.invariant
