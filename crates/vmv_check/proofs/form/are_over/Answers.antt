use Rattle.std.proofs.Common.{◌≡◌, arith, refl}
use Rattle.vmv_zone.specs.declared.zone.Zone.{Zone}
use Rattle.vmv_check.proofs.Lists.{upto_more, upto_end, all_of}
use Rattle.vmv_check.proofs.form.are_over.Goals as goal

pub loop-zone-preserved : goal.loop-zone-preserved
loop-zone-preserved c =
    let e = c.vars.ensures in
    let f = c.if-vars.false in
    let same : c.zone-item.result.vars ≡ c.args.vars = omega arith in
    upto_more (λ (z : Zone). z.vars ≡ c.args.vars) c.args.zones.now c.loop-zone.zone-index c.zone-item.result c.loop-zone-test.true c.zone-item.is c.loop-zone.invariant same

pub returns : goal.returns
returns c = (
  λ t. all_of (λ (z : Zone). z.vars ≡ c.args.vars) c.args.zones.now (upto_end (λ (z : Zone). z.vars ≡ c.args.vars) c.args.zones.now c.loop-zone.zone-index c.loop-zone-test.false c.loop-zone.invariant),
  λ h. refl,
)
