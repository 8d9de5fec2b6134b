use Rattle.std.proofs.Common.{◌∙◌, ap, subst}
use Rattle.vmv_zone.specs.declared.zone.Zone.{Zone}
use Rattle.vmv_zone.specs.declared.operand.ZoneTest.{ZoneTest}
use Rattle.vmv_zone.specs.Step.{IsGuarded}
use Rattle.vmv_step.specs.Zones.{negation}
use Rattle.vmv_step.proofs.simple.branch_in_place.Goals as goal

pub returns : goal.returns
returns c =
    let Holds : ZoneTest → Type 0 = λ t. IsGuarded c.args.zone.now t c.hold.new.self in
    let Fails : ZoneTest → Type 0 = λ t. IsGuarded c.args.zone.now t c.hold-2.new.self in
    let From : Zone → Type 0 = λ z. IsGuarded z c.negation.result c.hold-2.new.self in
    let failing : IsGuarded c.args.zone.now c.negation.result c.hold-2.new.self = subst From c.requires.same c.hold-2.ensures in
    record {
      branched = record {
        holds = subst Holds c.zone_test-test.ensures c.hold.ensures;
        fails = subst Fails (c.negation.ensures ∙ ap negation c.zone_test-test.ensures) failing;
      };
      normal = c.hold.ensures.greatest.normal;
      normal_other = c.hold-2.ensures.greatest.normal;
      vars = c.hold.ensures.greatest.vars;
      vars_other = failing.greatest.vars;
    }
