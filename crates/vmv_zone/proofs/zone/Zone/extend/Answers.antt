use Rattle.std.proofs.Common.{arith, rules, refl}
use Rattle.std.proofs.lemmas.Int.{ints}
use Rattle.vmv_zone.proofs.Closing.{extended_under}
use Rattle.vmv_zone.proofs.Confining.{extended_confines}
use Rattle.vmv_zone.proofs.Extending.{extends_of}
use Rattle.vmv_zone.proofs.zone.Zone.extend.Goals as goal

pub invariant_of-self : goal.invariant_of-self
invariant_of-self c = record {
  few = omega arith;
  full = c.extend_bounds.ensures.full;
  reach = c.extend_bounds.ensures.reach;
  topped = λ i j hi hj. let e = c.extend_bounds.ensures.at i j hi hj in let top = extended_under c.args.self.now.bounds c.args.self.now.vars i j hi hj c.args.self.now.topped in omega (arith, ints);
  outside = c.extend_bounds.ensures.outside;
  sized = c.args.self.now.sized;
  variables = λ i marked. let h = c.args.self.now.variables i marked in (h.0, omega (arith, h.1));
  emptied = λ t. absurd (search rules);
}

pub returns-clause-confines : goal.returns-clause-confines
returns-clause-confines c = extended_confines c.args.self.now _ refl (search rules) (search rules) refl c.extend_bounds.ensures

pub returns-clause-extends : goal.returns-clause-extends
returns-clause-extends c = extends_of c.args.self.now _ refl (search rules) refl c.extend_bounds.ensures
