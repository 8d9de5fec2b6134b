use Rattle.std.proofs.Common.{rules, refl}
use Rattle.vmv_zone.proofs.Rounding.{rounded_top, rounded_of, rounded_bottom}
use Rattle.vmv_zone.proofs.zone.Zone.raise_to.Goals as goal

pub invariant_of-self : goal.invariant_of-self
invariant_of-self c = record {
  few = c.args.self.now.few;
  full = c.round_bounds.ensures.full;
  reach = c.round_bounds.ensures.reach;
  topped = λ i j hi hj. rounded_top c.args.thresholds.now c.args.self.now i j _ c.requires.zero c.requires.greatest_word c.requires.least_word c.requires.most hi hj (c.round_bounds.ensures.at i j hi hj);
  outside = c.round_bounds.ensures.outside;
  sized = c.args.self.now.sized;
  variables = c.args.self.now.variables;
  emptied = λ t. absurd (search rules);
}

pub returns-then-self : goal.returns-then-self
returns-then-self c = rounded_bottom c.args.thresholds.now c.args.self.now (search rules)

pub returns : goal.returns
returns c = rounded_of c.args.thresholds.now c.args.self.now _ refl (search rules) (search rules) refl c.round_bounds.ensures
