use Rattle.std.proofs.Common.{arith, rules, ◌*◌, ◌+◌, ◌∙◌, FitsSigned}
use Rattle.std.specs.Int.{w128}
use Rattle.std.proofs.lemmas.Int.{ints}
use Rattle.vmv_zone.proofs.Places.{reach_set, outside_set, under_top_set, top_bound_high}
use Rattle.vmv_zone.proofs.zone.Zone.set_bound.Goals as goal

pub invariant_of-self : goal.invariant_of-self
invariant_of-self c =
    let fits : FitsSigned w128 c.args.bound = c.ranges.bound in
    let high = top_bound_high c.args.i c.args.j in
    record {
      few = c.args.self.now.few;
      full = search rules;
      reach = reach_set c.args.self.now.bounds (18 * c.args.i + c.args.j) _ (search rules) c.args.self.now.reach (record { low = omega (arith, ints); high = omega (arith, ints) });
      topped = under_top_set c.args.self.now.vars c.args.self.now.bounds c.args.i c.args.j _ (search rules) c.args.self.now.few c.requires.i c.requires.j c.args.self.now.topped (omega (arith, ints));
      outside = λ p q hp hq out. outside_set c.args.self.now.vars c.args.self.now.bounds c.args.i c.args.j _ c.args.self.now.few c.requires.i c.requires.j p q hp hq out ∙ c.args.self.now.outside p q hp hq out;
      sized = c.args.self.now.sized;
      variables = c.args.self.now.variables;
      emptied = λ t. absurd (search rules);
    }
