use Rattle.std.proofs.Common.{arith, rules}
use Rattle.vmv_zone.proofs.Arguments.{args_of, no_args}
use Rattle.vmv_zone.proofs.Normed.{norm_itself}
use Rattle.vmv_zone.proofs.zone.Zone.copy_args_to.Goals as goal

pub invariant_of-into : goal.invariant_of-into
invariant_of-into c =
    let vars = c.empty.ensures.vars in
    record {
      few = c.empty.new.self.few;
      full = c.fill_bounds.ensures.full;
      reach = c.fill_bounds.ensures.reach;
      topped = λ i j hi hj. (c.fill_bounds.ensures.at i j (omega (arith, vars, hi)) (omega (arith, vars, hj))).topped;
      outside = rw vars c.fill_bounds.ensures.outside;
      sized = c.fill_marks.ensures.full;
      variables = rw vars c.fill_marks.ensures.variables;
      emptied = λ t. absurd (search rules);
    }

pub returns-then-self : goal.returns-then-self
returns-then-self c = no_args c.args.self.now c.args.self.now c.empty.new.self c.args.args.now (norm_itself c.args.self.now c.requires.normal) (search rules) c.empty.ensures.vars c.empty.ensures.bottom

pub returns : goal.returns
returns c = args_of c.args.self.now c.args.self.now _ c.args.args.now (norm_itself c.args.self.now c.requires.normal) (search rules) c.empty.ensures.vars (search rules) c.fill_bounds.ensures c.fill_marks.ensures.marked
