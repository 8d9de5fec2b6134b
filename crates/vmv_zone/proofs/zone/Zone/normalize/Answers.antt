use Rattle.std.proofs.Common.{rules, refl, ⊎_elim}
use Rattle.vmv_zone.proofs.Settling.{settled_norm, settled_top, settled_outside}
use Rattle.vmv_zone.proofs.zone.Zone.normalize.Goals as goal

pub invariant_of-self : goal.invariant_of-self
invariant_of-self c = record {
  few = c.args.self.now.few;
  full = c.settle.ensures.full;
  reach = c.settle.ensures.settles.reach;
  topped = settled_top c.args.self.now _ _ c.settle.ensures.settles;
  outside = settled_outside c.args.self.now _ _ c.settle.ensures.settles;
  sized = c.mark_nonzero.ensures.full;
  variables = λ i marked. ⊎_elim (c.args.self.now.variables i) (λ there. (there.from, there.to)) (c.mark_nonzero.ensures.only i marked);
  emptied = λ t. absurd (search rules);
}

pub invariant_of-self-else-settle : goal.invariant_of-self-else-settle
invariant_of-self-else-settle c = record {
  few = c.args.self.now.few;
  full = c.settle.ensures.full;
  reach = c.settle.ensures.settles.reach;
  topped = settled_top c.args.self.now _ _ c.settle.ensures.settles;
  outside = settled_outside c.args.self.now _ _ c.settle.ensures.settles;
  sized = c.args.self.now.sized;
  variables = c.args.self.now.variables;
  emptied = λ t. absurd (search rules);
}

pub returns-then-settle : goal.returns-then-settle
returns-then-settle c = settled_norm c.args.self.now _ refl (search rules) (search rules) c.settle.ensures.settles (c.settle.ensures.tight (search rules))
    c.mark_nonzero.ensures.keeps c.mark_nonzero.ensures.marked c.mark_nonzero.ensures.only
