use Rattle.std.proofs.Common.{rules, refl, ⊎_elim}
use Rattle.vmv_zone.proofs.Settling.{settled_norm, settled_top, settled_outside}
use Rattle.vmv_zone.proofs.zone.Zone.normalize_closed.Goals as goal

pub invariant_of-self : goal.invariant_of-self
invariant_of-self c = record {
  few = c.args.self.now.few;
  full = c.settle_closed.ensures.full;
  reach = c.settle_closed.ensures.settles.reach;
  topped = settled_top c.args.self.now _ _ c.settle_closed.ensures.settles;
  outside = settled_outside c.args.self.now _ _ c.settle_closed.ensures.settles;
  sized = c.mark_nonzero.ensures.full;
  variables = λ i marked. ⊎_elim (c.args.self.now.variables i) (λ there. (there.from, there.to)) (c.mark_nonzero.ensures.only i marked);
  emptied = λ t. absurd (search rules);
}

pub invariant_of-self-else-settle_closed : goal.invariant_of-self-else-settle_closed
invariant_of-self-else-settle_closed c = record {
  few = c.args.self.now.few;
  full = c.settle_closed.ensures.full;
  reach = c.settle_closed.ensures.settles.reach;
  topped = settled_top c.args.self.now _ _ c.settle_closed.ensures.settles;
  outside = settled_outside c.args.self.now _ _ c.settle_closed.ensures.settles;
  sized = c.args.self.now.sized;
  variables = c.args.self.now.variables;
  emptied = λ t. absurd (search rules);
}

pub returns-then-settle_closed : goal.returns-then-settle_closed
returns-then-settle_closed c = settled_norm c.args.self.now _ refl (search rules) (search rules) c.settle_closed.ensures.settles (c.settle_closed.ensures.tight (search rules))
    c.mark_nonzero.ensures.keeps c.mark_nonzero.ensures.marked c.mark_nonzero.ensures.only
