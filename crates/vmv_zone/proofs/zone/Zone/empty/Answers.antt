use Rattle.std.proofs.Common.{false, ◌*◌, ◌+◌}
use Rattle.std.proofs.lemmas.List.{length-replicate}
use Rattle.vmv_zone.proofs.Lines.{zero_reach}
use Rattle.vmv_zone.proofs.Zeros.{top_from_zero, falses_on_variables, falses_unmarked}
use Rattle.vmv_zone.proofs.zone.Zone.empty.Goals as goal

pub invariant_of-self : goal.invariant_of-self
invariant_of-self c = record {
  few = c.requires;
  full = c.blank_bounds.ensures.full;
  reach = λ k. rw (c.blank_bounds.ensures.zeros k) zero_reach;
  topped = λ i j hi hj. rw (c.blank_bounds.ensures.zeros (18 * i + j)) (top_from_zero i j);
  outside = λ i j hi hj out. c.blank_bounds.ensures.zeros (18 * i + j);
  sized = length-replicate 18 false;
  variables = falses_on_variables 18 c.args.vars;
  emptied = λ t. record { zeros = c.blank_bounds.ensures.zeros; unmarked = falses_unmarked 18 };
}
