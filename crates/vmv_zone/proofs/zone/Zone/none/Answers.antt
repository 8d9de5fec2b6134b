use Rattle.std.proofs.Common.{pos}
use Rattle.std.proofs.lemmas.List.{length-replicate}
use Rattle.std.proofs.Common.{false}
use Rattle.vmv_zone.proofs.Zeros.{zeros_reach, zeros_under_top, zeros_outside, zeros_blank, falses_on_variables}
use Rattle.vmv_zone.proofs.zone.Zone.none.Goals as goal

pub invariant_of-result : goal.invariant_of-result
invariant_of-result c = record {
  few = c.requires;
  full = length-replicate 324 (pos 0);
  reach = zeros_reach 324;
  topped = zeros_under_top 324 c.args.vars;
  outside = zeros_outside 324 c.args.vars;
  sized = length-replicate 18 false;
  variables = falses_on_variables 18 c.args.vars;
  emptied = λ t. zeros_blank 324 18;
}
