use Rattle.std.proofs.Common.{rules, refl}
use Rattle.vmv_zone.proofs.Joining.{AreRaised, raised_reach, raised_top, raised_outside, joined_of, joined_normal, join_left_bottom, join_right_bottom}
use Rattle.vmv_zone.specs.Bounds.{AreUnderTop, AreZeroOutside}
use Rattle.vmv_zone.proofs.zone.Zone.join_with.Goals as goal

pub invariant_of-self : goal.invariant_of-self
invariant_of-self c =
    let raised : AreRaised c.args.self.now.vars c.args.self.now.bounds c.args.other.now.bounds c.raise.new.bounds = record { raised = c.raise.ensures.raised; others = c.raise.ensures.others } in
    let top : AreUnderTop c.args.self.now.vars c.args.other.now.bounds = rw c.requires c.args.other.now.topped in
    let outside : AreZeroOutside c.args.self.now.vars c.args.other.now.bounds = rw c.requires c.args.other.now.outside in
    record {
      few = c.args.self.now.few;
      full = c.raise.ensures.full;
      reach = raised_reach _ _ _ _ c.args.self.now.reach c.args.other.now.reach raised;
      topped = raised_top _ _ _ _ c.args.self.now.few c.args.self.now.topped top raised;
      outside = raised_outside _ _ _ _ c.args.self.now.outside outside raised;
      sized = c.keep_shared.ensures.full;
      variables = λ i marked. c.args.self.now.variables i ((c.keep_shared.ensures.shared i).0 marked).0;
      emptied = λ t. absurd (search rules);
    }

pub returns-then-other-clause-join : goal.returns-then-other-clause-join
returns-then-other-clause-join c = join_right_bottom _ _ c.requires (search rules)

pub returns-then-self-clause-join : goal.returns-then-self-clause-join
returns-then-self-clause-join c = rw c.copy_from.ensures (join_left_bottom _ _ c.requires (search rules))

pub returns-clause-join : goal.returns-clause-join
returns-clause-join c = joined_of c.args.self.now c.args.other.now _ c.requires refl (search rules) (search rules) (search rules) (record { raised = c.raise.ensures.raised; others = c.raise.ensures.others }) c.keep_shared.ensures.shared

pub returns-clause-normal : goal.returns-clause-normal
returns-clause-normal c = λ one two up. joined_normal c.args.self.now c.args.other.now _ c.requires refl (record { raised = c.raise.ensures.raised; others = c.raise.ensures.others }) c.keep_shared.ensures.shared (one (search rules)) (two (search rules))
