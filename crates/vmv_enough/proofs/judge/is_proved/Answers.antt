use Rattle.vmv_assumption.specs.Assumed.{cond_of}
use Rattle.vmv_enough.proofs.Judged.{proved_where_empty, all_empty_where_proved}
use Rattle.vmv_enough.proofs.judge.is_proved.Goals as goal

pub returns : goal.returns
returns c = (
  (λ t. proved_where_empty c.args.base.now c.args.plan.now (cond_of c.args.assumed.now) c.args.judged.now c.requires.plan c.requires.judged (c.are_empty.ensures.0 t)),
  (λ proved. c.are_empty.ensures.1 (all_empty_where_proved c.args.base.now c.args.plan.now (cond_of c.args.assumed.now) c.args.judged.now c.requires.plan c.requires.judged proved)),
)
