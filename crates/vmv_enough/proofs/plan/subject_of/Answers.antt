use Rattle.vmv_demands.proofs.Names.{on_outside_names}
use Rattle.vmv_enough.proofs.plan.subject_of.Goals as goal

pub returns-clause-subject : goal.returns-clause-subject
returns-clause-subject c = record {
  entry = c.requires;
  thresholds = c.in_ok-thresholds.ensures;
  demands = c.in_ok-demands.ensures;
  names = λ d there. on_outside_names c.args.base.now c.args.entry.0 c.in_ok-demands.demands d c.program.ensures.resolution c.in_ok-demands.ensures there;
}
