use Rattle.std.proofs.Common.{◌%◌}
use Rattle.vmv_command.specs.Samples.{sample_source}
use Rattle.vmv_command.proofs.Sampling.{sampled_so}
use Rattle.vmv_command.proofs.samples.sample_output.Goals as goal

pub returns : goal.returns
returns g c =
    sampled_so c.sample_texts.result c.args.number c.in_ok-base.base c.in_ok-revision.revision (sample_source 0) (sample_source (c.args.number % 3)) c.in_ok-base.ensures c.in_ok-revision.ensures
    c.sample_texts.ensures
