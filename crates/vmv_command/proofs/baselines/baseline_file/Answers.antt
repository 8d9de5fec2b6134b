use Rattle.std.proofs.Common.{rules, codes}
use Rattle.vmv_command.specs.Command.{text_most}
use Rattle.vmv_command.specs.Faults.{OnProgram}
use Rattle.vmv_command.specs.Baselines.{BaselinesProgram}
use Rattle.vmv_command.proofs.Outputs.{file_long}
use Rattle.vmv_command.proofs.baselines.baseline_file.Goals as goal

pub returns-in_default-clause-output : goal.returns-in_default-clause-output
returns-in_default-clause-output g c =
    let more = (rw c.in_default.is at c.in_ok-base.ensures.long) (search rules) in
    file_long (g.F.Shelf.told c.args.shelf.now) c.args.base.now (codes "base") text_most (λ b. OnProgram (codes "base") b BaselinesProgram) c.in_ok-too_long.field-0.text c.in_ok-too_long.field-0.status more
    c.in_ok-too_long.ensures
