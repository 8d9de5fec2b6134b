use Rattle.std.proofs.Common.{codes}
use Rattle.vmv_snapshot.specs.Resolution.{tree_of}
use Rattle.vmv_command.specs.Faults.{IsSource, OnProgram}
use Rattle.vmv_command.specs.Samples.{SamplesPrograms}
use Rattle.vmv_command.proofs.Outputs.{program_at_fault, program_done}
use Rattle.vmv_command.proofs.samples.sample_texts.Goals as goal

pub returns-in-Err : goal.returns-in-Err
returns-in-Err g c =
    program_at_fault c.fault_output.result (codes "base") c.args.base.now (λ B. OnProgram (codes "revision") c.args.revision.now (SamplesPrograms c.args.number B)) c.in-Err.fault
    (rw c.bytes.ensures at c.in-Err.ensures.fault) c.fault_output.ensures.says c.fault_output.ensures.told

pub returns-in-Err-parse : goal.returns-in-Err-parse
returns-in-Err-parse g c =
    let source : IsSource c.args.base.now (tree_of c.in-Ok.base) = (rw c.bytes.ensures at c.in-Ok.ensures.text, c.in-Ok.ensures.valid) in
    program_done c.fault_output-in-Err-parse.result (codes "base") c.args.base.now (λ B. OnProgram (codes "revision") c.args.revision.now (SamplesPrograms c.args.number B)) (tree_of c.in-Ok.base) source
    (program_at_fault c.fault_output-in-Err-parse.result (codes "revision") c.args.revision.now (SamplesPrograms c.args.number (tree_of c.in-Ok.base)) c.in-Err-parse.fault
    (rw c.bytes-2.ensures at c.in-Err-parse.ensures.fault) c.fault_output-in-Err-parse.ensures.says c.fault_output-in-Err-parse.ensures.told)

pub returns : goal.returns
returns g c =
    let source : IsSource c.args.base.now (tree_of c.in-Ok.base) = (rw c.bytes.ensures at c.in-Ok.ensures.text, c.in-Ok.ensures.valid) in
    let source' : IsSource c.args.revision.now (tree_of c.in-Ok-parse.revision) = (rw c.bytes-2.ensures at c.in-Ok-parse.ensures.text, c.in-Ok-parse.ensures.valid) in
    program_done c.sample_programs.result (codes "base") c.args.base.now (λ B. OnProgram (codes "revision") c.args.revision.now (SamplesPrograms c.args.number B)) (tree_of c.in-Ok.base) source
    (program_done c.sample_programs.result (codes "revision") c.args.revision.now (SamplesPrograms c.args.number (tree_of c.in-Ok.base)) (tree_of c.in-Ok-parse.revision) source' c.sample_programs.ensures)
