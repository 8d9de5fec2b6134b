use Rattle.std.proofs.Common.{subst}
use Rattle.vmv_proof_check.specs.declared.claims.ProofRefused.{ProofRefused}
use Rattle.vmv_proof_check.specs.Proofs.{IsWhyRefused}
use Rattle.vmv_command.proofs.Rechecking.{refused_so}
use Rattle.vmv_command.proofs.rechecks.recheck_programs.Goals as goal

pub returns-in-Err-At : goal.returns-in-Err-At
returns-in-Err-At c =
    let refused = subst (λ (why : ProofRefused). IsWhyRefused c.args.base.now c.args.revision.now c.args.proof.now why) c.in-Err-At.field-0-is c.in-Err-At.ensures.refused in
    refused_so c.args.base.now c.args.revision.now c.args.proof.now c.in-Err-At.part c.in-Err-At.row c.in-Err-At.step c.refused_output.result c.program-base.ensures.resolution c.program-revision.ensures.resolution
    refused c.refused_output.ensures
