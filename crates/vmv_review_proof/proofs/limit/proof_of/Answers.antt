use Rattle.vmv_review_proof.proofs.Stopping.{handed_on}
use Rattle.vmv_review_proof.proofs.limit.proof_of.Goals as goal

pub returns-in_err-is_within_limit-clause-stop : goal.returns-in_err-is_within_limit-clause-stop
returns-in_err-is_within_limit-clause-stop c =
    handed_on c.args.baseline.now.base c.args.revision.now c.in_ok-proof.proof c.in_ok-proof.ensures c.in_err-is_within_limit.field-0.0 c.in_err-is_within_limit.ensures.over
    c.from_residual-in_err-is_within_limit.result c.from_residual-in_err-is_within_limit.ensures.0 c.from_residual-in_err-is_within_limit.ensures.1
