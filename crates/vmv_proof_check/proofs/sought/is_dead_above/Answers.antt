use Rattle.std.proofs.Common.{refl}
use Rattle.vmv_proof_check.proofs.sought.is_dead_above.Goals as goal

pub returns : goal.returns
returns c = λ program number box named is.
    (let told = c.is_above.ensures program number box named is in ((λ t. (told.0 t, c.if-not-is_dead.ensures.0 refl)), (λ h. told.1 h.0)))
