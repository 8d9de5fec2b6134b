use Rattle.vmv_proof_check.proofs.Counting.{not_reached}
use Rattle.vmv_proof_check.proofs.count.count_proc.Goals as goal

pub returns-else-reaches : goal.returns-else-reaches
returns-else-reaches c = not_reached c.args.checking.now.revision.now c.args.checking.now.shown.now c.args.entry.0 c.args.number c.args.claims.now (λ reached. let t = c.if-reaches.ensures.1 reached in absurd (cc)) c.requires.before
