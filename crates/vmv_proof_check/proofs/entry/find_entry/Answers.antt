use Rattle.std.proofs.Common.{refl}
use Rattle.vmv_proof_check.proofs.Heading.{marked_named, unmarked_named}
use Rattle.vmv_proof_check.proofs.entry.find_entry.Goals as goal

pub returns-then-is_entry-clause-found : goal.returns-then-is_entry-clause-found
returns-then-is_entry-clause-found c =
    let e = marked_named c.args.snapshot.now c.in_ok-proc.proc.0 c.args.name.now c.if-is_entry.ensures c.in_ok-proc.ensures.named in
    ((λ t. (c.in_ok-proc.proc.0, e.0, e.1)), (λ h. refl))

pub returns-then-is_entry-clause-entry : goal.returns-then-is_entry-clause-entry
returns-then-is_entry-clause-entry c = marked_named c.args.snapshot.now c.in_ok-proc.proc.0 c.args.name.now c.if-is_entry.ensures c.in_ok-proc.ensures.named

pub returns-else-is_entry-clause-found : goal.returns-else-is_entry-clause-found
returns-else-is_entry-clause-found c =
    ((λ t. absurd (cc)), (λ (m, params, named). absurd (unmarked_named c.args.snapshot.now c.in_ok-proc.proc.0 m c.args.name.now params c.requires c.if-is_entry.ensures c.in_ok-proc.ensures.named named)))
