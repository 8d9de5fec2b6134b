use Rattle.std.proofs.Common.{rules, codes}
use Rattle.vmv_command.specs.Command.{text_most, proof_most, OnFile}
use Rattle.vmv_command.specs.Rechecks.{RechecksTexts}
use Rattle.vmv_command.proofs.Outputs.{file_long, file_read}
use Rattle.vmv_command.proofs.rechecks.recheck_files.Goals as goal

pub returns-in_default-clause-output : goal.returns-in_default-clause-output
returns-in_default-clause-output g c =
    let told = g.F.Shelf.told c.args.shelf.now in
    let more = (rw c.in_default.is at c.in_ok-base.ensures.long) (search rules) in
    file_long told c.args.base.now (codes "base") text_most (λ b. OnFile told c.args.revision.now (codes "revision") text_most (λ r. OnFile told c.args.proof.now (codes "proof") proof_most (RechecksTexts b r)))
    c.in_ok-too_long.field-0.text c.in_ok-too_long.field-0.status more c.in_ok-too_long.ensures

pub returns-in_default-2-clause-output : goal.returns-in_default-2-clause-output
returns-in_default-2-clause-output g c =
    let told = g.F.Shelf.told c.args.shelf.now in
    let as_told = rw c.in-Some.is at c.in_ok-base.ensures.told in
    let short = rw c.in-Some.is at c.in_ok-base.ensures.within in
    let more = (rw (c.in_default-2.is, c.read_text.ensures.kept) at c.in_ok-revision.ensures.long) (search rules) in
    file_read told c.args.base.now (codes "base") text_most (λ b. OnFile told c.args.revision.now (codes "revision") text_most (λ r. OnFile told c.args.proof.now (codes "proof") proof_most (RechecksTexts b r)))
    c.in-Some.base c.in_ok-too_long-2.field-0.text c.in_ok-too_long-2.field-0.status as_told short
    (file_long told c.args.revision.now (codes "revision") text_most (λ r. OnFile told c.args.proof.now (codes "proof") proof_most (RechecksTexts c.in-Some.base r))
    c.in_ok-too_long-2.field-0.text c.in_ok-too_long-2.field-0.status more c.in_ok-too_long-2.ensures)

pub returns-in_default-3-clause-output : goal.returns-in_default-3-clause-output
returns-in_default-3-clause-output g c =
    let told = g.F.Shelf.told c.args.shelf.now in
    let as_told = rw c.in-Some.is at c.in_ok-base.ensures.told in
    let short = rw c.in-Some.is at c.in_ok-base.ensures.within in
    let as_told' = rw (c.in-Some-2.is, c.read_text.ensures.kept) at c.in_ok-revision.ensures.told in
    let short' = rw c.in-Some-2.is at c.in_ok-revision.ensures.within in
    let more = (rw (c.in_default-3.is, c.read_text-2.ensures.kept, c.read_text.ensures.kept) at c.in_ok-proof.ensures.long) (search rules) in
    file_read told c.args.base.now (codes "base") text_most (λ b. OnFile told c.args.revision.now (codes "revision") text_most (λ r. OnFile told c.args.proof.now (codes "proof") proof_most (RechecksTexts b r)))
    c.in-Some.base c.in_ok-too_long-3.field-0.text c.in_ok-too_long-3.field-0.status as_told short
    (file_read told c.args.revision.now (codes "revision") text_most (λ r. OnFile told c.args.proof.now (codes "proof") proof_most (RechecksTexts c.in-Some.base r))
    c.in-Some-2.revision c.in_ok-too_long-3.field-0.text c.in_ok-too_long-3.field-0.status as_told' short'
    (file_long told c.args.proof.now (codes "proof") proof_most (RechecksTexts c.in-Some.base c.in-Some-2.revision) c.in_ok-too_long-3.field-0.text c.in_ok-too_long-3.field-0.status more c.in_ok-too_long-3.ensures))
