use Rattle.std.proofs.Common.{rules, codes}
use Rattle.vmv_command.specs.Command.{text_most, OnFile, ReviewsTexts}
use Rattle.vmv_command.proofs.Outputs.{file_long, file_read}
use Rattle.vmv_command.proofs.review.review_files.Goals as goal

pub returns-in_default-clause-output : goal.returns-in_default-clause-output
returns-in_default-clause-output g c =
    let more = (rw c.in_default.is at c.in_ok-base.ensures.long) (search rules) in
    file_long (g.F.Shelf.told c.args.shelf.now) c.args.base.now (codes "base") text_most (λ first. OnFile (g.F.Shelf.told c.args.shelf.now) c.args.revision.now (codes "revision") text_most (ReviewsTexts c.args.proved first))
    c.in_ok-too_long.field-0.text c.in_ok-too_long.field-0.status more c.in_ok-too_long.ensures

pub returns-in_default-2-clause-output : goal.returns-in_default-2-clause-output
returns-in_default-2-clause-output g c =
    let as_told = rw c.in-Some.is at c.in_ok-base.ensures.told in
    let short = rw c.in-Some.is at c.in_ok-base.ensures.within in
    let more = (rw (c.in_default-2.is, c.read_text.ensures.kept) at c.in_ok-revision.ensures.long) (search rules) in
    file_read (g.F.Shelf.told c.args.shelf.now) c.args.base.now (codes "base") text_most (λ first. OnFile (g.F.Shelf.told c.args.shelf.now) c.args.revision.now (codes "revision") text_most (ReviewsTexts c.args.proved first))
    c.in-Some.base c.in_ok-too_long-2.field-0.text c.in_ok-too_long-2.field-0.status as_told short
    (file_long (g.F.Shelf.told c.args.shelf.now) c.args.revision.now (codes "revision") text_most (ReviewsTexts c.args.proved c.in-Some.base) c.in_ok-too_long-2.field-0.text c.in_ok-too_long-2.field-0.status more
    c.in_ok-too_long-2.ensures)
