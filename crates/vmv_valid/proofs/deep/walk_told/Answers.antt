use Rattle.std.proofs.lemmas.Result.{err_from_is_err_and}
use Rattle.vmv_valid.proofs.TooDeep.{answers_above, answers_there}
use Rattle.vmv_valid.proofs.deep.walk_told.Goals as goal

pub returns-in_err-at-clause-walked : goal.returns-in_err-at-clause-walked
returns-in_err-at-clause-walked c =
    let p = err_from_is_err_and c.from_residual.result c.from_residual.ensures.1 in
    λ program h. rw (p.1, p.2) (answers_above c.args.told.now program c.as_slice-above.result.now c.in_err-at.field-0.0 c.as_slice-above.ensures h c.in_err-at.ensures)

pub returns-clause-walked : goal.returns-clause-walked
returns-clause-walked c =
    λ program h. answers_there c.args.told.now program c.as_slice-above.result.now c.in_ok-at.at c.walk_deep.result c.as_slice-above.ensures h c.in_ok-at.ensures c.walk_deep.ensures.walked c.walk_deep.ensures.stops
