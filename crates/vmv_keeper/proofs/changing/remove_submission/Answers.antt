-- The place that is found is that of the submission.
use Rattle.std.proofs.Common.{◌∙◌, List, ap, sym}
use Rattle.std.specs.List.{remove}
use Rattle.vmv_keeper.specs.declared.project.Waiting.{Waiting}
use Rattle.vmv_keeper.specs.Tables.{is_submission}
use Rattle.vmv_keeper.proofs.ListChanges.{place_found, no_place, without-at, without-past}
use Rattle.vmv_keeper.proofs.changing.remove_submission.Goals as goal

pub returns-in-Some : goal.returns-in-Some
returns-in-Some c =
    let test = is_submission c.args.number in
    let xs = c.args.project.now.pending in
    let found = place_found test xs c.in-Some.place (sym c.waiting_place.ensures ∙ c.in-Some.is) in
    ap (λ (l : List Waiting). record c.args.project.now { pending = l })
    (c.remove.ensures ∙ ap (remove xs) (sym found.1) ∙ sym (without-at test xs found.0))

pub returns-in_default : goal.returns-in_default
returns-in_default c =
    let test = is_submission c.args.number in
    let xs = c.args.project.now.pending in
    ap (λ (l : List Waiting). record c.args.project.now { pending = l })
    (sym (without-past test xs (no_place test xs (sym c.waiting_place.ensures ∙ c.in_default.is))))
