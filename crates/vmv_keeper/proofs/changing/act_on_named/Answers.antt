-- The project that is found is the one that is changed.
use Rattle.std.proofs.Common.{◌∙◌, sym, ap, List}
use Rattle.std.specs.List.{position}
use Rattle.vmv_keeper.specs.declared.project.Project.{Project}
use Rattle.vmv_keeper.specs.Tables.{is_named}
use Rattle.vmv_keeper.specs.Changes.{project_after}
use Rattle.vmv_keeper.proofs.ListChanges.{changed_written, changed-past, no_place}
use Rattle.vmv_keeper.proofs.changing.act_on_named.Goals as goal

pub returns-in-Some-clause-done : goal.returns-in-Some-clause-done
returns-in-Some-clause-done c =
    let test = is_named c.args.owner.now c.args.name.now in
    let at = ap (λ (l : List Project). position test l) (sym c.as_slice.ensures.value) ∙ sym c.place_of.ensures ∙ c.in-Some.is in
    changed_written test (project_after c.args.caller.now c.args.act.now) c.args.projects.now.items c.in-Some.place
    c.index_mut.result.now c.act_on.new.project c.act_on.result at c.index_mut.ensures.value c.act_on.ensures.done

pub returns-in-None-clause-done : goal.returns-in-None-clause-done
returns-in-None-clause-done c =
    let test = is_named c.args.owner.now c.args.name.now in
    let xs = c.args.projects.now.items in
    let none = ap (λ (l : List Project). position test l) (sym c.as_slice.ensures.value) ∙ sym c.place_of.ensures ∙ c.in-None.is in
    sym (changed-past test (project_after c.args.caller.now c.args.act.now) xs (no_place test xs none))
