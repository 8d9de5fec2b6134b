-- The queue that is found is the one that is changed.
use Rattle.std.proofs.Common.{◌∙◌, sym, ap, List}
use Rattle.std.specs.List.{position}
use Rattle.vmv_keeper.specs.declared.project.Bench.{Bench}
use Rattle.vmv_keeper.specs.Formed.{is_bench_of}
use Rattle.vmv_keeper.proofs.ListChanges.{changed-past, no_place}
use Rattle.vmv_desk.specs.Queues.{with_number}
use Rattle.vmv_desk.proofs.QueuesLemmas.{changed_set}
use Rattle.vmv_desk.proofs.queues.push_number.Goals as goal

pub returns-in-Some : goal.returns-in-Some
returns-in-Some c =
    let test = is_bench_of c.args.owner.now c.args.name.now in
    let at = ap (λ (l : List Bench). position test l) (sym c.as_slice.ensures.value) ∙ sym c.place_of.ensures ∙ c.in-Some.is in
    changed_set test (with_number c.args.number) c.args.queues.now.items c.in-Some.place c.index_mut.result.now c.push.new.self at c.index_mut.ensures.value c.push.ensures

pub returns-in_default : goal.returns-in_default
returns-in_default c =
    let test = is_bench_of c.args.owner.now c.args.name.now in
    let xs = c.args.queues.now.items in
    let none = ap (λ (l : List Bench). position test l) (sym c.as_slice.ensures.value) ∙ sym c.place_of.ensures ∙ c.in_default.is in
    sym (changed-past test (with_number c.args.number) xs (no_place test xs none))
