-- The place of the number is taken out of those that wait, and is free.
use Rattle.std.proofs.Common.{◌≡◌, List, ℕ, Some, None, map, ap, sym, refl, ◌∙◌, arith}
use Rattle.vmv_links.specs.Lists.{list_at}
use Rattle.vmv_keeper.specs.declared.project.Bench.{Bench}
use Rattle.vmv_desk.specs.Queues.{number_at, place_in, without_number}
use Rattle.vmv_desk.proofs.TwoLists.{found_place, lists_removed, queue_removed, not_removed}
use Rattle.vmv_desk.proofs.queue.Queue.remove.Goals as goal

pub take_out-requires : goal.take_out-requires
take_out-requires c =
    let links = c.self.inside.links in
    let numbers = c.self.inside.numbers.items in
    let found : Some c.in-Some.place ≡ place_in numbers c.args.number (list_at links.lists 0)
    = c.in-Some.ensures.place ∙ ap (λ (l : List ℕ). place_in l c.args.number (list_at links.lists 0)) c.deref.ensures.value in
    (found_place numbers links c.args.number c.in-Some.place c.each_in_one_list.ensures c.self.invariant.two found).2

pub push_back-requires-clause-item : goal.push_back-requires-clause-item
push_back-requires-clause-item c =
    let links = c.self.inside.links in
    let numbers = c.self.inside.numbers.items in
    let found : Some c.in-Some.place ≡ place_in numbers c.args.number (list_at links.lists 0)
    = c.in-Some.ensures.place ∙ ap (λ (l : List ℕ). place_in l c.args.number (list_at links.lists 0)) c.deref.ensures.value in
    let small = (found_place numbers links c.args.number c.in-Some.place c.each_in_one_list.ensures c.self.invariant.two found).2 in
    omega (arith, small, c.take_out.ensures.size)

pub push_back-requires-clause-free : goal.push_back-requires-clause-free
push_back-requires-clause-free c =
    let links = c.self.inside.links in
    let numbers = c.self.inside.numbers.items in
    let taken = c.take_out.new.self.lists in
    let found : Some c.in-Some.place ≡ place_in numbers c.args.number (list_at links.lists 0)
    = c.in-Some.ensures.place ∙ ap (λ (l : List ℕ). place_in l c.args.number (list_at links.lists 0)) c.deref.ensures.value in
    (lists_removed numbers links c.args.number c.in-Some.place taken _ c.each_in_one_list.ensures c.self.invariant.two found c.take_out.ensures.lists refl).1

pub invariant_of-self : goal.invariant_of-self
invariant_of-self c =
    let links = c.self.inside.links in
    let numbers = c.self.inside.numbers.items in
    let found : Some c.in-Some.place ≡ place_in numbers c.args.number (list_at links.lists 0)
    = c.in-Some.ensures.place ∙ ap (λ (l : List ℕ). place_in l c.args.number (list_at links.lists 0)) c.deref.ensures.value in
    queue_removed numbers links c.push_back.new.self c.args.number c.in-Some.place c.take_out.new.self.lists c.self.invariant c.each_in_one_list.ensures found
    c.take_out.ensures.lists c.push_back.ensures.lists (c.push_back.ensures.size ∙ c.take_out.ensures.size)

pub returns-in-Some : goal.returns-in-Some
returns-in-Some c =
    let links = c.self.inside.links in
    let numbers = c.self.inside.numbers.items in
    let found : Some c.in-Some.place ≡ place_in numbers c.args.number (list_at links.lists 0)
    = c.in-Some.ensures.place ∙ ap (λ (l : List ℕ). place_in l c.args.number (list_at links.lists 0)) c.deref.ensures.value in
    let gone = found_place numbers links c.args.number c.in-Some.place c.each_in_one_list.ensures c.self.invariant.two found in
    let lists = (lists_removed numbers links c.args.number c.in-Some.place c.take_out.new.self.lists c.push_back.new.self.lists c.each_in_one_list.ensures c.self.invariant.two found c.take_out.ensures.lists c.push_back.ensures.lists).0 in
    let bench : List ℕ → Bench = λ l. record { owner = c.self.inside.owner; name = c.self.inside.name; pending = l } in
    ap (λ (ls : List (List ℕ)). bench (map (number_at numbers) (list_at ls 0))) lists ∙ ap bench gone.0.others ∙ ap (without_number c.args.number) c.self.view_is

pub returns-in_default : goal.returns-in_default
returns-in_default c =
    let links = c.self.inside.links in
    let numbers = c.self.inside.numbers.items in
    let absent : None ≡ place_in numbers c.args.number (list_at links.lists 0)
    = sym c.in_default.is ∙ c.place_of.ensures.place ∙ ap (λ (l : List ℕ). place_in l c.args.number (list_at links.lists 0)) c.deref.ensures.value in
    let bench : List ℕ → Bench = λ l. record { owner = c.self.inside.owner; name = c.self.inside.name; pending = l } in
    sym c.self.view_is ∙ ap bench (sym (not_removed numbers c.args.number (list_at links.lists 0) absent)) ∙ ap (without_number c.args.number) c.self.view_is
