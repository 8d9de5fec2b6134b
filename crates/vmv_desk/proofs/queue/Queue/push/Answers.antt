-- The first free place takes the number, and waits behind the others.
use Rattle.std.proofs.Common.{◌≡◌, ◌<◌, List, ℕ, Some, map, length, drop, ap, ◌∙◌, rules}
use Rattle.std.proofs.Math.ListN.{set}
use Rattle.vmv_links.specs.Lists.{list_at, first_of}
use Rattle.vmv_keeper.specs.declared.project.Bench.{Bench}
use Rattle.vmv_desk.specs.Queues.{number_at, with_number}
use Rattle.vmv_desk.proofs.TwoLists.{apart_of, taken_free, popped, pushed_waiting, unlisted_in, with_pushed}
use Rattle.vmv_desk.proofs.queue.Queue.push.Goals as goal

pub push_back-requires-clause-free : goal.push_back-requires-clause-free
push_back-requires-clause-free c =
    let links = c.self.inside.links in
    let x = c.in-Some.place in
    let first : Some x ≡ first_of (list_at links.lists 1) = search rules in
    let free = taken_free (list_at links.lists 0) (list_at links.lists 1) x (apart_of links c.each_in_one_list.ensures c.self.invariant.two) first in
    unlisted_in c.pop_front.new.self.lists (list_at links.lists 0) (drop 1 (list_at links.lists 1)) x
    (popped links.lists c.pop_front.new.self.lists c.self.invariant.two c.pop_front.ensures.lists) free.0 free.1

pub returns-in-Some : goal.returns-in-Some
returns-in-Some c =
    let links = c.self.inside.links in
    let numbers = c.self.inside.numbers.items in
    let a = list_at links.lists 0 in
    let b = list_at links.lists 1 in
    let x = c.in-Some.place in
    let n = c.args.number in
    let first : Some x ≡ first_of b = search rules in
    let below : x < length numbers = search rules in
    let bench : List (List ℕ) → Bench = λ ls. record { owner = c.self.inside.owner; name = c.self.inside.name; pending = map (number_at (set numbers x n)) (list_at ls 0) } in
    let lists = pushed_waiting c.pop_front.new.self.lists c.push_back.new.self.lists a (drop 1 b) x
    (popped links.lists c.pop_front.new.self.lists c.self.invariant.two c.pop_front.ensures.lists) c.push_back.ensures.lists in
    ap bench lists
    ∙ with_pushed c.self.inside.owner c.self.inside.name numbers a b x n (apart_of links c.each_in_one_list.ensures c.self.invariant.two) first c.self.invariant.all below
    ∙ ap (with_number n) c.self.view_is
