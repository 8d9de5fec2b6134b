use Rattle.std.proofs.Common.{◌≡◌, ◌⊎◌, ℕ, ◌<◌, ◌≤◌, false, Some, List, slice_get, IsTrue, sym, subst, arith, ◌∙◌}
use Rattle.std.specs.List.{All}
use Rattle.vmv_links.specs.Lists.{IsListed}
use Rattle.vmv_forward.specs.Rounds.{quest_of}
use Rattle.vmv_forward.specs.contracts.instance.Instance.{the_view}
use Rattle.vmv_forward.proofs.Turning.{visit_ends, read_at, stands_at, IsPutBehind, turned, turned_load}
use Rattle.vmv_forward.proofs.rounds.turn.Goals as goal

pub put_again-requires-clause-to : goal.put_again-requires-clause-to
put_again-requires-clause-to g c = let size = c.requires.waiting.size in let to = c.requires.to in let same = c.put_raised.ensures.more.size in omega (arith, size, to, same)

pub put_again-requires-clause-room : goal.put_again-requires-clause-room
put_again-requires-clause-room g c = c.put_raised.ensures.more.room

pub put_raised-requires-clause-callees : goal.put_raised-requires-clause-callees
put_raised-requires-clause-callees g c =
    let q = quest_of c.args.search.now in
    let e = visit_ends q c.args.instances.now c.args.number c.visit-seen.result.raised c.args.steps.now c.visit-seen.new.instances c.visit-seen.new.steps c.requires.from c.requires.kept c.visit-seen.ensures.visited in
    let long = e.long in
    let to = c.requires.to in
    let at = read_at c.visit-seen.new.instances c.args.number c.index-instances-number-2.result (the_view c.instance.inside) (omega (arith, long, to)) c.index-instances-number-2.is c.instance.view_is in
    let stands = stands_at q c.visit-seen.new.instances c.args.number c.args.waiting.now.size (the_view c.instance.inside) e.kept c.requires.from (c.requires.waiting.size ∙ sym e.long) at in
    subst (λ (l : List ℕ). All (λ k. (1 ≤ k) × (k < c.args.waiting.now.size)) l) (sym c.as_slice.ensures.value) stands.callees

pub put_raised-requires-clause-room : goal.put_raised-requires-clause-room
put_raised-requires-clause-room g c = c.requires.waiting.room

pub put_caller-requires-clause-to : goal.put_caller-requires-clause-to
put_caller-requires-clause-to g c =
    let q = quest_of c.args.search.now in
    let e = visit_ends q c.args.instances.now c.args.number c.visit-seen.result.raised c.args.steps.now c.visit-seen.new.instances c.visit-seen.new.steps c.requires.from c.requires.kept c.visit-seen.ensures.visited in
    let long = e.long in
    let to = c.requires.to in
    let at = read_at c.visit-seen.new.instances c.args.number c.index-instances-number-2.result (the_view c.instance.inside) (omega (arith, long, to)) c.index-instances-number-2.is c.instance.view_is in
    let stands = stands_at q c.visit-seen.new.instances c.args.number c.args.waiting.now.size (the_view c.instance.inside) e.kept c.requires.from (c.requires.waiting.size ∙ sym e.long) at in
    let before = stands.caller in
    let size = c.requires.waiting.size in
    let same = c.put_raised.ensures.more.size in
    let same' = c.put_again.ensures.more.size in
    omega (arith, before, size, same, same', to)

pub put_caller-requires-clause-room : goal.put_caller-requires-clause-room
put_caller-requires-clause-room g c = c.put_again.ensures.more.room

pub returns-clause-kept : goal.returns-clause-kept
returns-clause-kept g c =
    let q = quest_of c.args.search.now in
    let e = visit_ends q c.args.instances.now c.args.number c.visit-seen.result.raised c.args.steps.now c.visit-seen.new.instances c.visit-seen.new.steps c.requires.from c.requires.kept c.visit-seen.ensures.visited in
    e.kept

pub returns-clause-waiting : goal.returns-clause-waiting
returns-clause-waiting g c =
    let q = quest_of c.args.search.now in
    let e = visit_ends q c.args.instances.now c.args.number c.visit-seen.result.raised c.args.steps.now c.visit-seen.new.instances c.visit-seen.new.steps c.requires.from c.requires.kept c.visit-seen.ensures.visited in
    let long = e.long in
    let to = c.requires.to in
    let at = read_at c.visit-seen.new.instances c.args.number c.index-instances-number-2.result (the_view c.instance.inside) (omega (arith, long, to)) c.index-instances-number-2.is c.instance.view_is in
    let stands = stands_at q c.visit-seen.new.instances c.args.number c.args.waiting.now.size (the_view c.instance.inside) e.kept c.requires.from (c.requires.waiting.size ∙ sym e.long) at in
    let put : IsPutBehind c.args.number c.visit-seen.result.raised c.visit-seen.result.looped c.visit-seen.result.changed c.visit-seen.new.risen (the_view c.instance.inside) c.args.waiting.now c.put_raised.new.waiting c.put_again.new.waiting c.put_caller.new.waiting = record {
      first = c.put_raised.ensures.more;
      called = subst (λ (l : List ℕ). IsTrue c.visit-seen.result.raised → (i k : ℕ) → slice_get l i ≡ Some k → (slice_get c.visit-seen.new.risen i ≡ Some false) ⊎ IsListed c.put_raised.new.waiting.lists k) c.as_slice.ensures.value c.put_raised.ensures.called;
      still = c.put_raised.ensures.load;
      again = c.put_again.ensures.more;
      here = c.put_again.ensures.there;
      stay = c.put_again.ensures.load;
      second = c.put_caller.ensures.more;
      caller = c.put_caller.ensures.there;
      more = c.put_caller.ensures.load;
    } in
    turned q c.args.instances.now c.args.number c.visit-seen.result.raised c.visit-seen.result.looped c.visit-seen.result.changed c.args.steps.now c.visit-seen.new.instances c.visit-seen.new.steps c.clear.new.flags c.visit-seen.new.risen (the_view c.instance.inside)
    c.args.waiting.now c.put_raised.new.waiting c.put_again.new.waiting c.put_caller.new.waiting c.requires.from c.requires.kept c.visit-seen.ensures.visited (record { settled = c.visit-seen.ensures.settled; told = c.visit-seen.ensures.told; same = c.visit-seen.ensures.same }) at c.requires.waiting put

pub returns-clause-falls : goal.returns-clause-falls
returns-clause-falls g c =
    let q = quest_of c.args.search.now in
    let e = visit_ends q c.args.instances.now c.args.number c.visit-seen.result.raised c.args.steps.now c.visit-seen.new.instances c.visit-seen.new.steps c.requires.from c.requires.kept c.visit-seen.ensures.visited in
    e.falls

pub returns-clause-stays : goal.returns-clause-stays
returns-clause-stays g c =
    let q = quest_of c.args.search.now in
    let e = visit_ends q c.args.instances.now c.args.number c.visit-seen.result.raised c.args.steps.now c.visit-seen.new.instances c.visit-seen.new.steps c.requires.from c.requires.kept c.visit-seen.ensures.visited in
    e.stays

pub returns-clause-load : goal.returns-clause-load
returns-clause-load g c still =
    let q = quest_of c.args.search.now in
    let e = visit_ends q c.args.instances.now c.args.number c.visit-seen.result.raised c.args.steps.now c.visit-seen.new.instances c.visit-seen.new.steps c.requires.from c.requires.kept c.visit-seen.ensures.visited in
    let long = e.long in
    let to = c.requires.to in
    let at = read_at c.visit-seen.new.instances c.args.number c.index-instances-number-2.result (the_view c.instance.inside) (omega (arith, long, to)) c.index-instances-number-2.is c.instance.view_is in
    let stands = stands_at q c.visit-seen.new.instances c.args.number c.args.waiting.now.size (the_view c.instance.inside) e.kept c.requires.from (c.requires.waiting.size ∙ sym e.long) at in
    let put : IsPutBehind c.args.number c.visit-seen.result.raised c.visit-seen.result.looped c.visit-seen.result.changed c.visit-seen.new.risen (the_view c.instance.inside) c.args.waiting.now c.put_raised.new.waiting c.put_again.new.waiting c.put_caller.new.waiting = record {
      first = c.put_raised.ensures.more;
      called = subst (λ (l : List ℕ). IsTrue c.visit-seen.result.raised → (i k : ℕ) → slice_get l i ≡ Some k → (slice_get c.visit-seen.new.risen i ≡ Some false) ⊎ IsListed c.put_raised.new.waiting.lists k) c.as_slice.ensures.value c.put_raised.ensures.called;
      still = c.put_raised.ensures.load;
      again = c.put_again.ensures.more;
      here = c.put_again.ensures.there;
      stay = c.put_again.ensures.load;
      second = c.put_caller.ensures.more;
      caller = c.put_caller.ensures.there;
      more = c.put_caller.ensures.load;
    } in
    turned_load c.args.number c.args.waiting.now.size c.visit-seen.result.raised c.visit-seen.result.looped c.visit-seen.result.changed c.visit-seen.new.risen (the_view c.instance.inside) c.args.waiting.now c.put_raised.new.waiting c.put_again.new.waiting c.put_caller.new.waiting stands put
    still (c.visit-seen.ensures.looped still)

pub returns-clause-few : goal.returns-clause-few
returns-clause-few g c =
    let q = quest_of c.args.search.now in
    let e = visit_ends q c.args.instances.now c.args.number c.visit-seen.result.raised c.args.steps.now c.visit-seen.new.instances c.visit-seen.new.steps c.requires.from c.requires.kept c.visit-seen.ensures.visited in
    e.few

pub returns-clause-loops : goal.returns-clause-loops
returns-clause-loops g c =
    let q = quest_of c.args.search.now in
    let e = visit_ends q c.args.instances.now c.args.number c.visit-seen.result.raised c.args.steps.now c.visit-seen.new.instances c.visit-seen.new.steps c.requires.from c.requires.kept c.visit-seen.ensures.visited in
    e.loops

pub returns-clause-cost : goal.returns-clause-cost
returns-clause-cost g c =
    let q = quest_of c.args.search.now in
    let e = visit_ends q c.args.instances.now c.args.number c.visit-seen.result.raised c.args.steps.now c.visit-seen.new.instances c.visit-seen.new.steps c.requires.from c.requires.kept c.visit-seen.ensures.visited in
    e.cost
