-- The walk goes on to the next place.
use Rattle.std.proofs.Common.{◌≡◌, ◌+◌, Some, take, drop, sym, ◌∙◌, arith, rules}
use Rattle.vmv_links.specs.Lists.{list_at, first_of}
use Rattle.vmv_links.proofs.Walks.{first_of-drop}
use Rattle.vmv_desk.proofs.PlacesLemmas.{place_past}
use Rattle.vmv_desk.proofs.places.place_of.Goals as goal

pub loop-step-preserved : goal.loop-step-preserved
loop-step-preserved c =
    let xs = list_at c.args.links.now.lists 0 in
    let i = c.loop-step._step in
    let x = c.in_ok-place.place in
    let at : Some x ≡ first_of (drop i xs) = search rules in
    record {
      here = c.next-at.ensures.listed 0 (take i xs) (drop (i + 1) xs) (omega (arith, c.requires.two)) (first_of-drop xs i x at).0;
      below = search rules;
      missed = sym (place_past c.args.numbers.now c.args.number x xs i at (search rules)) ∙ c.loop-step.invariant.missed;
    }
