-- The walk goes on to the next place.
use Rattle.std.proofs.Common.{◌≡◌, ◌+◌, ◌∷◌, ◌++◌, Some, take, drop, ap, ◌∙◌, arith, rules, [], List, ℕ}
use Rattle.vmv_links.specs.Lists.{list_at, first_of}
use Rattle.vmv_links.proofs.Walks.{first_of-drop}
use Rattle.vmv_desk.specs.Queues.{number_at}
use Rattle.vmv_desk.proofs.PlacesLemmas.{seen_more}
use Rattle.vmv_desk.proofs.places.waiting.Goals as goal

pub loop-step-preserved : goal.loop-step-preserved
loop-step-preserved c =
    let xs = list_at c.args.links.now.lists 0 in
    let i = c.loop-step._step in
    let x = c.in-Some.place in
    let at : Some x ≡ first_of (drop i xs) = search rules in
    let items : c.push.new.self.items ≡ c.loop-step.all.items ++ number_at c.args.numbers.now x ∷ [] = c.in_ok-push.ensures.items in
    record {
      here = c.next-at.ensures.listed 0 (take i xs) (drop (i + 1) xs) (omega (arith, c.requires.two)) (first_of-drop xs i x at).0;
      below = search rules;
      seen = items ∙ ap (λ (l : List ℕ). l ++ number_at c.args.numbers.now x ∷ []) c.loop-step.invariant.seen ∙ seen_more c.args.numbers.now x xs i at;
    }
