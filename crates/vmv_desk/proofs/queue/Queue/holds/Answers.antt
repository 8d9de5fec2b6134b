-- A number waits where it has a place.
use Rattle.std.proofs.Common.{◌≡◌, ℕ, List, Option, is_some, ap, ◌∙◌}
use Rattle.vmv_links.specs.Lists.{list_at}
use Rattle.vmv_desk.specs.Queues.{place_in}
use Rattle.vmv_desk.proofs.PlacesLemmas.{place_any}
use Rattle.vmv_desk.proofs.queue.Queue.holds.Goals as goal

pub returns : goal.returns
returns c =
    let xs = list_at c.self.inside.links.lists 0 in
    let found : c.place_of.result ≡ place_in c.self.inside.numbers.items c.args.number xs
    = c.place_of.ensures.place ∙ ap (λ (l : List ℕ). place_in l c.args.number xs) c.deref.ensures.value in
    rw (← c.self.view_is) (c.is_some.ensures ∙ ap (λ (o : Option ℕ). is_some o) found ∙ place_any c.self.inside.numbers.items c.args.number xs)
