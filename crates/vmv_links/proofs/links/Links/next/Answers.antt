use Rattle.std.proofs.Common.{◌≡◌, ◌+◌, ◌<◌, List, ◌∷◌, ◌++◌, Some, None, length, sym, ap, ◌∙◌}
use Rattle.vmv_links.specs.declared.node.Node.{Node}
use Rattle.vmv_links.specs.Lists.{list_at, StandsIn, IsListed, first_of}
use Rattle.vmv_links.specs.Nodes.{after_at, before_at, owner_at, number_of}
use Rattle.vmv_links.specs.Rings.{lists_of}
use Rattle.vmv_links.proofs.RingLemmas.{Path-rest}
use Rattle.vmv_links.proofs.NodesLemmas.{StandsIn-owner, number_of-Path, Contains-between, all_behind, some_of, none_of}
use Rattle.vmv_links.proofs.links.Links.next.Goals as goal

pub returns-then-is_none-clause-listed : goal.returns-then-is_none-clause-listed
returns-then-is_none-clause-listed c l front back =
    let nodes = c.self.inside.nodes.items in
    let n = c.self.inside.size in
    let lists = lists_of (after_at nodes) n c.self.inside.lists in
    let none : owner_at nodes c.args.item ≡ None = rw (c.owner.ensures, c.deref.ensures.value) at (none_of c.owner.result c.if-is_none.ensures) in
    let result : l < length lists → list_at lists l ≡ front ++ c.args.item ∷ back → None ≡ first_of back = λ within is.
    let stands : StandsIn lists l c.args.item = (within, rw is (Contains-between front c.args.item back)) in
    let owned : owner_at nodes c.args.item ≡ Some l
    = (StandsIn-owner (after_at nodes) (before_at nodes) (owner_at nodes) n lists c.self.invariant.2 l c.args.item).1 stands in
    cc in
    rw (← c.self.view_is) result

pub returns-clause-listed : goal.returns-clause-listed
returns-clause-listed c l front back =
    let nodes = c.self.inside.nodes.items in
    let n = c.self.inside.size in
    let lists = lists_of (after_at nodes) n c.self.inside.lists in
    let spells = c.self.invariant.2 in
    let result : l < length lists → list_at lists l ≡ front ++ c.args.item ∷ back → number_of n (after_at nodes c.args.item) ≡ first_of back = λ within is.
    let ring = rw is at (spells.ring l within) in
    let members = rw is at (spells.members l within) in
    number_of-Path (after_at nodes) (before_at nodes) (owner_at nodes) n l c.args.item back
    (all_behind (λ y. (y < n) × (owner_at nodes y ≡ Some l)) front c.args.item back members)
    (Path-rest (after_at nodes) (before_at nodes) (n + l) front c.args.item back (n + l) ring) in
    rw (c.number.ensures.number, c.after.ensures, c.deref-2.ensures.value, ← c.self.view_is) result

pub returns-clause-unlisted : goal.returns-clause-unlisted
returns-clause-unlisted c =
    let nodes = c.self.inside.nodes.items in
    let n = c.self.inside.size in
    let lists = lists_of (after_at nodes) n c.self.inside.lists in
    let some = some_of c.owner.result c.if-is_none.ensures in
    let owned : owner_at nodes c.args.item ≡ Some some.0
    = sym (c.owner.ensures ∙ ap (λ (ns : List Node). owner_at ns c.args.item) c.deref.ensures.value) ∙ some.1 in
    let stands = (StandsIn-owner (after_at nodes) (before_at nodes) (owner_at nodes) n lists c.self.invariant.2 some.0 c.args.item).0 owned in
    let result : (IsListed lists c.args.item → ⊥) → c.number.result ≡ None = λ unlisted. absurd (unlisted (some.0, stands)) in
    rw (← c.self.view_is) result
