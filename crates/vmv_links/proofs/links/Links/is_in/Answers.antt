use Rattle.std.proofs.Common.{◌≡◌, Some, None}
use Rattle.vmv_links.specs.Lists.{IsListed}
use Rattle.vmv_links.specs.Nodes.{after_at, before_at, owner_at}
use Rattle.vmv_links.specs.Rings.{lists_of}
use Rattle.vmv_links.proofs.NodesLemmas.{StandsIn-owner, owner-unlisted}
use Rattle.vmv_links.proofs.links.Links.is_in.Goals as goal

pub returns-clause-list : goal.returns-clause-list
returns-clause-list c l =
    let nodes = c.self.inside.nodes.items in
    let lists = lists_of (after_at nodes) c.self.inside.size c.self.inside.lists in
    let owner = StandsIn-owner (after_at nodes) (before_at nodes) (owner_at nodes) c.self.inside.size lists c.self.invariant.2 l c.args.item in
    rw (c.owner.ensures, c.deref.ensures.value, ← c.self.view_is) owner

pub returns-clause-none : goal.returns-clause-none
returns-clause-none c =
    let nodes = c.self.inside.nodes.items in
    let lists = lists_of (after_at nodes) c.self.inside.size c.self.inside.lists in
    let owner = StandsIn-owner (after_at nodes) (before_at nodes) (owner_at nodes) c.self.inside.size lists c.self.invariant.2 in
    let both : (owner_at nodes c.args.item ≡ None → IsListed lists c.args.item → ⊥) × ((IsListed lists c.args.item → ⊥) → owner_at nodes c.args.item ≡ None) = (
      λ none listed. let owned : owner_at nodes c.args.item ≡ Some listed.0 = (owner listed.0 c.args.item).1 listed.1 in cc,
      owner-unlisted (after_at nodes) (before_at nodes) (owner_at nodes) c.self.inside.size lists c.self.invariant.2 c.args.item,
    ) in
    rw (c.owner.ensures, c.deref.ensures.value, ← c.self.view_is) both
