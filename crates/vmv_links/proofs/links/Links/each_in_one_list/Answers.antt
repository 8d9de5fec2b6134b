use Rattle.vmv_links.specs.Nodes.{after_at, before_at, owner_at}
use Rattle.vmv_links.specs.Rings.{lists_of}
use Rattle.vmv_links.proofs.NodesLemmas.{IsApart-Spells}
use Rattle.vmv_links.proofs.links.Links.each_in_one_list.Goals as goal

pub returns : goal.returns
returns c =
    let nodes = c.self.inside.nodes.items in
    let n = c.self.inside.size in
    rw (← c.self.view_is) (IsApart-Spells (after_at nodes) (before_at nodes) (owner_at nodes) n (lists_of (after_at nodes) n c.self.inside.lists) c.self.invariant.2)
