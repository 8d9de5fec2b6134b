use Rattle.std.proofs.Common.{◌+◌, ◌<◌, length, arith}
use Rattle.vmv_links.specs.Lists.{list_at}
use Rattle.vmv_links.specs.Nodes.{after_at, before_at, owner_at}
use Rattle.vmv_links.specs.Rings.{lists_of}
use Rattle.vmv_links.proofs.NodesLemmas.{length-lists_of, number_of-Path}
use Rattle.vmv_links.proofs.links.Links.first.Goals as goal

pub after-requires : goal.after-requires
after-requires c =
    let within = rw (← c.self.view_is) at c.requires in
    omega (arith, within, c.self.invariant.0, c.deref.ensures.len, length-lists_of (after_at c.self.inside.nodes.items) c.self.inside.size c.self.inside.lists)

pub returns-clause-first : goal.returns-clause-first
returns-clause-first c =
    let nodes = c.self.inside.nodes.items in
    let n = c.self.inside.size in
    let lists = lists_of (after_at nodes) n c.self.inside.lists in
    let within : c.args.list < length lists = rw (← c.self.view_is) at c.requires in
    let spells = c.self.invariant.2 in
    let found = number_of-Path (after_at nodes) (before_at nodes) (owner_at nodes) n c.args.list (n + c.args.list) (list_at lists c.args.list)
    (spells.members c.args.list within) (spells.ring c.args.list within) in
    rw (c.number.ensures.number, c.after.ensures, c.deref.ensures.value, ← c.self.view_is) found
