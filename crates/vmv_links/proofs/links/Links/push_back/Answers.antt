use Rattle.std.proofs.Common.{◌≡◌, ◌+◌, [], ◌∷◌, ◌++◌, length, set, ◌∙◌, arith}
use Rattle.vmv_links.specs.Lists.{list_at}
use Rattle.vmv_links.specs.Nodes.{after_at, before_at, owner_at, IsPutIn}
use Rattle.vmv_links.specs.Rings.{lists_of, Spells}
use Rattle.vmv_links.proofs.NodesLemmas.{written_back, length-lists_of, owner-unlisted, lists_of-put, AreInside-put}
use Rattle.vmv_links.proofs.links.Links.push_back.Goals as goal

pub put-requires-clause-end : goal.put-requires-clause-end
put-requires-clause-end c =
    let within = rw (← c.self.view_is) at c.requires.list in
    omega (arith, within, c.self.invariant.0, c.deref_mut.ensures.len, length-lists_of (after_at c.self.inside.nodes.items) c.self.inside.size c.self.inside.lists)

pub put-requires-clause-inside : goal.put-requires-clause-inside
put-requires-clause-inside c = rw c.deref_mut.ensures.value c.self.invariant.1

-- the table after the change
put_in : (c : goal.After-self-1) → IsPutIn c.self.inside.nodes.items c.put.new.nodes c.args.item (c.self.inside.size + c.args.list) c.args.list
put_in c = rw c.deref_mut.ensures.value at c.put.ensures

len : (c : goal.After-self-1) → length c.put.new.nodes ≡ c.self.inside.nodes.len
len c = c.put.ensures.len ∙ c.deref_mut.ensures.len

changed : (c : goal.After-self-1) →
    Spells (after_at c.put.new.nodes) (before_at c.put.new.nodes) (owner_at c.put.new.nodes) c.self.inside.size (lists_of (after_at c.put.new.nodes) c.self.inside.size c.self.inside.lists)
    × (lists_of (after_at c.put.new.nodes) c.self.inside.size c.self.inside.lists
    ≡ set (lists_of (after_at c.self.inside.nodes.items) c.self.inside.size c.self.inside.lists) c.args.list
    (list_at (lists_of (after_at c.self.inside.nodes.items) c.self.inside.size c.self.inside.lists) c.args.list ++ c.args.item ∷ []))
changed c =
    let nodes = c.self.inside.nodes.items in
    let n = c.self.inside.size in
    let k = c.self.inside.lists in
    let within = rw (← c.self.view_is, length-lists_of (after_at nodes) n k) at c.requires.list in
    let small = rw (← c.self.view_is) at c.requires.item in
    let unlisted = rw (← c.self.view_is) at c.requires.free in
    let free = owner-unlisted (after_at nodes) (before_at nodes) (owner_at nodes) n (lists_of (after_at nodes) n k) c.self.invariant.2 c.args.item unlisted in
    lists_of-put nodes c.put.new.nodes n k c.args.list c.args.item c.self.invariant.2 within small free (put_in c)

pub invariant_of-self : goal.invariant_of-self
invariant_of-self c =
    let within = rw (← c.self.view_is, length-lists_of (after_at c.self.inside.nodes.items) c.self.inside.size c.self.inside.lists) at c.requires.list in
    let small = rw (← c.self.view_is) at c.requires.item in
    let inside = AreInside-put c.self.inside.nodes.items c.put.new.nodes c.args.item (c.self.inside.size + c.args.list) c.args.list
    c.self.invariant.1 (omega (arith, small, c.self.invariant.0)) (omega (arith, within, c.self.invariant.0)) (put_in c) in
    rw (written_back c.self.inside.nodes.items c.put.new.nodes c.self.inside.nodes.len (len c)) (c.self.invariant.0, inside, (changed c).0)

pub returns-clause-lists : goal.returns-clause-lists
returns-clause-lists c =
    rw (written_back c.self.inside.nodes.items c.put.new.nodes c.self.inside.nodes.len (len c), ← c.self.view_is) (changed c).1
