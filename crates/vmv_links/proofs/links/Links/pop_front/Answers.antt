use Rattle.std.proofs.Common.{◌≡◌, ◌+◌, ◌<◌, ◌∷◌, Some, length, map, drop, set, ◌∙◌, arith}
use Rattle.vmv_links.specs.Lists.{list_at, without, first_of}
use Rattle.vmv_links.specs.Nodes.{after_at, before_at, owner_at, number_of, IsCutOut}
use Rattle.vmv_links.specs.Rings.{lists_of, Spells}
use Rattle.vmv_links.proofs.NodesLemmas.{written_back, length-lists_of, lists_of-cut, AreInside-cut, number_of-Path, number_of-some, first_of-some, map-without_first}
use Rattle.vmv_links.proofs.links.Links.pop_front.Goals as goal

pub after-place-requires : goal.after-place-requires
after-place-requires c =
    let within = rw (← c.self.view_is) at c.requires in
    omega (arith, within, c.self.invariant.0, c.deref.ensures.len, length-lists_of (after_at c.self.inside.nodes.items) c.self.inside.size c.self.inside.lists)

pub cut-requires-clause-inside : goal.cut-requires-clause-inside
cut-requires-clause-inside c = rw c.deref_mut.ensures.value c.self.invariant.1

within : (c : goal.After-self-1) → c.args.list < length (lists_of (after_at c.self.inside.nodes.items) c.self.inside.size c.self.inside.lists)
within c = rw (← c.self.view_is) at c.requires

found : (c : goal.After-self-1) → number_of c.self.inside.size c.after-place.result
    ≡ first_of (list_at (lists_of (after_at c.self.inside.nodes.items) c.self.inside.size c.self.inside.lists) c.args.list)
found c =
    let nodes = c.self.inside.nodes.items in
    let n = c.self.inside.size in
    let lists = lists_of (after_at nodes) n c.self.inside.lists in
    let spells = c.self.invariant.2 in
    rw (c.after-place.ensures, c.deref.ensures.value)
    (number_of-Path (after_at nodes) (before_at nodes) (owner_at nodes) n c.args.list (n + c.args.list) (list_at lists c.args.list)
    (spells.members c.args.list (within c)) (spells.ring c.args.list (within c)))

-- the list begins with the node that is cut out
begins : (c : goal.After-self-1) → list_at (lists_of (after_at c.self.inside.nodes.items) c.self.inside.size c.self.inside.lists) c.args.list
    ≡ c.after-place.result ∷ drop 1 (list_at (lists_of (after_at c.self.inside.nodes.items) c.self.inside.size c.self.inside.lists) c.args.list)
begins c =
    let same = number_of-some c.self.inside.size c.after-place.result c.in_ok-item.item c.in_ok-item.ensures.number in
    let some : Some c.in_ok-item.item ≡ first_of (list_at (lists_of (after_at c.self.inside.nodes.items) c.self.inside.size c.self.inside.lists) c.args.list)
    = c.in_ok-item.ensures.number ∙ found c in
    first_of-some c.after-place.result (list_at (lists_of (after_at c.self.inside.nodes.items) c.self.inside.size c.self.inside.lists) c.args.list) (rw same.0 at some)

taken : (c : goal.After-self-1) → (owner_at c.self.inside.nodes.items c.after-place.result ≡ Some c.args.list)
    × (map (without c.after-place.result) (lists_of (after_at c.self.inside.nodes.items) c.self.inside.size c.self.inside.lists)
    ≡ set (lists_of (after_at c.self.inside.nodes.items) c.self.inside.size c.self.inside.lists) c.args.list
    (drop 1 (list_at (lists_of (after_at c.self.inside.nodes.items) c.self.inside.size c.self.inside.lists) c.args.list)))
taken c =
    let nodes = c.self.inside.nodes.items in
    let n = c.self.inside.size in
    let lists = lists_of (after_at nodes) n c.self.inside.lists in
    map-without_first (after_at nodes) (before_at nodes) (owner_at nodes) n lists c.self.invariant.2 c.args.list c.after-place.result
    (drop 1 (list_at lists c.args.list)) (within c) (begins c)

-- the table after the change
cut_out : (c : goal.After-self-1) → IsCutOut c.self.inside.nodes.items c.cut.new.nodes c.after-place.result
cut_out c = rw c.deref_mut.ensures.value at c.cut.ensures

len : (c : goal.After-self-1) → length c.cut.new.nodes ≡ c.self.inside.nodes.len
len c = c.cut.ensures.len ∙ c.deref_mut.ensures.len

changed : (c : goal.After-self-1) →
    Spells (after_at c.cut.new.nodes) (before_at c.cut.new.nodes) (owner_at c.cut.new.nodes) c.self.inside.size (lists_of (after_at c.cut.new.nodes) c.self.inside.size c.self.inside.lists)
    × (lists_of (after_at c.cut.new.nodes) c.self.inside.size c.self.inside.lists
    ≡ map (without c.after-place.result) (lists_of (after_at c.self.inside.nodes.items) c.self.inside.size c.self.inside.lists))
changed c =
    lists_of-cut c.self.inside.nodes.items c.cut.new.nodes c.self.inside.size c.self.inside.lists c.args.list c.after-place.result c.self.invariant.2 (taken c).0 (cut_out c)

pub invariant_of-self : goal.invariant_of-self
invariant_of-self c =
    let small = (number_of-some c.self.inside.size c.after-place.result c.in_ok-item.item c.in_ok-item.ensures.number).1 in
    let inside = AreInside-cut c.self.inside.nodes.items c.cut.new.nodes c.after-place.result
    c.self.invariant.1 (omega (arith, small, c.self.invariant.0)) (cut_out c) in
    rw (written_back c.self.inside.nodes.items c.cut.new.nodes c.self.inside.nodes.len (len c)) (c.self.invariant.0, inside, (changed c).0)

pub returns-clause-first : goal.returns-clause-first
returns-clause-first c = rw (← c.self.view_is) (c.in_ok-item.ensures.number ∙ found c)

pub returns-clause-lists : goal.returns-clause-lists
returns-clause-lists c =
    rw (written_back c.self.inside.nodes.items c.cut.new.nodes c.self.inside.nodes.len (len c), ← c.self.view_is) ((changed c).1 ∙ (taken c).1)
