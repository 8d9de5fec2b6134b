use Rattle.std.proofs.Common.{◌≡◌, ℕ, List, Some, None, length, map, refl, sym, ap, ◌∙◌, arith}
use Rattle.vmv_links.specs.declared.node.Node.{Node}
use Rattle.vmv_links.specs.Lists.{without}
use Rattle.vmv_links.specs.Nodes.{after_at, before_at, owner_at, IsCutOut}
use Rattle.vmv_links.specs.Rings.{lists_of, Spells}
use Rattle.vmv_links.proofs.NodesLemmas.{written_back, StandsIn-owner, lists_of-cut, AreInside-cut, map-without_unlisted, some_of, none_of}
use Rattle.vmv_links.proofs.links.Links.take_out.Goals as goal

pub returns-then-is_none-clause-lists : goal.returns-then-is_none-clause-lists
returns-then-is_none-clause-lists c =
    let nodes = c.self.inside.nodes.items in
    let n = c.self.inside.size in
    let lists = lists_of (after_at nodes) n c.self.inside.lists in
    let none : owner_at nodes c.args.item ≡ None = rw (c.owner.ensures, c.deref.ensures.value) at (none_of c.owner.result c.if-is_none.ensures) in
    rw (← c.self.view_is) (sym (map-without_unlisted (after_at nodes) (before_at nodes) (owner_at nodes) n lists c.self.invariant.2 c.args.item none))

-- the table after the change
cut_out : (c : goal.After-self-1) → IsCutOut c.self.inside.nodes.items c.cut.new.nodes c.args.item
cut_out c = rw c.deref_mut.ensures.value at c.cut.ensures

len : (c : goal.After-self-1) → length c.cut.new.nodes ≡ c.self.inside.nodes.len
len c = c.cut.ensures.len ∙ c.deref_mut.ensures.len

owned : (c : goal.After-self-1) → (l : ℕ) × (owner_at c.self.inside.nodes.items c.args.item ≡ Some l)
owned c =
    let some = some_of c.owner.result c.if-is_none.ensures in
    (some.0, sym (c.owner.ensures ∙ ap (λ (nodes : List Node). owner_at nodes c.args.item) c.deref.ensures.value) ∙ some.1)

changed : (c : goal.After-self-1) →
    Spells (after_at c.cut.new.nodes) (before_at c.cut.new.nodes) (owner_at c.cut.new.nodes) c.self.inside.size (lists_of (after_at c.cut.new.nodes) c.self.inside.size c.self.inside.lists)
    × (lists_of (after_at c.cut.new.nodes) c.self.inside.size c.self.inside.lists
    ≡ map (without c.args.item) (lists_of (after_at c.self.inside.nodes.items) c.self.inside.size c.self.inside.lists))
changed c =
    let owner = owned c in
    lists_of-cut c.self.inside.nodes.items c.cut.new.nodes c.self.inside.size c.self.inside.lists owner.0 c.args.item c.self.invariant.2 owner.1 (cut_out c)

pub invariant_of-self : goal.invariant_of-self
invariant_of-self c =
    let small = rw (← c.self.view_is) at c.requires in
    let inside = AreInside-cut c.self.inside.nodes.items c.cut.new.nodes c.args.item
    c.self.invariant.1 (omega (arith, small, c.self.invariant.0)) (cut_out c) in
    rw (written_back c.self.inside.nodes.items c.cut.new.nodes c.self.inside.nodes.len (len c)) (c.self.invariant.0, inside, (changed c).0)

pub returns-clause-listed : goal.returns-clause-listed
returns-clause-listed c =
    let nodes = c.self.inside.nodes.items in
    let n = c.self.inside.size in
    let lists = lists_of (after_at nodes) n c.self.inside.lists in
    let owner = owned c in
    let stands = (StandsIn-owner (after_at nodes) (before_at nodes) (owner_at nodes) n lists c.self.invariant.2 owner.0 c.args.item).0 owner.1 in
    rw (← c.self.view_is) (λ _. (owner.0, stands), λ _. refl)

pub returns-clause-lists : goal.returns-clause-lists
returns-clause-lists c =
    rw (written_back c.self.inside.nodes.items c.cut.new.nodes c.self.inside.nodes.len (len c), ← c.self.view_is) (changed c).1
