use Rattle.std.specs.Prelude.{◌≡◌, ◌≢◌, ℕ, ◌<◌, nat_lt, if◌then◌else◌, List, Option, Some, None, slice_index_or, length}
use Rattle.vmv_links.specs.declared.node.Node.{Node}

-- a node that is linked with itself alone
abbrev pub alone : ℕ → Node
alone place = record { before = place; after = place; list = None }

abbrev pub node_at : List Node → ℕ → Node
node_at nodes y = slice_index_or nodes y (alone y)

-- the node behind a node
abbrev pub after_at : List Node → ℕ → ℕ
after_at nodes y = (node_at nodes y).after

-- the node before a node
abbrev pub before_at : List Node → ℕ → ℕ
before_at nodes y = (node_at nodes y).before

-- the list that a node stands in
abbrev pub owner_at : List Node → ℕ → Option ℕ
owner_at nodes y = (node_at nodes y).list

-- no link leads out of the nodes
abbrev pub AreInside : List Node → Type 0
AreInside nodes = (y : ℕ) → y < length nodes → (after_at nodes y < length nodes) × (before_at nodes y < length nodes)

-- the links between two nodes are set, and nothing else is changed
pub record IsLinked (old new : List Node) (from to : ℕ) : Type 0 where
  pub len : length new ≡ length old
  pub after : after_at new from ≡ to
  pub after_rest : (y : ℕ) → y ≢ from → after_at new y ≡ after_at old y
  pub before : before_at new to ≡ from
  pub before_rest : (y : ℕ) → y ≢ to → before_at new y ≡ before_at old y
  pub owner_rest : (y : ℕ) → owner_at new y ≡ owner_at old y

-- the list of one node is set, and nothing else is changed
pub record IsOwned (old new : List Node) (place : ℕ) (list : Option ℕ) : Type 0 where
  pub len : length new ≡ length old
  pub after_rest : (y : ℕ) → after_at new y ≡ after_at old y
  pub before_rest : (y : ℕ) → before_at new y ≡ before_at old y
  pub owner : owner_at new place ≡ list
  pub owner_rest : (y : ℕ) → y ≢ place → owner_at new y ≡ owner_at old y

-- a node is cut out of its links and its list, and nothing else is changed
pub record IsCutOut (old new : List Node) (place : ℕ) : Type 0 where
  pub len : length new ≡ length old
  pub after_before : after_at new (before_at old place) ≡ after_at old place
  pub after_rest : (y : ℕ) → y ≢ before_at old place → after_at new y ≡ after_at old y
  pub before_after : before_at new (after_at old place) ≡ before_at old place
  pub before_rest : (y : ℕ) → y ≢ after_at old place → before_at new y ≡ before_at old y
  pub owner : owner_at new place ≡ None
  pub owner_rest : (y : ℕ) → y ≢ place → owner_at new y ≡ owner_at old y

-- a node is put before another one and into a list, and nothing else is changed
pub record IsPutIn (old new : List Node) (place end list : ℕ) : Type 0 where
  pub len : length new ≡ length old
  pub after_place : after_at new place ≡ end
  pub after_last : before_at old end ≢ place → after_at new (before_at old end) ≡ place
  pub after_rest : (y : ℕ) → y ≢ place → y ≢ before_at old end → after_at new y ≡ after_at old y
  pub before_end : before_at new end ≡ place
  pub before_place : place ≢ end → before_at new place ≡ before_at old end
  pub before_rest : (y : ℕ) → y ≢ place → y ≢ end → before_at new y ≡ before_at old y
  pub owner : owner_at new place ≡ Some list
  pub owner_rest : (y : ℕ) → y ≢ place → owner_at new y ≡ owner_at old y

-- the number of a node, where it is no end
abbrev pub number_of : ℕ → ℕ → Option ℕ
number_of size place = (if nat_lt place size then Some place else None)
