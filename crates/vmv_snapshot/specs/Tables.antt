-- What the tables of a program tell of it.
use Rattle.std.specs.Prelude.{◌≡◌, ℕ, ◌<◌, ◌≤◌, Option, Some, None, List, [], ◌∷◌, ◌++◌, length, map, slice_get, if◌then◌else◌}
use Rattle.std.specs.List.{Contains}
use Rattle.vmv_tree.specs.declared.name.Name.{Name}
use Rattle.vmv_tree.specs.Tree.{Body, Item, outside, helper, entry}
use Rattle.vmv_tree.specs.Run.{block_sites, name_of}
use Rattle.vmv_snapshot.specs.declared.tables.Proc.{Proc}
use Rattle.vmv_snapshot.specs.declared.tables.Tables.{Tables}
use Rattle.vmv_snapshot.specs.View.{code_of}
use Rattle.vmv_snapshot.specs.Procs.{procs, outsides, helper_name, params_of, is_entry}
use Rattle.vmv_snapshot.specs.Resolves.{Scope, slot_names, ResolvesBody, IsCode}
use Rattle.vmv_snapshot.specs.Resolvable.{IsReady}

-- the name by which a procedure is called
abbrev pub callable : Proc → Option Name
callable proc = if proc.entry then None else Some proc.name

-- what the names in a procedure mean, whose slots have these names
abbrev pub scope_in : Tables → List (Option Name) → Scope
scope_in tables slots = record { outsides = tables.outsides.keys; helpers = map callable tables.procs.items; slots = slots }

-- no name stands twice
abbrev pub AreOnce : List Name → Type 0
AreOnce names = (m n : ℕ) (name : Name) → slice_get names m ≡ Some name → slice_get names n ≡ Some name → m ≡ n

-- the names of the procedures are those that the table of names has, each once
pub record AreNumbered (tables : Tables) : Type 0 where
  pub few : length tables.procs.items ≤ 128
  pub names : tables.names.keys ≡ map (λ proc. proc.name) tables.procs.items
  pub once : AreOnce tables.names.keys

-- nothing stands against one more procedure
pub record IsNew (tables : Tables) (name : Name) (params : List Name) (body : Body) : Type 0 where
  pub numbered : AreNumbered tables
  pub room : length tables.procs.items < 128
  pub unused : Contains tables.names.keys name → ⊥
  pub ready : IsReady (scope_in tables (slot_names params body)) body

-- nothing stands against one more item
abbrev pub IsNext : Tables → Item → Type 0
IsNext tables (outside name arity) = Contains tables.outsides.keys name → ⊥
IsNext tables (helper name params body) = IsNew tables name params body
IsNext tables (entry name params body) = IsNew tables name (map (λ p. p.name) params) body

-- a procedure of an item, resolved behind what the tables have
pub record IsProcOf (tables : Tables) (item : Item) (names : List Name) (body : Body) (proc : Proc) : Type 0 where
  pub name : proc.name ≡ name_of item
  pub entry : proc.entry ≡ is_entry item
  pub params : proc.params ≡ params_of item
  pub sites : proc.sites ≡ block_sites body.block
  pub code : ResolvesBody (scope_in tables (slot_names names body)) body (code_of proc.code)

-- one more procedure
pub record HasMore (old : Tables) (proc : Proc) (new : Tables) : Type 0 where
  pub outsides : new.outsides.keys ≡ old.outsides.keys
  pub names : new.names.keys ≡ old.names.keys ++ proc.name ∷ []
  pub procs : new.procs.items ≡ old.procs.items ++ proc ∷ []

-- one more item
abbrev pub Adds : Tables → Item → Tables → Type 0
Adds old (outside name arity) new =
    (new.outsides.keys ≡ old.outsides.keys ++ name ∷ []) × (new.names.keys ≡ old.names.keys) × (new.procs.items ≡ old.procs.items)
Adds old (helper name params body) new = (proc : Proc) × IsProcOf old (helper name params body) params body proc × HasMore old proc new
Adds old (entry name params body) new =
    (proc : Proc) × IsProcOf old (entry name params body) (map (λ p. p.name) params) body proc × HasMore old proc new

abbrev pub body_sites : Item → ℕ
body_sites (outside name arity) = 0
body_sites (helper name params body) = block_sites body.block
body_sites (entry name params body) = block_sites body.block

-- what a resolved procedure tells of the procedure of this number
pub record Tells (program : List Item) (n : ℕ) (proc : Proc) : Type 0 where
  pub item : Item
  pub place : slice_get (procs program) n ≡ Some item
  pub name : proc.name ≡ name_of item
  pub entry : proc.entry ≡ is_entry item
  pub params : proc.params ≡ params_of item
  pub sites : proc.sites ≡ body_sites item
  pub code : IsCode program n (code_of proc.code)

-- the tables of a program
pub record AreTables (program : List Item) (tables : Tables) : Type 0 where
  pub asked : tables.outsides.keys ≡ outsides program
  pub names : tables.names.keys ≡ map name_of (procs program)
  pub numbered : AreNumbered tables
  -- no outside name is a procedure's
  pub apart : (x : Name) → Contains (outsides program) x → Contains (map name_of (procs program)) x → ⊥
  pub count : length tables.procs.items ≡ length (procs program)
  pub tells : (n : ℕ) (proc : Proc) → slice_get tables.procs.items n ≡ Some proc → Tells program n proc
