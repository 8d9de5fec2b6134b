-- The rows that are written for instances.
use Rattle.std.specs.Prelude.{◌≡◌, ◌⊎◌, ◌↔◌, ℕ, zero, suc, ◌+◌, ◌-◌, ◌<◌, ◌≤◌, Bool, true, Some, List, [], ◌∷◌, ◌++◌, length, map, slice_get}
use Rattle.std.specs.List.{Contains}
use Rattle.vmv_tree.specs.declared.site.NamedSite.{NamedSite}
use Rattle.vmv_tree.specs.Run.{name_of}
use Rattle.vmv_cond.specs.declared.cond.Cond.{Cond}
use Rattle.vmv_cond.specs.Cond.{IsEmpty}
use Rattle.vmv_snapshot.specs.Resolution.{Resolution, procs_of}
use Rattle.vmv_snapshot.specs.Tables.{body_sites}
use Rattle.vmv_zone.specs.declared.zone.Zone.{Zone}
use Rattle.vmv_zone.specs.Zone.{IsBottom, NotBottom}
use Rattle.vmv_cert.specs.declared.row.Row.{Row}
use Rattle.vmv_cert.specs.declared.row.Reach.{Reach}
use Rattle.vmv_cert.specs.declared.row.Reach.TheVariants.{Bottom, Value}
use Rattle.vmv_cert.specs.Tables.{IsSiteOf, AreSitesOf}
use Rattle.vmv_forward.specs.Least.{IsRowFor}
use Rattle.vmv_forward.specs.Path.{Path}
use Rattle.vmv_forward.specs.Rounds.{HasInput, HasResult}

-- calls of these places that are reached lead from instance j to instance k
abbrev pub Leads : List Path → ℕ → List ℕ → ℕ → Type 0
Leads paths j [] k = j ≡ k
Leads paths j (place ∷ places) k =
    (path : Path) × (next : ℕ) × (input : Zone) × (slice_get paths j ≡ Some path) × (slice_get path.callees place ≡ Some next)
    × (slice_get path.inputs place ≡ Some input) × NotBottom input × Leads paths next places k

-- the site of the procedure of this number is flagged at instance k
abbrev pub IsFlagged : List Path → ℕ → ℕ → ℕ → Type 0
IsFlagged paths k proc index = (path : Path) × (slice_get paths k ≡ Some path) × (path.proc.0 ≡ proc) × (1 ≤ index) × (slice_get path.unproved (index - 1) ≡ Some true)

-- it is flagged at instance j, or at one to which reached calls lead from there
abbrev pub IsListed : List Path → ℕ → ℕ → ℕ → Type 0
IsListed paths j proc index = (places : List ℕ) × (k : ℕ) × Leads paths j places k × IsFlagged paths k proc index

-- the site is one of the procedure of this number, and flagged at the instance itself
abbrev pub IsOwn : Path → ℕ → ℕ → Type 0
IsOwn path proc index = (path.proc.0 ≡ proc) × (1 ≤ index) × (slice_get path.unproved (index - 1) ≡ Some true)

-- marked are those that were, and those of which this holds
pub record AreMarkedBy (P : ℕ → Type 0) (old new : List Bool) : Type 0 where
  pub count : length new ≡ length old
  pub each : (i : ℕ) → i < length old → (slice_get new i ≡ Some true) ↔ ((slice_get old i ≡ Some true) ⊎ P i)

-- Bottom where nothing is in the range
abbrev pub IsReachOf : Cond → Reach → Type 0
IsReachOf range reach = (IsEmpty range × (reach ≡ Bottom)) ⊎ ((IsEmpty range → ⊥) × (reach ≡ Value range))

-- the row of instance j: what is stored for it, and the sites that are flagged there and where reached calls lead
pub record IsRowOf (program : Resolution) (paths : List Path) (j : ℕ) (row : Row) : Type 0 where
  pub one : 1 ≤ j
  pub path : Path
  pub path_is : slice_get paths j ≡ Some path
  pub named : slice_get (map name_of (procs_of program)) path.proc.0 ≡ Some row.proc
  pub input : HasInput paths path row.input
  pub reached : NotBottom row.input
  pub keeps : row.keeps ≡ path.keeps
  pub range : Cond
  pub range_is : HasResult paths path range
  pub result : IsReachOf range row.result
  pub sites : AreSitesOf program path.proc.0 row.unproved
  pub listed : (site : NamedSite) → Contains row.unproved site ↔ ((m : ℕ) × IsSiteOf program path.proc.0 m site × IsListed paths j m site.index)

-- instance j, with this input, from these rows on to those
abbrev pub Lay : Type 1
Lay = ℕ → Zone → List Row → List Row → Type 0

-- the instances are visited in order, those that are reached
abbrev pub LaysCalls : Lay → List ℕ → List Zone → List Row → List Row → Type 0
LaysCalls L [] [] seen out = out ≡ seen
LaysCalls L (j ∷ js) (input ∷ inputs) seen out =
    (IsBottom input × LaysCalls L js inputs seen out) ⊎ (NotBottom input × ((next : List Row) × L j input seen next × LaysCalls L js inputs next out))
LaysCalls L js inputs seen out = ⊥

-- An instance is visited once for each procedure and input. Its row stands before those of the instances that it calls.
abbrev pub Lays : ℕ → Resolution → List Path → Lay
Lays zero program paths j input seen out = ⊥
Lays (suc depth) program paths j input seen out =
    (path : Path) × (slice_get paths j ≡ Some path)
    × ((((row : Row) × Contains seen row × IsRowFor program path.proc.0 input row) × (out ≡ seen))
    ⊎ (((row : Row) → Contains seen row → IsRowFor program path.proc.0 input row → ⊥)
    × ((row : Row) × IsRowOf program paths j row × (row.input ≡ input) × LaysCalls (Lays depth program paths) path.callees path.inputs (seen ++ row ∷ []) out)))

-- the instance has an input that isn't Bottom
abbrev pub IsReached : List Path → ℕ → Type 0
IsReached paths j = (path : Path) × (input : Zone) × (slice_get paths j ≡ Some path) × HasInput paths path input × NotBottom input

-- a listed site of the procedure of number p
pub record IsSiteFrom (program : Resolution) (paths : List Path) (j p : ℕ) (site : NamedSite) : Type 0 where
  pub named : slice_get (map name_of (procs_of program)) p ≡ Some site.proc
  pub count : ℕ
  pub count_is : slice_get (map body_sites (procs_of program)) p ≡ Some count
  pub from : 1 ≤ site.index
  pub to : site.index ≤ count
  pub listed : IsListed paths j p site.index

-- the sites that the row of instance j lists
pub record AreListedSites (program : Resolution) (paths : List Path) (j : ℕ) (list : List NamedSite) : Type 0 where
  pub path : Path
  pub path_is : slice_get paths j ≡ Some path
  pub sites : AreSitesOf program path.proc.0 list
  pub listed : (site : NamedSite) → Contains list site ↔ ((m : ℕ) × IsSiteOf program path.proc.0 m site × IsListed paths j m site.index)

-- the listed sites of the procedure of number p are added behind, in order
pub record AddsSites (program : Resolution) (paths : List Path) (j p : ℕ) (old new : List NamedSite) : Type 0 where
  pub more : List NamedSite
  pub is : new ≡ old ++ more
  pub each : (site : NamedSite) → Contains more site ↔ IsSiteFrom program paths j p site
  pub order : (i : ℕ) (one other : NamedSite) → slice_get more i ≡ Some one → slice_get more (i + 1) ≡ Some other → one.index < other.index
