-- Accepted tables, and what they show.
use Rattle.std.specs.Prelude.{◌≡◌, ◌⊎◌, ℕ, ◌+◌, ◌<◌, ◌≤◌, ℤ, pos, ◌≤ℤ◌, neg_ℤ, Some, List, [], ◌∷◌, ◌++◌, length, map, slice_get}
use Rattle.std.specs.List.{All, AllZip, Contains}
use Rattle.vmv_tree.specs.declared.ends.NameEnds.{NameEnds}
use Rattle.vmv_tree.specs.declared.site.NamedSite.{NamedSite}
use Rattle.vmv_tree.specs.Run.{name_of}
use Rattle.vmv_tree.specs.declared.name.Name.{Name}
use Rattle.vmv_tree.specs.declared.tree.Param.{Param}
use Rattle.vmv_tree.specs.Tree.{Item, entry, Body}
use Rattle.vmv_cond.specs.declared.cond.Cond.{Cond}
use Rattle.vmv_cond.specs.Cond.{IsEmpty, IsSubset}
use Rattle.vmv_snapshot.specs.declared.code.Code.{Code}
use Rattle.vmv_snapshot.specs.View.{code_of}
use Rattle.vmv_snapshot.specs.Procs.{params_of}
use Rattle.vmv_snapshot.specs.Reaches.{Reaches}
use Rattle.vmv_snapshot.specs.Resolution.{Resolution, tree_of, procs_of}
use Rattle.vmv_snapshot.specs.Tables.{body_sites}
use Rattle.vmv_zone.specs.declared.zone.Zone.{Zone}
use Rattle.vmv_zone.specs.Bounds.{top_bound}
use Rattle.vmv_zone.specs.Zone.{vars_of, NotBottom, bound_of, IsMarked, IsBelow, IsNormOf}
use Rattle.vmv_zone.specs.Read.{IsRangeOf}
use Rattle.vmv_assumption.specs.Assumed.{Assumed}
use Rattle.vmv_step.specs.Zones.{zone_operand}
use Rattle.vmv_step.specs.Enter.{declared_count, IsEntered}
use Rattle.vmv_cert.specs.declared.row.Row.{Row}
use Rattle.vmv_cert.specs.declared.row.Reach.{Reach}
use Rattle.vmv_cert.specs.declared.row.Reach.TheVariants.{Bottom, Value}
use Rattle.vmv_cert.specs.Sizes.{block_statements, block_loops}
use Rattle.vmv_cert.specs.Thresholds.{IsThreshold}
use Rattle.vmv_cert.specs.Walk.{Way, goes, fails, Walk, GoesIf, Then, WalksAll}

-- the site stands in the procedure of number m, which that of number n reaches
pub record IsSiteOf (program : Resolution) (n m : ℕ) (site : NamedSite) : Type 0 where
  pub item : Item
  pub place : slice_get (procs_of program) m ≡ Some item
  pub named : name_of item ≡ site.proc
  pub from : 1 ≤ site.index
  pub to : site.index ≤ body_sites item
  pub reached : Reaches (tree_of program) n m

-- the one stands before the other, by procedure in text order, then by number
pub record Precedes (program : Resolution) (one other : NamedSite) : Type 0 where
  pub first : ℕ
  pub second : ℕ
  pub first_is : slice_get (map name_of (procs_of program)) first ≡ Some one.proc
  pub second_is : slice_get (map name_of (procs_of program)) second ≡ Some other.proc
  pub order : (first < second) ⊎ ((first ≡ second) × (one.index < other.index))

-- sites of procedures that the one of number n reaches, sorted by procedure in text order, then by number, and distinct
pub record AreSitesOf (program : Resolution) (n : ℕ) (sites : List NamedSite) : Type 0 where
  pub each : (site : NamedSite) → Contains sites site → (m : ℕ) × IsSiteOf program n m site
  pub sorted : (i : ℕ) (one other : NamedSite) → slice_get sites i ≡ Some one → slice_get sites (i + 1) ≡ Some other → Precedes program one other

-- the row is one of this procedure, and each part of it is over that: what step 0 looks at
pub record IsFormed (program : Resolution) (row : Row) (n : ℕ) (item : Item) (code : Code) : Type 0 where
  pub place : slice_get (procs_of program) n ≡ Some item
  pub code_is : slice_get program.codes n ≡ Some code
  pub named : name_of item ≡ row.proc
  pub input : vars_of row.input ≡ length (params_of item)
  pub keeps : length row.keeps ≡ block_loops (code_of code).block
  pub over : All (λ z. vars_of z ≡ code.vars) row.keeps
  pub sites : AreSitesOf program n row.unproved

-- the result is above the range
abbrev pub IsAbove : Reach → Cond → Type 0
IsAbove Bottom c = IsEmpty c
IsAbove (Value d) c = IsSubset c d

-- from the state in which the procedure starts, over its statements, to its return, whose number is one more than the last's
abbrev pub WalksBody : Walk → Item → Code → Way → Type 0
WalksBody w item code way =
    (start : Zone) × (end : Way) × IsEntered w.row.input (length (params_of item)) (declared_count item) code.vars start
    × WalksAll w 1 0 (code_of code).block start end
    × Then end (λ e way. (c : Cond) × IsRangeOf e (zone_operand code.result) c × GoesIf (IsAbove w.row.result c) (block_statements (code_of code).block + 1) e way) way

-- the walk of a row
abbrev pub WalksRow : Walk → Way → Type 0
WalksRow w way =
    (((n : ℕ) (item : Item) (code : Code) → IsFormed w.program w.row n item code → ⊥) × (way ≡ fails 0))
    ⊎ ((n : ℕ) × (item : Item) × (code : Code) × IsFormed w.program w.row n item code × WalksBody w item code way)

-- the row's walk holds
abbrev pub Passes : Resolution → Assumed → List Row → Row → Type 0
Passes program assumed rows row = (z : Zone) × WalksRow (record { program = program; assumed = assumed; rows = rows; row = row }) (goes z)

-- each row's walk holds
abbrev pub Accepted : Resolution → Assumed → List Row → Type 0
Accepted program assumed rows = (row : Row) → Contains rows row → Passes program assumed rows row

-- the first row whose walk fails, from 1, and the step at which it does
pub record IsRefused (program : Resolution) (assumed : Assumed) (rows : List Row) (number step : ℕ) : Type 0 where
  pub before : List Row
  pub row : Row
  pub after : List Row
  pub parts : rows ≡ before ++ row ∷ after
  pub place : number ≡ length before + 1
  pub passed : (r : Row) → Contains before r → Passes program assumed rows r
  pub failed : WalksRow (record { program = program; assumed = assumed; rows = rows; row = row }) (fails step)

-- the states at loops are threshold states of the entry of this number
abbrev pub HasThresholds : Resolution → ℕ → List NameEnds → List Row → Type 0
HasThresholds program number ends rows = (row : Row) (z : Zone) → Contains rows row → Contains row.keeps z → NotBottom z
    → (i j : ℕ) → i ≤ vars_of z → j ≤ vars_of z → IsThreshold (tree_of program) number ends (bound_of z i j)

-- a range for each parameter
abbrev pub Box : Type 0
Box = List (ℤ × ℤ)

-- the state of the box: each parameter in its range, and nothing else
pub record IsBoxState (box : Box) (z : Zone) : Type 0 where
  pub vars : vars_of z ≡ length box
  pub not_bottom : NotBottom z
  pub origin : bound_of z 0 0 ≡ pos 0
  pub high : (i : ℕ) (range : ℤ × ℤ) → slice_get box i ≡ Some range → bound_of z (i + 1) 0 ≡ range.1
  pub low : (i : ℕ) (range : ℤ × ℤ) → slice_get box i ≡ Some range → bound_of z 0 (i + 1) ≡ neg_ℤ range.0
  pub others : (i j : ℕ) → 1 ≤ i → i ≤ length box → 1 ≤ j → j ≤ length box → bound_of z i j ≡ top_bound i j
  pub unmarked : (i : ℕ) → IsMarked z i → ⊥

-- the row is one of the entry of this number, with an input above the box, both normed
pub record IsRowAbove (program : Resolution) (number : ℕ) (box : Box) (row : Row) : Type 0 where
  pub named : slice_get (map name_of (procs_of program)) number ≡ Some row.proc
  pub over : vars_of row.input ≡ length box
  pub boxed : Zone
  pub box_is : IsBoxState box boxed
  pub least : Zone
  pub box_norm : IsNormOf boxed least
  pub input : Zone
  pub input_norm : IsNormOf row.input input
  pub above : IsBelow least input

-- an accepted table of threshold states that has such a row, of which this holds
abbrev pub Shows : Resolution → ℕ → Box → List NameEnds → Assumed → (Row → Type 0) → Type 0
Shows program number box ends assumed P = (rows : List Row) × (row : Row) × Accepted program assumed rows × HasThresholds program number ends rows
    × Contains rows row × IsRowAbove program number box row × P row

-- the procedure of this number is an entry with these parameters
abbrev pub IsEntry : Resolution → ℕ → List Param → Type 0
IsEntry program n params = (name : Name) × (body : Body) × (slice_get (procs_of program) n ≡ Some (entry name params body))

abbrev pub ranges_of : List Param → Box
ranges_of params = map (λ p. (p.lo, p.hi)) params

-- no range of the box is empty, and each lies in that of its parameter
abbrev pub IsBoxIn : List Param → Box → Type 0
IsBoxIn params box = AllZip (λ p range. (p.lo ≤ℤ range.0) × (range.0 ≤ℤ range.1) × (range.1 ≤ℤ p.hi)) params box

-- some such table doesn't list the site, whatever the parameters
abbrev pub Provable : Resolution → ℕ → List NameEnds → Assumed → NamedSite → Type 0
Provable program n ends assumed site =
    (params : List Param) × IsEntry program n params × Shows program n (ranges_of params) ends assumed (λ row. Contains row.unproved site → ⊥)

-- some such table says that the entry doesn't return from the box
abbrev pub Dead : Resolution → ℕ → Box → List NameEnds → Assumed → Type 0
Dead program n box ends assumed =
    (params : List Param) × IsEntry program n params × IsBoxIn params box × Shows program n box ends assumed (λ row. row.result ≡ Bottom)
