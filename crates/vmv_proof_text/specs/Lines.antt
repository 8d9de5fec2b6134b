-- The lines that may tell a part.
use Rattle.std.specs.Prelude.{◌≡◌, ◌⊎◌, ℕ, ◌<◌, ◌≤◌, ◌^◌, ℤ, ◌≤ℤ◌, List, ◌++◌, length, codes, IsTrue}
use Rattle.std.specs.List.{All}
use Rattle.std.specs.Fmt.{decimal}
use Rattle.vmv_tree.specs.Names.{is_name}
use Rattle.vmv_tree.specs.Words.{IsWord}
use Rattle.vmv_tree.specs.declared.name.Name.{Name}
use Rattle.vmv_tree.specs.declared.site.NamedSite.{NamedSite}
use Rattle.vmv_cond.specs.declared.cond.Piece.{Piece}
use Rattle.vmv_cond.specs.declared.cond.Piece.TheVariants.{Below, Above, Zero}
use Rattle.vmv_cert.specs.declared.row.Reach.{Reach}
use Rattle.vmv_cert.specs.declared.row.Reach.TheVariants.{Bottom, Value}
use Rattle.vmv_zone.specs.declared.zone.Zone.{Zone}
use Rattle.vmv_zone.specs.Zone.{vars_of, IsBottom, NotBottom}
use Rattle.vmv_proof_text.specs.Parts.{Part, opening_part, exclusions_part, exclude_part, box_part, table_part, row_part, input_part, keep_part, result_part, left_part, entries_part, plain_part, given_part, end_part}
use Rattle.vmv_proof_text.specs.States.{Bound, marked_variables}
use Rattle.vmv_proof_text.specs.Naming.{IsNaming}
use Rattle.vmv_proof_text.specs.Text.{told_state, line_of}

-- a number of 32 bits
abbrev pub IsCount : ℕ → Type 0
IsCount n = n < 2 ^ 32

abbrev pub IsName : Name → Type 0
IsName name = IsTrue (is_name name)

abbrev pub IsPiece : Piece → Type 0
IsPiece (Below end) = IsWord end
IsPiece (Above end) = IsWord end
IsPiece Zero = Unit {0}

-- two words, the lower one first
pub record IsRange (r : ℤ × ℤ) : Type 0 where
  pub low : IsWord r.0
  pub high : IsWord r.1
  pub order : r.0 ≤ℤ r.1

abbrev pub IsReach : Reach → Type 0
IsReach Bottom = Unit {0}
IsReach (Value c) = IsRange (c.lo, c.hi)

-- a named site, whatever its number
pub record IsSite (s : NamedSite) : Type 0 where
  pub named : IsName s.proc
  pub small : IsCount s.index

-- the bytes tell a state that isn't Bottom: they name all bounds that are below top's, and maybe some that are top's
pub record IsTold (z : Zone) (bytes : List ℕ) : Type 0 where
  pub not_bottom : NotBottom z
  pub bounds : List Bound
  pub naming : IsNaming z bounds
  pub same : bytes ≡ told_state (vars_of z) bounds (marked_variables z)

-- the bytes tell a state of at most 16 variables
abbrev pub IsState : Zone → List ℕ → Type 0
IsState z bytes = (vars_of z ≤ 16) × ((IsBottom z × (bytes ≡ codes " bottom " ++ decimal (vars_of z))) ⊎ IsTold z bytes)

-- a line of this word that tells the state
abbrev pub IsStateLine : List ℕ → Zone → List ℕ → Type 0
IsStateLine word z line = (bytes : List ℕ) × (line ≡ word ++ bytes) × IsState z bytes

-- the line may tell the part: names are names, and numbers are in range
abbrev pub IsLine : Part → List ℕ → Type 0
IsLine opening_part line = line ≡ line_of opening_part
IsLine (exclusions_part n) line = IsCount n × (line ≡ line_of (exclusions_part n))
IsLine (exclude_part entry name piece under) line =
    IsName entry × IsName name × IsPiece piece × IsCount under × (line ≡ line_of (exclude_part entry name piece under))
IsLine (box_part ranges) line = (length ranges ≤ 16) × All IsRange ranges × (line ≡ line_of (box_part ranges))
IsLine (table_part n) line = IsCount n × (line ≡ line_of (table_part n))
IsLine (row_part proc loops) line = IsName proc × IsCount loops × (line ≡ line_of (row_part proc loops))
IsLine (input_part z) line = IsStateLine (codes "input") z line
IsLine (keep_part z) line = IsStateLine (codes "keep") z line
IsLine (result_part reach) line = IsReach reach × (line ≡ line_of (result_part reach))
IsLine (left_part sites) line = IsCount (length sites) × All IsSite sites × (line ≡ line_of (left_part sites))
IsLine (entries_part n) line = IsCount n × (line ≡ line_of (entries_part n))
IsLine (plain_part entry) line = IsName entry × (line ≡ line_of (plain_part entry))
IsLine (given_part entry) line = IsName entry × (line ≡ line_of (given_part entry))
IsLine end_part line = line ≡ line_of end_part
