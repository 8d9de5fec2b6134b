-- The parts of a proof, each of which stands on a line of its own.
use Rattle.std.specs.Prelude.{ℕ, List, [], ◌∷◌, ◌++◌, length, map}
use Rattle.std.specs.List.{flat_map}
use Rattle.vmv_tree.specs.declared.name.Name.{Name}
use Rattle.vmv_tree.specs.declared.site.NamedSite.{NamedSite}
use Rattle.vmv_cert.specs.Tables.{Box}
use Rattle.vmv_cert.specs.declared.row.Reach.{Reach}
use Rattle.vmv_cert.specs.declared.row.Row.{Row}
use Rattle.vmv_cert.specs.declared.table.Table.{Table}
use Rattle.vmv_cond.specs.declared.cond.Piece.{Piece}
use Rattle.vmv_zone.specs.declared.zone.Zone.{Zone}
use Rattle.vmv_proof.specs.declared.proof.Exclusion.{Exclusion}
use Rattle.vmv_proof.specs.declared.proof.Shown.{Shown}
use Rattle.vmv_proof.specs.declared.proof.Proof.{Proof}

-- what a line of a proof's text tells
pub data Part : Type 0 where
  opening_part : Part
  exclusions_part : (count : ℕ) → Part
  exclude_part : (entry name : Name) (piece : Piece) (under : ℕ) → Part
  box_part : (ranges : Box) → Part
  table_part : (rows : ℕ) → Part
  row_part : (proc : Name) (loops : ℕ) → Part
  input_part : (state : Zone) → Part
  keep_part : (state : Zone) → Part
  result_part : (reach : Reach) → Part
  left_part : (sites : List NamedSite) → Part
  entries_part : (count : ℕ) → Part
  plain_part : (entry : Name) → Part
  given_part : (entry : Name) → Part
  end_part : Part

-- a row: its procedure and how many loops follow, its input, a state for each loop, its result, its sites
abbrev pub parts_of_row : Row → List Part
parts_of_row r =
    row_part r.proc (length r.keeps) ∷ input_part r.input ∷ (map keep_part r.keeps ++ result_part r.result ∷ left_part r.unproved ∷ [])

-- how many rows, and these
abbrev pub parts_of_table : Table → List Part
parts_of_table t = table_part (length t.rows) ∷ flat_map parts_of_row t.rows

abbrev pub parts_of_exclusion : Exclusion → List Part
parts_of_exclusion e = exclude_part e.entry e.name e.piece e.under ∷ box_part e.within ∷ parts_of_table e.table

abbrev pub parts_of_shown : Shown → List Part
parts_of_shown s = plain_part s.entry ∷ (parts_of_table s.plain ++ given_part s.entry ∷ parts_of_table s.given)

-- the parts of a proof up to its exclusions
abbrev pub front_parts : List Exclusion → List Part
front_parts exclusions = opening_part ∷ exclusions_part (length exclusions) ∷ flat_map parts_of_exclusion exclusions

-- those behind them
abbrev pub back_parts : List Shown → List Part
back_parts shown = entries_part (length shown) ∷ (flat_map parts_of_shown shown ++ end_part ∷ [])

-- the parts of a proof, in the order of its lines
abbrev pub parts_of_proof : Proof → List Part
parts_of_proof p = front_parts p.exclusions ++ back_parts p.shown
