-- The laws of tables that this crate stands on.
use Rattle.std.proofs.Common.{ℕ, ◌≤◌, List, length}
use Rattle.std.specs.List.{Contains}
use Rattle.vmv_tree.specs.declared.name.Name.{Name}
use Rattle.vmv_tree.specs.declared.ends.NameEnds.{NameEnds}
use Rattle.vmv_tree.specs.Safe.{Environment, Covers, Safe}
use Rattle.vmv_cond.specs.declared.cond.Piece.{Piece}
use Rattle.vmv_snapshot.specs.Resolution.{Resolution, IsResolution, tree_of}
use Rattle.vmv_assumption.specs.Assumed.{Assumed}
use Rattle.vmv_assumption.specs.Change.{IsKept}
use Rattle.vmv_assumption.specs.Within.{IsBelow, IsWithin, AreOffPiece}
use Rattle.vmv_snapshot.specs.Procs.{outsides}
use Rattle.vmv_cert.specs.Tables.{Box, Dead}
use Rattle.vmv_demands.specs.declared.demand.Demand.{Demand}
use Rattle.vmv_demands.specs.Demands.{AreDemands}
use Rattle.vmv_demands.proofs.Names.{few, on_outside_names}
use Rattle.vmv_table_order.proofs.RowsExist.{some_dead}
use Rattle.vmv_table_sound.proofs.Environments.{dead_piece, dead_base}

pub dead_kept : (program : Resolution) (n : ℕ) (box : Box) (ends : List NameEnds) (assumed less : Assumed) → IsResolution program → IsBelow less assumed → Dead program n box ends assumed → ¬ (¬ Dead program n box ends less)
dead_kept = some_dead

pub pieces_avoided : (program : Resolution) (n : ℕ) (box : Box) (ends : List NameEnds) (assumed kept : Assumed) (f : Name) (piece : Piece) (env : Environment) → IsResolution program → IsKept assumed f piece kept →
    Dead program n box ends kept → Covers env (tree_of program) → IsWithin env assumed → Safe env (tree_of program) → AreOffPiece env f piece
pieces_avoided = dead_piece

pub bases_avoided : (program : Resolution) (n : ℕ) (box : Box) (ends : List NameEnds) (assumed : Assumed) (env : Environment) → IsResolution program → Dead program n box ends assumed → Covers env (tree_of program) →
    IsWithin env assumed → Safe env (tree_of program) → ⊥
bases_avoided = dead_base

pub demands_are_few : (program : Resolution) (n : ℕ) (demands : List Demand) → AreDemands program n demands → length demands ≤ 32
demands_are_few = few

pub demands_are_of_outsides : (program : Resolution) (n : ℕ) (demands : List Demand) → IsResolution program → AreDemands program n demands → (d : Demand) → Contains demands d → Contains (outsides (tree_of program)) d.name
demands_are_of_outsides program n demands is are d there = on_outside_names program n demands d is are there
