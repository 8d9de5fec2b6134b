-- The parts of a walk behind a first way, and the variables of an assigned state.
use Rattle.std.proofs.Common.{◌≡◌, ℕ, ◌+◌, arith}
use Rattle.vmv_cond.specs.declared.cond.Cond.{Cond}
use Rattle.vmv_snapshot.specs.declared.code.Slot.{Slot}
use Rattle.vmv_snapshot.specs.declared.code.Code.{Code}
use Rattle.vmv_snapshot.specs.Code.{Block}
use Rattle.vmv_snapshot.specs.View.{code_of}
use Rattle.vmv_zone.specs.declared.zone.Zone.{Zone}
use Rattle.vmv_zone.specs.declared.operand.ZoneValue.{ZoneValue}
use Rattle.vmv_zone.specs.Zone.{IsBelow, IsJoin}
use Rattle.vmv_zone.specs.Read.{IsRangeOf}
use Rattle.vmv_zone.specs.Step.{IsAssigned}
use Rattle.vmv_step.specs.Zones.{zone_operand}
use Rattle.vmv_step.specs.Loops.{IsAgain}
use Rattle.vmv_cert.specs.Sizes.{block_statements}
use Rattle.vmv_cert.specs.Walk.{Way, goes, Walk, GoesIf, Then, WalksAll}
use Rattle.vmv_cert.specs.Tables.{IsAbove}

-- the ends of both parts of an `if`, joined
abbrev pub IsJoined : Zone → Zone → Way → Type 0
IsJoined e1 e2 way = (j : Zone) × IsJoin e1 e2 j × (way ≡ goes j)

-- behind the first part of an `if`
abbrev pub BehindFirst : Walk → (n k : ℕ) → Block → Zone → Zone → Way → Type 0
BehindFirst w n k second z2 e1 way = (other : Way) × WalksAll w n k second z2 other × Then other (IsJoined e1) way

-- behind the body of a loop
abbrev pub BehindBody : ℕ → Slot → Zone → Zone → Zone → Way → Type 0
BehindBody n index kept left e way = (again : Zone) × IsAgain index e again × GoesIf (IsBelow again kept) n left way

-- behind the head of a loop
abbrev pub BehindHead : Walk → (n k : ℕ) → Slot → Block → Zone → Zone → Zone → Way → Type 0
BehindHead w n k index body kept left start way =
    (end : Way) × WalksAll w (n + 1) (k + 1) body start end × Then end (BehindBody n index kept left) way

-- the return
abbrev pub IsReturn : Walk → Code → Zone → Way → Type 0
IsReturn w code e way = (c : Cond) × IsRangeOf e (zone_operand code.result) c × GoesIf (IsAbove w.row.result c) (block_statements (code_of code).block + 1) e way

-- an assigned state has as many variables
pub assigned_vars : (z r : Zone) (to : ℕ) (value : ZoneValue) → IsAssigned z to value r → r.vars ≡ z.vars
assigned_vars z r to value is = let a = is.drops.vars in let b = is.greatest.vars in omega arith
