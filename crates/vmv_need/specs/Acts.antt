-- Candidates that act on what is assumed, and the greatest assumption on which none does.
use Rattle.std.specs.Prelude.{◌≡◌, ℤ, List, [], ◌∷◌}
use Rattle.std.specs.List.{Contains}
use Rattle.vmv_tree.specs.declared.name.Name.{Name}
use Rattle.vmv_tree.specs.Words.{IsWord}
use Rattle.vmv_cond.specs.declared.cond.Cond.{Cond}
use Rattle.vmv_cond.specs.declared.cond.Piece.{Piece}
use Rattle.vmv_cond.specs.Cond.{Holds}
use Rattle.vmv_cond.specs.Piece.{InPiece}
use Rattle.vmv_snapshot.specs.Resolution.{Resolution}
use Rattle.vmv_assumption.specs.Assumed.{Assumed}
use Rattle.vmv_assumption.specs.Change.{IsKept, IsCut}
use Rattle.vmv_assumption.specs.Within.{IsBelow}
use Rattle.vmv_cert.specs.Tables.{Dead}
use Rattle.vmv_need.specs.declared.subject.Scope.{Scope}
use Rattle.vmv_need.specs.declared.candidate.Candidate.{Candidate}
use Rattle.vmv_need.specs.Candidates.{candidates_of}

-- some word of the condition is in the piece
abbrev pub Meets : Cond → Piece → Type 0
Meets c piece = (w : ℤ) × Holds c w × InPiece piece w

-- The piece meets the name's condition, and the entry doesn't return from the box where the name answers in the piece
-- alone: no safe environment has such an answer.
pub record Acts (program : Resolution) (scope : Scope) (assumed : Assumed) (c : Candidate) : Type 0 where
  pub meets : Meets (assumed c.name) c.piece
  pub kept : Assumed
  pub kept_is : IsKept assumed c.name c.piece kept
  pub dead : Dead program c.entry.0 c.within scope.ends kept

-- no candidate acts
abbrev pub IsStable : Resolution → Scope → Assumed → Type 0
IsStable program scope assumed = (c : Candidate) → Contains (candidates_of scope) c → ¬ Acts program scope assumed c

-- each condition holds words alone
abbrev pub AreWords : Assumed → Type 0
AreWords assumed = (name : Name) (w : ℤ) → Holds (assumed name) w → IsWord w

-- the greatest assumption on which no candidate acts
pub record IsNecessary (program : Resolution) (scope : Scope) (assumed : Assumed) : Type 0 where
  pub words : AreWords assumed
  pub stable : IsStable program scope assumed
  pub greatest : (other : Assumed) → AreWords other → IsStable program scope other → IsBelow other assumed

-- Cuts in any order lead from the one assumption to the other: each takes out the piece of a candidate that acts on what
-- is assumed then, or acted on something larger.
abbrev pub CutsLead : Resolution → Scope → List Candidate → Assumed → Assumed → Type 0
CutsLead program scope [] first last = last ≡ first
CutsLead program scope (c ∷ steps) first last =
    (larger : Assumed) × (next : Assumed) × Contains (candidates_of scope) c × IsBelow first larger × Acts program scope larger c
    × IsCut first c.name c.piece next × CutsLead program scope steps next last
