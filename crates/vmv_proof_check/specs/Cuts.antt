-- What is assumed of outside names by exclusions.
use Rattle.std.specs.Prelude.{◌≡◌, ◌↔◌, ℤ, List, take}
use Rattle.std.specs.List.{Contains}
use Rattle.vmv_tree.specs.declared.name.Name.{Name}
use Rattle.vmv_tree.specs.Words.{IsWord}
use Rattle.vmv_cond.specs.Cond.{Holds}
use Rattle.vmv_cond.specs.Piece.{InPiece}
use Rattle.vmv_assumption.specs.Assumed.{Assumed}
use Rattle.vmv_assumption.specs.Change.{IsKept}
use Rattle.vmv_proof.specs.declared.proof.Exclusion.{Exclusion}

-- no exclusion of this name has the word in its piece
abbrev pub IsSpared : List Exclusion → Name → ℤ → Type 0
IsSpared cuts name word = (x : Exclusion) → Contains cuts x → x.name ≡ name → ¬ InPiece x.piece word

-- the whole conditions, cut by the exclusions: for each name the words that these spare
abbrev pub IsCutBy : List Exclusion → Assumed → Type 0
IsCutBy cuts assumed = (name : Name) (word : ℤ) → Holds (assumed name) word ↔ (IsWord word × IsSpared cuts name word)

-- what the table of an exclusion is judged under: the whole conditions cut by the first exclusions, as many as it says, with its
-- name's condition kept to its piece
abbrev pub IsJudgedUnder : List Exclusion → Exclusion → Assumed → Type 0
IsJudgedUnder before x assumed = (cut : Assumed) × IsCutBy (take x.under before) cut × IsKept cut x.name x.piece assumed
