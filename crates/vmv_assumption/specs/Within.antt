-- Environments and answers that meet what is assumed, and assumptions in order.
use Rattle.std.specs.Prelude.{ℤ}
use Rattle.std.specs.List.{All, Contains}
use Rattle.vmv_tree.specs.declared.name.Name.{Name}
use Rattle.vmv_tree.specs.Words.{IsWord}
use Rattle.vmv_tree.specs.Run.{Answers}
use Rattle.vmv_tree.specs.Safe.{Environment, words_of}
use Rattle.vmv_cond.specs.declared.cond.Piece.{Piece}
use Rattle.vmv_cond.specs.Cond.{Holds, IsSubset}
use Rattle.vmv_cond.specs.Piece.{InPiece}
use Rattle.vmv_assumption.specs.Assumed.{Assumed}

-- each condition of a is a subset of that of b
abbrev pub IsBelow : Assumed → Assumed → Type 0
IsBelow a b = (name : Name) → IsSubset (a name) (b name)

-- each word that the environment has for a name meets the name's condition
abbrev pub IsWithin : Environment → Assumed → Type 0
IsWithin env a = (name : Name) (word : ℤ) → IsWord word → Contains (words_of env name) word → Holds (a name) word

-- each word among the answers meets the condition of the name that answered it
abbrev pub Meet : Answers → Assumed → Type 0
Meet answers a = All (λ answer. IsWord answer.1 → Holds (a answer.0) answer.1) answers

-- each word that the environment has for f is in the piece
abbrev pub AreInPiece : Environment → Name → Piece → Type 0
AreInPiece env f piece = (word : ℤ) → IsWord word → Contains (words_of env f) word → InPiece piece word

-- no word that the environment has for f is in the piece
abbrev pub AreOffPiece : Environment → Name → Piece → Type 0
AreOffPiece env f piece = (word : ℤ) → IsWord word → Contains (words_of env f) word → ¬ InPiece piece word
