-- The texts of a proof, and why a text is of none and at which line.
use Rattle.std.specs.Prelude.{◌≡◌, ℕ, ◌+◌, List, [], ◌∷◌, ◌++◌, length}
use Rattle.std.specs.List.{AllZip}
use Rattle.vmv_witness.specs.Text.{text_of}
use Rattle.vmv_proof.specs.declared.proof.Proof.{Proof}
use Rattle.vmv_proof_text.specs.Parts.{Part, parts_of_proof}
use Rattle.vmv_proof_text.specs.Lines.{IsLine}
use Rattle.vmv_proof_text.specs.Loose.{IsLoosely}

abbrev pub Line : Type 0
Line = List ℕ

-- the lines may tell the first of the parts
abbrev pub Start : List Part → List Line → Type 0
Start parts [] = Unit {0}
Start [] (line ∷ lines) = ⊥
Start (part ∷ parts) (line ∷ lines) = IsLine part line × Start parts lines

-- so may these lines, and the line behind them would tell the next part but for the size of its numbers
abbrev pub StartLoosely : List Part → List Line → Line → Type 0
StartLoosely [] before line = ⊥
StartLoosely (part ∷ parts) [] line = IsLoosely part line
StartLoosely (part ∷ parts) (first ∷ before) line = IsLine part first × StartLoosely parts before line

-- the text of a proof: lines that may tell its parts, one each, and LF behind each
pub record IsProofText (text : List ℕ) (p : Proof) : Type 0 where
  pub lines : List Line
  pub told : AllZip IsLine (parts_of_proof p) lines
  pub same : text ≡ text_of lines

-- The text is no proof's, but its lines before line n are the first lines of some proof. Behind them is the rest.
pub record Departs (text : List ℕ) (n : ℕ) (before : List Line) (rest : List ℕ) : Type 0 where
  pub place : text ≡ text_of before ++ rest
  pub number : n ≡ length before + 1
  pub begun : (p : Proof) × Start (parts_of_proof p) before
  pub none : (p : Proof) → IsProofText text p → ⊥

-- no line with its LF stands at line n, or one that tells what no proof has there, whatever the size of its numbers
pub record SyntaxAt (text : List ℕ) (n : ℕ) : Type 0 where
  pub before : List Line
  pub rest : List ℕ
  pub departs : Departs text n before rest
  pub shut : (line : Line) (more : List ℕ) (p : Proof) → rest ≡ line ++ 10 ∷ more → StartLoosely (parts_of_proof p) before line → ⊥

-- a line stands at line n that some proof would have there but for the size of its numbers
pub record RangeAt (text : List ℕ) (n : ℕ) : Type 0 where
  pub before : List Line
  pub line : Line
  pub more : List ℕ
  pub departs : Departs text n before (line ++ 10 ∷ more)
  pub loosely : (p : Proof) × StartLoosely (parts_of_proof p) before line
  pub out : (p : Proof) → Start (parts_of_proof p) (before ++ line ∷ []) → ⊥
