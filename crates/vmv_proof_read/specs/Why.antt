-- Why no proof is read from a text, and how many members the lists of a proof have.
use Rattle.std.specs.Prelude.{◌≡◌, ℕ, ◌<◌, ◌≤◌, ◌^◌, List, length, ⊤}
use Rattle.std.specs.List.{Contains}
use Rattle.vmv_proof.specs.declared.proof.Exclusion.{Exclusion}
use Rattle.vmv_proof.specs.declared.proof.Shown.{Shown}
use Rattle.vmv_proof.specs.declared.proof.Proof.{Proof}
use Rattle.vmv_proof_text.specs.Faults.{SyntaxAt, RangeAt}
use Rattle.vmv_proof_read.specs.declared.fault.ProofFault.{ProofFault}
use Rattle.vmv_proof_read.specs.declared.fault.ProofFault.TheVariants.{Syntax, Range, Limit, Memory}

-- Each fault is told exactly where it is so. Of memory nothing is said.
abbrev pub IsWhy : List ℕ → ProofFault → Type 0
IsWhy text (Syntax n) = (length text ≤ 67108864) × SyntaxAt text n
IsWhy text (Range n) = (length text ≤ 67108864) × RangeAt text n
IsWhy text (Limit found) = (67108864 < length text) × (found ≡ length text)
IsWhy text Memory = ⊤

-- numbers of 32 bits count the members of each list
pub record AreFew (p : Proof) : Type 0 where
  pub exclusions : length p.exclusions < 2 ^ 32
  pub shown : length p.shown < 2 ^ 32
  pub excluding : (x : Exclusion) → Contains p.exclusions x → length x.table.rows < 2 ^ 32
  pub plain : (s : Shown) → Contains p.shown s → length s.plain.rows < 2 ^ 32
  pub given : (s : Shown) → Contains p.shown s → length s.given.rows < 2 ^ 32
