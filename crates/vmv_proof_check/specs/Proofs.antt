-- The proofs that are accepted, with what they show, and where others are refused.
use Rattle.std.specs.Prelude.{◌≡◌, ℕ, ◌+◌, ◌<◌, ◌^◌, List, ◌∷◌, ◌++◌, length, ⊤}
use Rattle.std.specs.List.{Contains}
use Rattle.vmv_snapshot.specs.Resolution.{Resolution}
use Rattle.vmv_proof.specs.declared.proof.Exclusion.{Exclusion}
use Rattle.vmv_proof.specs.declared.proof.Shown.{Shown}
use Rattle.vmv_proof.specs.declared.proof.Proof.{Proof}
use Rattle.vmv_proof_check.specs.declared.claims.Claims.{Claims}
use Rattle.vmv_proof_check.specs.declared.claims.Part.{Part}
use Rattle.vmv_proof_check.specs.declared.claims.ProofRefused.{ProofRefused}
use Rattle.vmv_proof_check.specs.declared.claims.ProofRefused.TheVariants.{At, Memory}
use Rattle.vmv_proof_check.specs.declared.claims.Part.TheVariants.{Exclusion as Excluding, Plain, Given, Shape}
use Rattle.vmv_proof_check.specs.Parts.{passes, fails, ExclusionTurns, AllPass, IsShaped, PlainTurns, GivenTurns, IsShownWell}
use Rattle.vmv_proof_check.specs.Counts.{AreCounted}

-- each part passes, and these are the counts of the revision's rows
pub record IsProofAccepted (base revision : Resolution) (proof : Proof) (claims : Claims) : Type 0 where
  pub exclusions : AllPass base proof.exclusions
  pub shape : IsShaped revision proof.shown
  pub shown : (s : Shown) → Contains proof.shown s → IsShownWell revision proof.exclusions s
  pub counts : AreCounted revision proof.shown claims

-- those before it pass, and the exclusion of this number, from 1, fails at the row and step
pub record IsExclusionRefused (base : Resolution) (xs : List Exclusion) (number row step : ℕ) : Type 0 where
  pub before : List Exclusion
  pub x : Exclusion
  pub after : List Exclusion
  pub parts : xs ≡ before ++ x ∷ after
  pub place : number ≡ length before + 1
  pub passed : AllPass base before
  pub failed : ExclusionTurns base before x (fails row step)

-- the exclusions pass and the entries are the revision's; both tables of the entries before this one pass
pub record IsShownBehind (base revision : Resolution) (proof : Proof) (s : Shown) : Type 0 where
  pub exclusions : AllPass base proof.exclusions
  pub shape : IsShaped revision proof.shown
  pub before : List Shown
  pub after : List Shown
  pub parts : proof.shown ≡ before ++ s ∷ after
  pub passed : (other : Shown) → Contains before other → IsShownWell revision proof.exclusions other

-- the first part that fails, and the row and step at which it does: the exclusions in order, then the names of the entries, then the
-- entries in order, of each the plain table before the given one
abbrev pub IsProofRefused : (base revision : Resolution) → Proof → Part → (row step : ℕ) → Type 0
IsProofRefused base revision proof (Excluding number) row step = IsExclusionRefused base proof.exclusions number row step
IsProofRefused base revision proof Shape row step = AllPass base proof.exclusions × (¬ IsShaped revision proof.shown) × (row ≡ 0) × (step ≡ 0)
IsProofRefused base revision proof (Plain name) row step =
    (s : Shown) × (s.entry ≡ name) × IsShownBehind base revision proof s × PlainTurns revision s (fails row step)
IsProofRefused base revision proof (Given name) row step =
    (s : Shown) × (s.entry ≡ name) × IsShownBehind base revision proof s × PlainTurns revision s passes × GivenTurns revision proof.exclusions s (fails row step)

-- what is told of a proof that isn't accepted; that memory ran out says nothing of it
abbrev pub IsWhyRefused : (base revision : Resolution) → Proof → ProofRefused → Type 0
IsWhyRefused base revision proof (At part row step) = IsProofRefused base revision proof part row step
IsWhyRefused base revision proof Memory = ⊤

-- no list in the proof has 2^32 members or more
pub record IsSmall (proof : Proof) : Type 0 where
  pub exclusions : length proof.exclusions < 2 ^ 32
  pub shown : length proof.shown < 2 ^ 32
  pub excluding : (x : Exclusion) → Contains proof.exclusions x → length x.table.rows < 2 ^ 32
  pub plain : (s : Shown) → Contains proof.shown s → length s.plain.rows < 2 ^ 32
  pub given : (s : Shown) → Contains proof.shown s → length s.given.rows < 2 ^ 32
