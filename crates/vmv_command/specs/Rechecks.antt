-- The check of a proof: the line that it prints, and its status.
use Rattle.std.specs.Prelude.{◌≡◌, ◌≢◌, ◌⊎◌, ◌==◌, ℕ, List, [], ◌++◌, codes, if◌then◌else◌}
use Rattle.std.specs.Fmt.{decimal}
use Rattle.vmv_tree.specs.Tree.{Item}
use Rattle.vmv_snapshot.specs.Resolution.{Resolution}
use Rattle.vmv_proof.specs.declared.proof.Proof.{Proof}
use Rattle.vmv_proof_text.specs.Faults.{IsProofText}
use Rattle.vmv_proof_read.specs.declared.fault.ProofFault.{ProofFault}
use Rattle.vmv_proof_read.specs.declared.fault.ProofFault.TheVariants as fault
use Rattle.vmv_proof_read.specs.Why.{IsWhy}
use Rattle.vmv_proof_check.specs.declared.claims.Claims.{Claims}
use Rattle.vmv_proof_check.specs.declared.claims.Part.{Part}
use Rattle.vmv_proof_check.specs.declared.claims.Part.TheVariants.{Exclusion, Plain, Given, Shape}
use Rattle.vmv_proof_check.specs.Proofs.{IsProofAccepted, IsProofRefused}
use Rattle.vmv_command.specs.Lines.{IsLine, syntax_end, range_end}
use Rattle.vmv_command.specs.Faults.{OnProgram}
use Rattle.vmv_command.specs.Reviews.{IsResolved}

-- what the line of a fault has behind `proof`; want of memory has no line
abbrev pub proof_fault_end : ProofFault → List ℕ
proof_fault_end (fault.Syntax at) = syntax_end at
proof_fault_end (fault.Range at) = range_end at
proof_fault_end (fault.Limit found) = codes ": limit bytes found " ++ (decimal found ++ codes " most 67108864\n")
proof_fault_end fault.Memory = []

-- 5 for a text that is too long, and 4 for another that is no proof's
abbrev pub proof_fault_status : ProofFault → ℕ
proof_fault_status (fault.Syntax at) = 4
proof_fault_status (fault.Range at) = 4
proof_fault_status (fault.Limit found) = 5
proof_fault_status fault.Memory = 8

-- the line of this fault of a proof's text, and its status
abbrev pub SaysProofFault : ProofFault → List ℕ → ℕ → Type 0
SaysProofFault why printed status = (printed ≡ codes "proof" ++ proof_fault_end why) × (status ≡ proof_fault_status why)

-- this is what is against the proof's text, and not that memory ran out
abbrev pub HasProofWhy : List ℕ → ProofFault → Type 0
HasProofWhy text why = IsWhy text why × (why ≢ fault.Memory)

-- the counts of the revision's rows
abbrev pub claims_text : Claims → List ℕ
claims_text claims =
    codes "clean " ++ (decimal claims.clean ++ (codes " hidden " ++ (decimal claims.hidden ++ (codes " left " ++ decimal claims.left))))

-- 0 where no row is left
abbrev pub accepted_status : ℕ → ℕ
accepted_status left = if left == 0 then 0 else 1

-- the line of a proof that is accepted with these counts, and its status
abbrev pub SaysAccepted : Claims → List ℕ → ℕ → Type 0
SaysAccepted claims printed status = IsLine (codes "accepted " ++ claims_text claims) (accepted_status claims.left) printed status

-- what a part of a proof is called
abbrev pub part_text : Part → List ℕ
part_text (Exclusion number) = codes "exclusion " ++ decimal number
part_text (Plain entry) = codes "plain " ++ entry
part_text (Given entry) = codes "given " ++ entry
part_text Shape = codes "shape"

abbrev pub place_text : (row step : ℕ) → List ℕ
place_text row step = codes " row " ++ (decimal row ++ (codes " step " ++ decimal step))

-- the line of a proof that is refused at this part, row and step, and its status
abbrev pub SaysRefused : Part → (row step : ℕ) → List ℕ → ℕ → Type 0
SaysRefused part row step printed status = IsLine (codes "refused " ++ (part_text part ++ place_text row step)) 1 printed status

-- the line of what the check of a proof finds, for a base and a revision
abbrev pub ChecksProof : (base revision : Resolution) → Proof → List ℕ → ℕ → Type 0
ChecksProof base revision proof printed status =
    ((claims : Claims) × IsProofAccepted base revision proof claims × SaysAccepted claims printed status)
    ⊎ ((part : Part) × (row : ℕ) × (step : ℕ) × IsProofRefused base revision proof part row step × SaysRefused part row step printed status)

-- the check of a proof of two valid programs
pub record RechecksPrograms (base revision : List Item) (proof : Proof) (printed : List ℕ) (status : ℕ) : Type 0 where
  pub base_code : Resolution
  pub base_is : IsResolved base base_code
  pub revision_code : Resolution
  pub revision_is : IsResolved revision revision_code
  pub checks : ChecksProof base_code revision_code proof printed status

-- the check of a proof's text for two valid programs: the line of the text's fault, or else the check of the proof
abbrev pub RechecksProof : (proof : List ℕ) → (base revision : List Item) → List ℕ → ℕ → Type 0
RechecksProof proof base revision printed status =
    ((why : ProofFault) × HasProofWhy proof why × SaysProofFault why printed status)
    ⊎ ((p : Proof) × IsProofText proof p × RechecksPrograms base revision p printed status)

-- the check of three texts: the line of the first fault of the base, or else of the revision, or else the check of the proof's text
abbrev pub RechecksTexts : (base revision proof : List ℕ) → List ℕ → ℕ → Type 0
RechecksTexts base revision proof printed status =
    OnProgram (codes "base") base (λ B. OnProgram (codes "revision") revision (RechecksProof proof B)) printed status
