-- What the readers of the lines of a proof say of a line.
use Rattle.std.specs.Prelude.{ℕ, Bool, true, false, Result, Ok, Err, List, ⊤}
use Rattle.vmv_proof_text.specs.Parts.{Part}
use Rattle.vmv_proof_text.specs.Lines.{IsLine}
use Rattle.vmv_proof_text.specs.Loose.{IsLoosely}
use Rattle.vmv_proof_line.specs.declared.fault.LineFault.{LineFault}
use Rattle.vmv_proof_line.specs.declared.fault.LineFault.TheVariants.{Form, Size, Memory}

-- Something that the line tells is read; or the line tells nothing, whatever the size of its numbers; or nothing but for that size.
abbrev pub Reads : {A : Type 0} → (A → List ℕ → Type 0) → (A → List ℕ → Type 0) → List ℕ → Result A LineFault → Type 0
Reads Is Loosely line (Ok x) = Is x line
Reads {A} Is Loosely line (Err Form) = (x : A) → Loosely x line → ⊥
Reads {A} Is Loosely line (Err Size) = ((x : A) × Loosely x line) × ((x : A) → Is x line → ⊥)
Reads Is Loosely line (Err Memory) = ⊤

-- what is read is of this part
abbrev pub ReadsLine : {A : Type 0} → (A → Part) → List ℕ → Result A LineFault → Type 0
ReadsLine part line result = Reads (λ x. IsLine (part x)) (λ x. IsLoosely (part x)) line result

-- the fault of a line that tells nothing, but maybe does whatever the size of its numbers
abbrev pub fault_at : Bool → LineFault
fault_at true = Size
fault_at false = Form
