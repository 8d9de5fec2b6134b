-- What a command's reads and answers make of its output.
use Rattle.std.proofs.Common.{◌≡◌, ◌≢◌, inl, inr, ℕ, ◌+◌, ◌<◌, ◌≤◌, nat_lt, Bool, true, false, MatchBool, Option, Some, None, List, length, replicate, refl, arith}
use Rattle.std.proofs.lemmas.List.{length-replicate}
use Rattle.std.proofs.lemmas.Bool.Decides.{nat_tests}
use Rattle.vmv_edge.specs.Outside.{IsAsTold, IsMoreThan}
use Rattle.std.specs.Result.{IfOk}
use Rattle.std.specs.Prelude.{Result, Ok, Err}
use Rattle.std.specs.declared.alloc.AllocError.{AllocError}
use Rattle.vmv_tree.specs.Tree.{Item}
use Rattle.vmv_source.specs.declared.fault.TextFault.{TextFault}
use Rattle.vmv_source.specs.declared.fault.TextFault.TheVariants.{Memory}
use Rattle.vmv_source.specs.Faults.{IsTextFault}
use Rattle.vmv_words.specs.Words.{Word}
use Rattle.vmv_command.specs.declared.output.Output.{Output}
use Rattle.vmv_command.specs.Lines.{SaysTooLong}
use Rattle.vmv_command.specs.Faults.{SaysFault, IsSource, OnProgram}
use Rattle.vmv_command.specs.Command.{OnFile}

pub chosen : (b : Bool) (P Q : Type 0) → b ≡ true → P → MatchBool b P Q
chosen true P Q e p = p
chosen false P Q e p = absurd (cc)

pub passed : (b : Bool) (P Q : Type 0) → b ≡ false → Q → MatchBool b P Q
passed true P Q e q = absurd (cc)
passed false P Q e q = q

over : (n m : ℕ) → n < m → nat_lt n m ≡ true
over n m h = grind (arith, nat_tests)

within : (n m : ℕ) → m ≤ n → nat_lt n m ≡ false
within n m h = grind (arith, nat_tests)

-- a list of this length
some_list : (n : ℕ) → (xs : List ℕ) × (length xs ≡ n)
some_list n = (replicate n 0, length-replicate {A = ℕ} n 0)

longer_text : (told : Option (List ℕ)) (most : ℕ) → IsMoreThan told most → (text : List ℕ) × IsAsTold told text × (most < length text)
longer_text (Some told) most h = (told, refl, h)
longer_text None most h = let xs = some_list (most + 1) in (xs.0, tt, omega (arith, xs.1))

-- a text that is longer than it may be
pub file_long : (told : Word → Option (List ℕ)) (name called : List ℕ) (most : ℕ) (Next : List ℕ → List ℕ → ℕ → Type 0) (printed : List ℕ) (status : ℕ) → IsMoreThan (told name) most
    → SaysTooLong called most printed status → OnFile told name called most Next printed status
file_long told name called most Next printed status more says =
    let text = longer_text (told name) most more in
    (text.0, text.1, chosen (nat_lt most (length text.0)) (SaysTooLong called most printed status) (Next text.0 printed status) (over most (length text.0) text.2) says)

-- one that isn't
pub file_read : (told : Word → Option (List ℕ)) (name called : List ℕ) (most : ℕ) (Next : List ℕ → List ℕ → ℕ → Type 0) (text printed : List ℕ) (status : ℕ) → IsAsTold (told name) text
    → length text ≤ most → Next text printed status → OnFile told name called most Next printed status
file_read told name called most Next text printed status as_told short done =
    (text, as_told, passed (nat_lt most (length text)) (SaysTooLong called most printed status) (Next text printed status) (within most (length text) short) done)

-- a text at fault
pub program_at_fault : (r : Result Output AllocError) (called text : List ℕ) (Next : List Item → List ℕ → ℕ → Type 0) (why : TextFault) → IsTextFault text why
    → IfOk r (λ o. SaysFault called why o.text o.status) → IfOk r (λ o. why ≢ Memory) → IfOk r (λ o. OnProgram called text Next o.text o.status)
program_at_fault (Ok o) called text Next why fault says told = inl (why, (fault, told), says)
program_at_fault (Err error) called text Next why fault says told = tt

-- one that isn't
pub program_done : (r : Result Output AllocError) (called text : List ℕ) (Next : List Item → List ℕ → ℕ → Type 0) (P : List Item) → IsSource text P
    → IfOk r (λ o. Next P o.text o.status) → IfOk r (λ o. OnProgram called text Next o.text o.status)
program_done (Ok o) called text Next P source done = inr (P, source, done)
program_done (Err error) called text Next P source done = tt
