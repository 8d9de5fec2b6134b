-- The texts of a sample, by what they are.
use Rattle.std.proofs.Common.{◌≡◌, ◌∙◌, ◌++◌, ℕ, List, codes, subst, ap, append_assoc}
use Rattle.std.specs.Prelude.{Result, Ok, Err, is_ok, if◌then◌else◌}
use Rattle.std.specs.Result.{IfOk, OnOk}
use Rattle.std.specs.declared.alloc.AllocError.{AllocError}
use Rattle.vmv_command.specs.declared.output.Output.{Output}
use Rattle.vmv_command.specs.Faults.{OnProgram}
use Rattle.vmv_command.specs.Samples.{SamplesPrograms}

-- the review of two texts of a sample
abbrev pub SamplesTexts : (number : ℕ) (base revision : List ℕ) → Result Output AllocError → Type 0
SamplesTexts number base revision r = IfOk r (λ o. OnProgram (codes "base") base (λ B. OnProgram (codes "revision") revision (SamplesPrograms number B)) o.text o.status)

-- that of texts that are the same
pub sampled_so : (r : Result Output AllocError) (number : ℕ) (base revision base' revision' : List ℕ) → base ≡ base' → revision ≡ revision' → SamplesTexts number base revision r
    → SamplesTexts number base' revision' r
sampled_so r number base revision base' revision' same same' h =
    subst (λ (x : List ℕ). SamplesTexts number base' x r) same' (subst (λ (x : List ℕ). SamplesTexts number x revision r) same h)

-- four texts, one behind the other
pub four_behind : (out a b c d x y z w : List ℕ) → x ≡ out ++ a → y ≡ x ++ b → z ≡ y ++ c → w ≡ z ++ d → w ≡ out ++ (a ++ (b ++ (c ++ d)))
four_behind out a b c d x y z w one two three four =
    four
    ∙ (ap (λ (t : List ℕ). t ++ d) (three ∙ ap (λ (t : List ℕ). t ++ c) (two ∙ ap (λ (t : List ℕ). t ++ b) one))
    ∙ (append_assoc ((out ++ a) ++ b) c d ∙ (append_assoc (out ++ a) b (c ++ d) ∙ append_assoc out a (b ++ (c ++ d)))))

-- what is written where there was room for it
pub written : {T E : Type 0} (r : Result T E) (new ok other : List ℕ) → new ≡ (if is_ok r then ok else other) → OnOk r (new ≡ ok)
written (Ok value) new ok other e = e
written (Err error) new ok other e = tt
