-- The texts are short.
use Rattle.std.proofs.Common.{◌≡◌, ℕ, zero, suc, ◌≤◌, Bool, true, nat_le, length, refl, arith}
use Rattle.std.proofs.lemmas.Bool.Decides.{nat_tests}
use Rattle.std.specs.Fmt.{digits}
use Rattle.vmv_print.specs.Canonical.{canonical}
use Rattle.vmv_sample.specs.Sample.{sample_program}

abbrev is_short : ℕ → Bool
is_short more = nat_le (length (canonical (sample_program more))) 1048576

base_short : is_short 0 ≡ true
unfolding digits
base_short = refl

one_short : is_short 1 ≡ true
unfolding digits
one_short = refl

two_short : is_short 2 ≡ true
unfolding digits
two_short = refl

within : (n m : ℕ) → nat_le n m ≡ true → n ≤ m
within n m e = grind (arith, nat_tests)

-- by computing their lengths
pub texts_short : (more : ℕ) → more ≤ 2 → length (canonical (sample_program more)) ≤ 1048576
texts_short zero h = within (length (canonical (sample_program 0))) 1048576 base_short
texts_short (suc zero) h = within (length (canonical (sample_program 1))) 1048576 one_short
texts_short (suc (suc zero)) h = within (length (canonical (sample_program 2))) 1048576 two_short
texts_short (suc (suc (suc more))) h = absurd (omega (arith, h))
