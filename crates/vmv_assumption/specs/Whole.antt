-- The condition that holds every word.
use Rattle.std.specs.Prelude.{◌^◌, ◌-◌, pos, negsuc, false}
use Rattle.std.proofs.Common.{arith}
use Rattle.std.proofs.lemmas.Int.{ints}
use Rattle.vmv_cond.specs.declared.cond.Cond.{Cond}
use Rattle.vmv_cond.specs.Normal.{IsNormal}

-- it is in normal form
pub whole_is_normal : IsNormal (negsuc (2 ^ 63 - 1)) (pos (2 ^ 63 - 1)) false
whole_is_normal = record {
  empty_lo = λ h. absurd (omega (arith, ints));
  empty_hi = λ h. absurd (omega (arith, ints));
  unmarked_lo = λ h. omega (arith, ints);
  unmarked_hi = λ h. omega (arith, ints);
  marked_lo = λ h. absurd (cc);
  marked_hi = λ h. absurd (cc);
}

-- the words from the least to the greatest, 0 too
abbrev pub whole : Cond
whole = record { lo = negsuc (2 ^ 63 - 1); hi = pos (2 ^ 63 - 1); zero_out = false; normal = whole_is_normal }
