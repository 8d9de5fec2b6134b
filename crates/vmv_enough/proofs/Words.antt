-- Words that are written and read back.
use Rattle.std.proofs.Common.{◌≡◌, ℤ, FitsSigned, w64, to_z, of_z, arith, sym, subst}
use Rattle.std.proofs.lemmas.Int.{ints, to_z-of_z}
use Rattle.vmv_tree.specs.Words.{IsWord}

pub fits_word : (z : ℤ) → FitsSigned w64 z → IsWord z
fits_word z h = grind (arith, ints)

word_fits : (z : ℤ) → IsWord z → FitsSigned w64 z
word_fits z h = grind (arith, ints)

-- what holds of a word holds of it as it is read back
pub read_back : (P : ℤ → Type 0) (z : ℤ) → FitsSigned w64 z → P z → P (to_z w64 (of_z w64 z))
read_back P z h p = subst P (sym (to_z-of_z w64 z h)) p

pub read_word : (P : ℤ → Type 0) (z : ℤ) → IsWord z → P z → P (to_z w64 (of_z w64 z))
read_word P z h p = read_back P z (word_fits z h) p

pub back : (z : ℤ) → FitsSigned w64 z → to_z w64 (of_z w64 z) ≡ z
back z h = to_z-of_z w64 z h

pub word_back : (z : ℤ) → IsWord z → to_z w64 (of_z w64 z) ≡ z
word_back z h = to_z-of_z w64 z (word_fits z h)
