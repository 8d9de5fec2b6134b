-- The longest front of a text that is UTF-8 is one.
use Rattle.std.proofs.Common.{◌≡◌, ℕ, ◌<◌, List, length, take, sym, subst, arith}
use Rattle.std.proofs.Math.Seq.{take-length}
use Rattle.std.specs.Str.{IsUtf8, IsValidUpTo}

pub valid_once : (bytes : List ℕ) (n m : ℕ) → IsValidUpTo bytes n → IsValidUpTo bytes m → n ≡ m
valid_once bytes n m h k = by_order (λ less. h.longest m less k.front) (λ less. k.longest n less h.front)
  where
    by_order : (n < m → ⊥) → (m < n → ⊥) → n ≡ m
    by_order f g = omega arith

pub not_valid : (bytes : List ℕ) (n : ℕ) → IsUtf8 bytes → IsValidUpTo bytes n → ⊥
not_valid bytes n h k =
    let whole : take (length bytes) bytes ≡ bytes = take-length bytes in
    k.longest (length bytes) k.short (subst IsUtf8 (sym whole) h)
