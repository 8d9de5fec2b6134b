-- Products and quotients of the ends of two ranges.
use Rattle.std.specs.Prelude.{◌≡◌, ◌⊎◌, ℤ, pos, negsuc, ◌*ℤ◌, ◌≤ℤ◌, int_div}
use Rattle.std.specs.Int.{int_min, int_max}

-- e is an end of the range from lo to hi
abbrev pub IsEnd : ℤ → ℤ → ℤ → Type 0
IsEnd lo hi e = (e ≡ lo) ⊎ (e ≡ hi)

-- q is what the operation gives of an end of a range from a to b and an end of one from c to d
pub record IsEndResult (op : ℤ → ℤ → ℤ) (a b c d q : ℤ) : Type 0 where
  pub left : ℤ
  pub right : ℤ
  pub left_end : IsEnd a b left
  pub right_end : IsEnd c d right
  pub is : q ≡ op left right

-- q is the product of an end of a range from a to b by an end of one from c to d
abbrev pub IsEndProduct : ℤ → ℤ → ℤ → ℤ → ℤ → Type 0
IsEndProduct a b c d q = IsEndResult ◌*ℤ◌ a b c d q

-- q is the quotient, rounded toward 0, of an end of a range from a to b by an end of the negative part or of the
-- positive part of one from c to d
abbrev pub IsEndQuotient : ℤ → ℤ → ℤ → ℤ → ℤ → Type 0
IsEndQuotient a b c d q =
    ((c ≤ℤ negsuc 0) × IsEndResult int_div a b c (int_min d (negsuc 0)) q) ⊎ ((pos 1 ≤ℤ d) × IsEndResult int_div a b (int_max c (pos 1)) d q)

-- lo and hi are the least and the greatest of the numbers
pub record IsHull (Is : ℤ → Type 0) (lo hi : ℤ) : Type 0 where
  pub low : Is lo
  pub high : Is hi
  pub above : (q : ℤ) → Is q → lo ≤ℤ q
  pub below : (q : ℤ) → Is q → q ≤ℤ hi
