-- Which bytes are a label.
use Rattle.std.specs.Prelude.{ℕ, Bool, ◌&&◌, ◌||◌, nat_le, ◌==◌, List, length}
use Rattle.std.specs.List.{list_all}

-- an ASCII letter or digit, `_` or `-`
abbrev pub is_label_byte : ℕ → Bool
is_label_byte b = (nat_le 65 b && nat_le b 90) || (nat_le 97 b && nat_le b 122) || (nat_le 48 b && nat_le b 57) || b == 95 || b == 45

-- 1 to 64 such bytes
abbrev pub is_label : List ℕ → Bool
is_label bytes = nat_le 1 (length bytes) && (nat_le (length bytes) 64 && list_all is_label_byte bytes)
