-- Where the head of a request stands in the bytes of an input, and how many header lines it has, by its line ends alone.
use Rattle.std.specs.Prelude.{ℕ, suc, ◌+◌, ◌-◌, ◌==◌, ◌&&◌, Bool, List, [], ◌∷◌, Option, Some, None, nat_lt, slice_index, count_by, take, drop, if◌then◌else◌}
use Rattle.std.specs.Option.{option_map}

-- the bytes of line ends
abbrev pub line_feed : ℕ
line_feed = 10

abbrev pub carriage_return : ℕ
carriage_return = 13

abbrev pub begins_with_feed : List ℕ → Bool
begins_with_feed bytes = slice_index bytes 0 == line_feed

-- how long the empty line in front is: LF, or CR LF; 0 where there is none
abbrev pub empty_line : List ℕ → ℕ
empty_line bytes =
    if slice_index bytes 0 == line_feed then 1
    else (if (slice_index bytes 0 == carriage_return) && (slice_index bytes 1 == line_feed) then 2 else 0)

-- how many bytes the empty lines in front of a head take
abbrev pub blank_length : List ℕ → ℕ
blank_length [] = 0
blank_length (b ∷ []) = if b == line_feed then 1 else 0
blank_length (b ∷ c ∷ rest) =
    if b == line_feed then suc (blank_length (c ∷ rest))
    else (if (b == carriage_return) && (c == line_feed) then suc (suc (blank_length rest)) else 0)

-- the length of a head: up to and with its first empty line, which stands behind the end of another line
abbrev pub head_length : List ℕ → Option ℕ
head_length [] = None
head_length (b ∷ rest) =
    if (b == line_feed) && nat_lt 0 (empty_line rest) then Some (suc (empty_line rest)) else option_map suc (head_length rest)

-- bytes without the empty lines in front
abbrev pub without_blank : List ℕ → List ℕ
without_blank bytes = drop (blank_length bytes) bytes

-- the length of the empty lines in front of a head and of the head, where it is whole
abbrev pub front_length : List ℕ → Option ℕ
front_length bytes = option_map (λ n. blank_length bytes + n) (head_length (without_blank bytes))

-- the head, where it and the empty lines in front of it have this length
abbrev pub head_in : List ℕ → ℕ → List ℕ
head_in bytes len = without_blank (take len bytes)

-- the lines of a head but its first and the empty one
abbrev pub header_lines : List ℕ → ℕ
header_lines head = count_by (λ b. b == line_feed) head - 2
