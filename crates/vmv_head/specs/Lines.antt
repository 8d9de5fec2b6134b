-- The header lines of a head that decide, and why a head is refused by them.
use Rattle.std.specs.Prelude.{ℕ, ◌==◌, ◌&&◌, ◌||◌, Bool, not, List, [], ◌∷◌, Option, Some, None, length, map, codes, nat_eq, nat_lt, count_by, if◌then◌else◌}
use Rattle.std.specs.List.{list_all}
use Rattle.std.specs.Char.{is_ascii_digit, to_ascii_lowercase}
use Rattle.std.specs.Cmp.Lexicographic.{pointwise}
use Rattle.std.specs.Str.Parse.{digits_value}
use Rattle.vmv_head.specs.declared.refusal.Refusal.{Refusal}
use Rattle.vmv_head.specs.declared.refusal.Refusal.TheVariants.{HeadUnread, TransferCoded, LengthUnread, LengthMissing, BodyTooLong}

-- the name and the value of a line
abbrev pub Pair : Type 0
Pair = List ℕ × List ℕ

-- a line has this name, whatever the case of its letters
abbrev pub is_named : List ℕ → Pair → Bool
is_named name line = pointwise nat_eq (map to_ascii_lowercase line.0) (map to_ascii_lowercase name)

abbrev pub how_many : List ℕ → List Pair → ℕ
how_many name lines = count_by (is_named name) lines

-- the value of the first line of this name; nothing where there is none
abbrev pub first_value : List ℕ → List Pair → List ℕ
first_value name [] = []
first_value name (line ∷ rest) = if is_named name line then line.1 else first_value name rest

-- one digit or more, and nothing else
abbrev pub is_digits : List ℕ → Bool
is_digits bytes = nat_lt 0 (length bytes) && list_all is_ascii_digit bytes

-- the number that a value of digits writes; 0 where it isn't digits
abbrev pub number_in : List ℕ → ℕ
number_in value = if is_digits value then digits_value 10 value else 0

abbrev pub is_post : List ℕ → Bool
is_post method = pointwise nat_eq method (codes "POST")

-- why a request is refused by its Content-Length lines: how many there are, and the value of the first
abbrev pub length_refusal : (post : Bool) (count : ℕ) (value : List ℕ) → Option Refusal
length_refusal post count value =
    if nat_lt 1 count || ((count == 1) && not (is_digits value)) then Some LengthUnread
    else (if (count == 0) && post then Some LengthMissing
    else (if nat_lt 131072 (number_in value) then Some BodyTooLong else None))

-- why a request is refused by its version, its method and its lines
abbrev pub line_refusal : (minor : ℕ) (method : List ℕ) (lines : List Pair) → Option Refusal
line_refusal minor method lines =
    if (minor == 1) && not (how_many (codes "host") lines == 1) then Some HeadUnread
    else (if nat_lt 0 (how_many (codes "transfer-encoding") lines) then Some TransferCoded
    else length_refusal (is_post method) (how_many (codes "content-length") lines) (first_value (codes "content-length") lines))

-- the length of the body, which is 0 where no line tells it
abbrev pub body_length : List Pair → ℕ
body_length lines = number_in (first_value (codes "content-length") lines)
