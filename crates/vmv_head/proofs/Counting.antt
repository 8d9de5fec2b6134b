-- Lines that are counted, and the number that digits write.
use Rattle.std.proofs.Common.{◌≡◌, ℕ, ◌+◌, ◌-◌, ◌*◌, ◌<◌, true, List, length, take, get_or, min, arith}
use Rattle.std.specs.Prelude.{nat_lt}
use Rattle.std.specs.List.{list_all}
use Rattle.std.specs.Char.{is_ascii_digit, digit_value}
use Rattle.std.specs.Str.Parse.{digits_value}
use Rattle.std.proofs.lemmas.List.Sums.{AllPass-from_list_all}
use Rattle.std.proofs.lemmas.Int.Digits.{digits_value_more}
use Rattle.std.proofs.lemmas.Bool.{and_parts}
use Rattle.vmv_head.specs.Lines.{is_digits}

ascii_digit_value : (b : ℕ) → is_ascii_digit b ≡ true → digit_value b ≡ b - 48
ascii_digit_value b h = grind arith

-- one digit more
pub value_more : (digits : List ℕ) (i value most : ℕ) → i < length digits → is_digits digits ≡ true → value ≡ min (digits_value 10 (take i digits)) most
    → min (value * 10 + (get_or digits i 0 - 48)) most ≡ min (digits_value 10 (take (i + 1) digits)) most
value_more digits i value most h all e =
    let digit = ascii_digit_value (get_or digits i 0) (AllPass-from_list_all is_ascii_digit digits (and_parts (nat_lt 0 (length digits)) (list_all is_ascii_digit digits) all).1 i 0 h) in
    let more = digits_value_more 10 digits i h in
    omega (arith, e, digit, more)

pub ruleset digits = (value_more)
