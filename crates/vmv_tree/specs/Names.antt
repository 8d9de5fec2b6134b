-- Names: which bytes are a name's.
use Rattle.std.specs.Prelude.{ℕ, Bool, false, not, ◌&&◌, ◌||◌, ◌==◌, nat_le, List, [], ◌∷◌, length, codes}
use Rattle.std.specs.List.{list_all, list_any}
use Rattle.std.specs.Str.{bytes_eq}

-- a letter of ASCII, or `_`
abbrev pub is_letter : ℕ → Bool
is_letter b = (nat_le 65 b && nat_le b 90) || (nat_le 97 b && nat_le b 122) || b == 95

abbrev pub is_digit : ℕ → Bool
is_digit b = nat_le 48 b && nat_le b 57

abbrev pub is_name_byte : ℕ → Bool
is_name_byte b = is_letter b || is_digit b

abbrev pub first_is_letter : List ℕ → Bool
first_is_letter [] = false
first_is_letter (b ∷ rest) = is_letter b

abbrev pub is_item_word : List ℕ → Bool
is_item_word bytes = list_any (λ word. bytes_eq bytes word) (codes "outside" ∷ codes "helper" ∷ codes "entry" ∷ [])

abbrev pub is_body_word : List ℕ → Bool
is_body_word bytes = list_any (λ word. bytes_eq bytes word) (codes "var" ∷ codes "return" ∷ [])

abbrev pub is_choice_word : List ℕ → Bool
is_choice_word bytes = list_any (λ word. bytes_eq bytes word) (codes "assert" ∷ codes "if" ∷ codes "else" ∷ [])

abbrev pub is_loop_word : List ℕ → Bool
is_loop_word bytes = list_any (λ word. bytes_eq bytes word) (codes "repeat" ∷ codes "to" ∷ codes "cap" ∷ [])

abbrev pub is_keyword : List ℕ → Bool
is_keyword bytes = is_item_word bytes || (is_body_word bytes || (is_choice_word bytes || is_loop_word bytes))

-- a letter or `_`, then letters, digits and `_`, at most 64 bytes, and no keyword
abbrev pub is_name : List ℕ → Bool
is_name bytes = nat_le (length bytes) 64 && (first_is_letter bytes && (list_all is_name_byte bytes && not (is_keyword bytes)))
