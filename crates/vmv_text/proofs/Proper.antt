-- The names among a text's tokens are names, and its small numbers are below 2^63.
use Rattle.std.proofs.Common.{◌≡◌, ℕ, zero, suc, ◌^◌, ◌<◌, Bool, true, false, cond, List, [], ◌∷◌, ◌++◌, Option, Some, None, map, length, take, drop, refl, sym, ap, ◌∙◌, IsTrue}
use Rattle.std.specs.Prelude.{nat_le, nat_lt, ◌==◌, ◌||◌, not, codes, unwrap_or, take_while, if◌then◌else◌}
use Rattle.std.specs.Option.{option_map}
use Rattle.std.specs.List.{prefix_len, list_any, list_all}
use Rattle.std.specs.Str.{bytes_eq}
use Rattle.std.proofs.lemmas.Bool.{and_from, ltb-true}
use Rattle.std.proofs.lemmas.List.Folds.{list_any-append}
use Rattle.std.proofs.lemmas.List.Sums.{take_while-cons}
use Rattle.vmv_tree.specs.Names.{is_letter, is_digit, is_name_byte, first_is_letter, is_keyword, is_name}
use Rattle.vmv_text.specs.declared.token.Token.{Token}
use Rattle.vmv_text.specs.declared.token.Token.TheVariants.{Named, Number, Edge, Bad}
use Rattle.vmv_text.specs.Tokens.{spelled, keywords, pairs, marks, word_token, number_of, number_token, mark_token, token_at, Placed, after_gap, token_and, tokens_in, placed_tokens, tokens_of, tokens}

-- a name that is one, a number below 2^63, or any other token
abbrev pub IsProper : Token → Type 0
IsProper (Named x) = IsTrue (is_name x)
IsProper (Number n) = n < 2 ^ 63
IsProper t = Unit {0}

abbrev pub AreProper : List Token → Type 0
AreProper [] = Unit {0}
AreProper (t ∷ ts) = IsProper t × AreProper ts

-- the tokens of a table are proper
abbrev IsTable : List (List ℕ × Token) → Type 0
IsTable [] = Unit {0}
IsTable (word ∷ words) = IsProper word.1 × IsTable words

abbrev IsProperOr : Option Token → Type 0
IsProperOr None = Unit {0}
IsProperOr (Some t) = IsProper t

spelled_by : (here : Bool) (t : Token) (behind : Option Token) → IsProper t → IsProperOr behind → IsProperOr (if here then Some t else behind)
spelled_by true t behind h k = h
spelled_by false t behind h k = k

spelled_proper : (words : List (List ℕ × Token)) → IsTable words → (bytes : List ℕ) → IsProperOr (spelled words bytes)
spelled_proper [] h bytes = tt
spelled_proper (word ∷ words) h bytes = spelled_by (bytes_eq bytes word.0) word.1 (spelled words bytes) h.0 (spelled_proper words h.1 bytes)

-- what isn't spelled in a table is none of its words
none_by : (here : Bool) (t : Token) (behind : Option Token) (more : Bool) → (if here then Some t else behind) ≡ None → (behind ≡ None → more ≡ false) → (here || more) ≡ false
none_by true t behind more e k = absurd (cc e)
none_by false t behind more e k = k e

none_spelled : (words : List (List ℕ × Token)) (bytes : List ℕ) → spelled words bytes ≡ None → list_any (λ word. bytes_eq bytes word) (map (λ word. word.0) words) ≡ false
none_spelled [] bytes e = refl
none_spelled (word ∷ words) bytes e =
    none_by (bytes_eq bytes word.0) word.1 (spelled words bytes) (list_any (λ w. bytes_eq bytes w) (map (λ w. w.0) words)) e (none_spelled words bytes)

no_keyword : (bytes : List ℕ) → spelled keywords bytes ≡ None → is_keyword bytes ≡ false
no_keyword bytes e =
    let is : List ℕ → Bool = λ word. bytes_eq bytes word in
    let items : List (List ℕ) = codes "outside" ∷ codes "helper" ∷ codes "entry" ∷ [] in
    let bodies : List (List ℕ) = codes "var" ∷ codes "return" ∷ [] in
    let choices : List (List ℕ) = codes "assert" ∷ codes "if" ∷ codes "else" ∷ [] in
    let loops : List (List ℕ) = codes "repeat" ∷ codes "to" ∷ codes "cap" ∷ [] in
    let split : list_any is (items ++ (bodies ++ (choices ++ loops))) ≡ (list_any is items || (list_any is bodies || (list_any is choices || list_any is loops))) =
    list_any-append is items (bodies ++ (choices ++ loops))
    ∙ ap (λ (z : Bool). list_any is items || z) (list_any-append is bodies (choices ++ loops) ∙ ap (λ (z : Bool). list_any is bodies || z) (list_any-append is choices loops)) in
    sym split ∙ none_spelled keywords bytes e

-- the front of a text that has only such bytes has only such bytes
front_by : (p : ℕ → Bool) (b : ℕ) (front : List ℕ) (t : Bool) → p b ≡ t → list_all p front ≡ true → list_all p (cond t (b ∷ front) []) ≡ true
front_by p b front true e h = and_from (p b) (list_all p front) e h
front_by p b front false e h = refl

front_all : (p : ℕ → Bool) (text : List ℕ) → list_all p (take_while p text) ≡ true
front_all p [] = refl
front_all p (b ∷ rest) = ap (list_all p) (take_while-cons p b rest) ∙ front_by p b (take_while p rest) (p b) refl (front_all p rest)

letter_first : (b : ℕ) (rest : List ℕ) → is_letter b ≡ true → take_while is_name_byte (b ∷ rest) ≡ b ∷ take_while is_name_byte rest
letter_first b rest h =
    take_while-cons is_name_byte b rest ∙ ap (λ t. cond (t || is_digit b) (b ∷ take_while is_name_byte rest) []) h

named_by : (bytes : List ℕ) (short : Bool) → nat_le (length bytes) 64 ≡ short → first_is_letter bytes ≡ true → list_all is_name_byte bytes ≡ true → is_keyword bytes ≡ false → IsProper (if short then Named bytes else Bad)
named_by bytes true e first all other =
    and_from (nat_le (length bytes) 64) _ e (and_from (first_is_letter bytes) _ first (and_from (list_all is_name_byte bytes) _ all (ap not other)))
named_by bytes false e first all other = tt

word_by : (bytes : List ℕ) (word : Option Token) → spelled keywords bytes ≡ word → IsProperOr word → first_is_letter bytes ≡ true → list_all is_name_byte bytes ≡ true → IsProper (unwrap_or word (if nat_le (length bytes) 64 then Named bytes else Bad))
word_by bytes (Some t) e h first all = h
word_by bytes None e h first all = named_by bytes (nat_le (length bytes) 64) refl first all (no_keyword bytes e)

keywords_proper : IsTable keywords
keywords_proper = (tt, (tt, (tt, (tt, (tt, (tt, (tt, (tt, (tt, (tt, (tt, tt)))))))))))

pairs_proper : IsTable pairs
pairs_proper = (tt, (tt, (tt, (tt, (tt, tt)))))

marks_proper : IsTable marks
marks_proper = (tt, (tt, (tt, (tt, (tt, (tt, (tt, (tt, (tt, (tt, (tt, (tt, (tt, (tt, (tt, tt)))))))))))))))

word_proper : (b : ℕ) (rest : List ℕ) → is_letter b ≡ true → IsProper (word_token (take_while is_name_byte (b ∷ rest)))
word_proper b rest h =
    let bytes = take_while is_name_byte (b ∷ rest) in
    let first : first_is_letter bytes ≡ true = ap first_is_letter (letter_first b rest h) ∙ h in
    word_by bytes (spelled keywords bytes) refl (spelled_proper keywords keywords_proper bytes) first (front_all is_name_byte (b ∷ rest))

number_by : (n : ℕ) (small edge : Bool) → nat_lt n (2 ^ 63) ≡ small → IsProper (if small then Number n else (if edge then Edge else Bad))
number_by n true edge e = ltb-true n (2 ^ 63) e
number_by n false true e = tt
number_by n false false e = tt

number_proper : (n : ℕ) → IsProper (number_token n)
number_proper n = number_by n (nat_lt n (2 ^ 63)) (n == 2 ^ 63) refl

abbrev mark_of : (pair one : Option Token) → Token × ℕ
mark_of pair one = unwrap_or (option_map (λ t. (t, 2)) pair) (unwrap_or one Bad, 1)

mark_by : (pair one : Option Token) → IsProperOr pair → IsProperOr one → IsProper (mark_of pair one).0
mark_by (Some t) one h k = h
mark_by None (Some t) h k = k
mark_by None None h k = tt

mark_proper : (text : List ℕ) → IsProper (mark_token text).0
mark_proper text =
    mark_by (spelled pairs (take 2 text)) (spelled marks (take 1 text)) (spelled_proper pairs pairs_proper (take 2 text)) (spelled_proper marks marks_proper (take 1 text))

first_by : (letter digit : Bool) (word number mark : Token × ℕ) → (letter ≡ true → IsProper word.0) → IsProper number.0 → IsProper mark.0 → IsProper (if letter then word else (if digit then number else mark)).0
first_by true digit word number mark h k l = h refl
first_by false true word number mark h k l = k
first_by false false word number mark h k l = l

first_proper : (text : List ℕ) → IsProper (token_at text).0
first_proper [] = tt
first_proper (b ∷ rest) =
    first_by (is_letter b) (is_digit b) (word_token (take_while is_name_byte (b ∷ rest)), prefix_len is_name_byte (b ∷ rest)) (number_token (number_of (take_while is_digit (b ∷ rest))), prefix_len is_digit (b ∷ rest)) (mark_token (b ∷ rest))
    (word_proper b rest) (number_proper (number_of (take_while is_digit (b ∷ rest)))) (mark_proper (b ∷ rest))

and_proper : (more : List ℕ → List Placed) → ((text : List ℕ) → AreProper (tokens_of (more text))) → (at : List ℕ) → AreProper (tokens_of (token_and more at))
and_proper more behind [] = tt
and_proper more behind (b ∷ rest) = (first_proper (b ∷ rest), behind (drop (token_at (b ∷ rest)).1 (b ∷ rest)))

in_proper : (n : ℕ) (text : List ℕ) → AreProper (tokens_of (tokens_in n text))
in_proper zero text = tt
in_proper (suc n) text = and_proper (tokens_in n) (in_proper n) (after_gap false text)

-- the tokens of a text are proper
pub tokens_proper : (text : List ℕ) → AreProper (tokens text)
unfolding tokens placed_tokens
tokens_proper text = in_proper (length text) text
