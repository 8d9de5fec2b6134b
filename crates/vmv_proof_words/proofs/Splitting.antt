-- How the words of a line are found, and that they are the line's alone.
use Rattle.std.proofs.Common.{◌≡◌, ◌⊎◌, ℕ, ◌+◌, ◌-◌, ◌<◌, ◌≤◌, true, false, List, [], ◌∷◌, ◌++◌, length, take, drop, get_or, refl, sym, ap, ◌∙◌, cond, eqb, IsTrue, arith, inl, inr}
use Rattle.std.specs.List.{flat_map}
use Rattle.std.proofs.lemmas.Bool.{and_parts, eq-eqb, ne_eqb, eqb-true, cases_lt, cases_Bool, false≢true}
use Rattle.std.proofs.lemmas.List.{append-nil, append_cancel_left, take-append-drop, take_rest, drop_more, drop_all, take_all}
use Rattle.vmv_witness.specs.Reading.{lacks}
use Rattle.vmv_proof_words.specs.Words.{Word, before_first, words_of, words_behind}

-- a space before each word
abbrev pub spaced_words : List Word → List ℕ
spaced_words words = flat_map (λ word. 32 ∷ word) words

abbrev pub join : List Word → List ℕ
join [] = []
join (word ∷ words) = word ++ spaced_words words

-- no space stands in the words
abbrev pub Clean : List Word → Type 0
Clean [] = Unit {0}
Clean (word ∷ words) = IsTrue (lacks 32 word) × Clean words

lacks_head : (c : ℕ) (cs : List ℕ) → IsTrue (lacks 32 (c ∷ cs)) → c ≡ 32 → ⊥
lacks_head c cs h e =
    let none : IsTrue (lacks 32 (32 ∷ cs)) → ⊥ = λ k. false≢true k in
    none (subst_head c cs e h)
  where
    subst_head : (c : ℕ) (cs : List ℕ) → c ≡ 32 → IsTrue (lacks 32 (c ∷ cs)) → IsTrue (lacks 32 (32 ∷ cs))
    subst_head c cs e h = ap (λ x. lacks 32 (x ∷ cs)) (sym e) ∙ h

lacks_tail : (c : ℕ) (cs : List ℕ) → IsTrue (lacks 32 (c ∷ cs)) → IsTrue (lacks 32 cs)
lacks_tail c cs h = (and_parts _ (lacks 32 cs) h).1

other_byte : (c : ℕ) (bytes : List ℕ) → (c ≡ 32 → ⊥) → words_of (c ∷ bytes) ≡ before_first c (words_of bytes)
unfolding words_of
other_byte c bytes h = ap (λ t. cond t ([] ∷ words_of bytes) (before_first c (words_of bytes))) (ne_eqb c 32 h)

pub space_byte : (bytes : List ℕ) → words_of (32 ∷ bytes) ≡ [] ∷ words_of bytes
unfolding words_of
space_byte bytes = refl

pub no_bytes : words_of [] ≡ [] ∷ []
unfolding words_of
no_bytes = refl

-- the words of a word are it alone
pub one_word : (word : Word) → IsTrue (lacks 32 word) → words_of word ≡ word ∷ []
one_word [] h = no_bytes
one_word (c ∷ cs) h = other_byte c cs (lacks_head c cs h) ∙ ap (before_first c) (one_word cs (lacks_tail c cs h))

-- the first word stands before the first space
pub first_word : (word rest : List ℕ) → IsTrue (lacks 32 word) → words_of (word ++ 32 ∷ rest) ≡ word ∷ words_of rest
first_word [] rest h = space_byte rest
first_word (c ∷ cs) rest h =
    other_byte c (cs ++ 32 ∷ rest) (lacks_head c cs h) ∙ ap (before_first c) (first_word cs rest (lacks_tail c cs h))

pub behind_none : words_behind [] ≡ []
unfolding words_behind
behind_none = refl

pub behind_byte : (b : ℕ) (bytes : List ℕ) → words_behind (b ∷ bytes) ≡ words_of bytes
unfolding words_behind
behind_byte b bytes = refl

-- the bytes up to a space, or up to the end, are the first word
pub split_words : (bytes : List ℕ) (n : ℕ) → IsTrue (lacks 32 (take n bytes)) → (n < length bytes → get_or bytes n 0 ≡ 32) → words_of bytes ≡ take n bytes ∷ words_behind (drop n bytes)
split_words bytes n h space = by (cases_lt n (length bytes))
  where
    by : (n < length bytes) ⊎ (length bytes ≤ n) → words_of bytes ≡ take n bytes ∷ words_behind (drop n bytes)
    by (inl small) =
        let rest : drop n bytes ≡ 32 ∷ drop (n + 1) bytes = drop_more bytes n 0 small ∙ ap (λ b. b ∷ drop (n + 1) bytes) (space small) in
        let whole : bytes ≡ take n bytes ++ 32 ∷ drop (n + 1) bytes = sym (take-append-drop n bytes) ∙ ap (λ r. take n bytes ++ r) rest in
        ap words_of whole ∙ (first_word (take n bytes) (drop (n + 1) bytes) h
        ∙ ap (λ r. take n bytes ∷ r) (sym (ap words_behind rest ∙ behind_byte 32 (drop (n + 1) bytes))))
    by (inr large) =
        ap words_of (sym (take_all n bytes large)) ∙ (one_word (take n bytes) h
        ∙ ap (λ r. take n bytes ∷ r) (sym (ap words_behind (drop_all n bytes large) ∙ behind_none)))

before_some : (b : ℕ) (words : List Word) → before_first b words ≡ [] → ⊥
before_some b [] e = cc
before_some b (w ∷ ws) e = cc

-- there is a word at least
pub some_word : (bytes : List ℕ) → words_of bytes ≡ [] → ⊥
some_word [] e = let s = sym no_bytes ∙ e in cc
some_word (c ∷ cs) e = by (cases_Bool (eqb c 32))
  where
    by : (eqb c 32 ≡ true) ⊎ (eqb c 32 ≡ false) → ⊥
    by (inl t) = let s : [] ∷ words_of cs ≡ [] = sym (ap (λ b. words_of (b ∷ cs)) (eqb-true c 32 t) ∙ space_byte cs) ∙ e in cc
    by (inr f) = before_some c (words_of cs) (sym (other_byte c cs (λ same. false≢true (sym f ∙ eq-eqb c 32 same))) ∙ e)

spaced_some : (words : List Word) → (words ≡ [] → ⊥) → spaced_words words ≡ 32 ∷ join words
spaced_some [] h = absurd (h refl)
spaced_some (w ∷ ws) h = refl

join_before : (b : ℕ) (words : List Word) → join (before_first b words) ≡ b ∷ join words
join_before b [] = refl
join_before b (w ∷ ws) = refl

-- the words of a line are it
pub joined : (bytes : List ℕ) → bytes ≡ join (words_of bytes)
joined [] = sym (ap join no_bytes)
joined (c ∷ cs) = by (joined cs) (cases_Bool (eqb c 32))
  where
    by : cs ≡ join (words_of cs) → (eqb c 32 ≡ true) ⊎ (eqb c 32 ≡ false) → c ∷ cs ≡ join (words_of (c ∷ cs))
    by rest (inl t) =
        let same = eqb-true c 32 t in
        ap (λ b. b ∷ cs) same ∙ (ap (λ r. 32 ∷ r) rest
        ∙ (sym (spaced_some (words_of cs) (some_word cs)) ∙ sym (ap (λ b. join (words_of (b ∷ cs))) same ∙ ap join (space_byte cs))))
    by rest (inr f) =
        ap (λ r. c ∷ r) rest
        ∙ (sym (join_before c (words_of cs)) ∙ ap join (sym (other_byte c cs (λ same. false≢true (sym f ∙ eq-eqb c 32 same)))))

pub line_of_words : (bytes : List ℕ) (word : Word) (words : List Word) → words_of bytes ≡ word ∷ words → bytes ≡ word ++ spaced_words words
line_of_words bytes word words e = joined bytes ∙ ap join e

-- words without spaces in them are the words of their line
pub words_of_line : (word : Word) (words : List Word) → IsTrue (lacks 32 word) → Clean words → words_of (word ++ spaced_words words) ≡ word ∷ words
words_of_line word [] h k = ap words_of (append-nil word) ∙ one_word word h
words_of_line word (next ∷ words) h k =
    first_word word (next ++ spaced_words words) h ∙ ap (λ r. word ∷ r) (words_of_line next words k.0 k.1)

no_spaced : (c : ℕ) (cs : List ℕ) (words : List Word) → (c ≡ 32 → ⊥) → c ∷ cs ≡ spaced_words words → ⊥
no_spaced c cs [] h e = cc
no_spaced c cs (w ∷ ws) h e = let s : c ≡ 32 = cc in h s

-- another byte stands behind the word
pub not_behind : (line word : List ℕ) (c : ℕ) (cs : List ℕ) → line ≡ word ++ c ∷ cs → (c ≡ 32 → ⊥) → (words : List Word) → words_of line ≡ word ∷ words → ⊥
not_behind line word c cs e h words k =
    no_spaced c cs words h (append_cancel_left word (c ∷ cs) (spaced_words words) (sym e ∙ line_of_words line word words k))

pub not_first : (line word : List ℕ) → ((rest : List ℕ) → line ≡ word ++ rest → ⊥) → (words : List Word) → words_of line ≡ word ∷ words → ⊥
not_first line word h words k = h (spaced_words words) (line_of_words line word words k)

-- behind an empty or a spaced rest of a line
pub behind_empty : (line word left : List ℕ) → line ≡ word ++ left → IsTrue (lacks 32 word) → length left < 1 → words_of line ≡ word ∷ words_behind left
behind_empty line word [] e h small = ap words_of (e ∙ append-nil word) ∙ (one_word word h ∙ ap (λ r. word ∷ r) (sym behind_none))
behind_empty line word (c ∷ cs) e h small = absurd (omega arith)

pub behind_space : (line word left : List ℕ) → line ≡ word ++ left → IsTrue (lacks 32 word) → 1 ≤ length left → get_or left 0 0 ≡ 32 → words_of line ≡ word ∷ words_behind left
behind_space line word [] e h some space = absurd (omega arith)
behind_space line word (c ∷ cs) e h some space =
    ap words_of (e ∙ ap (λ b. word ++ b ∷ cs) space) ∙ (first_word word cs h ∙ ap (λ r. word ∷ r) (sym (behind_byte c cs)))

pub not_behind_other : (line word left : List ℕ) → line ≡ word ++ left → 1 ≤ length left → (get_or left 0 0 ≡ 32 → ⊥) → (words : List Word) → words_of line ≡ word ∷ words → ⊥
not_behind_other line word [] e some other words k = omega arith
not_behind_other line word (c ∷ cs) e some other words k = not_behind line word c cs e other words k

-- no word is left exactly where no byte is
pub none_left : (left : List ℕ) → words_behind left ≡ [] → left ≡ []
none_left [] e = refl
none_left (c ∷ cs) e = absurd (some_word cs (sym (behind_byte c cs) ∙ e))

-- the word behind the first byte is taken
pub next_taken : (left : List ℕ) (n : ℕ) (word : Word) → 1 ≤ length left → (let bytes = take (length left - 1) (drop 1 left) in
    words_of bytes ≡ word ∷ words_behind (drop n bytes) → words_behind left ≡ word ∷ words_behind (take (length bytes - n) (drop n bytes)))
next_taken [] n word some h = absurd (omega arith)
next_taken (c ∷ cs) n word some h =
    let bytes = take (length (c ∷ cs) - 1) (drop 1 (c ∷ cs)) in
    let whole : bytes ≡ cs = take_rest (c ∷ cs) 1 in
    behind_byte c cs ∙ (ap words_of (sym whole) ∙ (h ∙ ap (λ r. word ∷ words_behind r) (sym (take_rest bytes n))))

pub none_behind : (left : List ℕ) → length left < 1 → words_behind left ≡ []
none_behind [] small = behind_none
none_behind (c ∷ cs) small = absurd (omega arith)
