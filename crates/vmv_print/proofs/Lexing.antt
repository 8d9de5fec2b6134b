-- How a text falls into tokens: the tokens of its pieces, in order.
use Rattle.std.proofs.Common.{◌≡◌, ℕ, suc, ◌+◌, ◌-◌, ◌*◌, ◌/◌, ◌%◌, ◌^◌, ◌<◌, ◌≤◌, Bool, true, false, cond, List, [], ◌∷◌, ◌++◌, length, take, drop, refl, sym, ap, ◌∙◌, arith, append_assoc, length-append}
use Rattle.std.specs.Prelude.{ℤ, pos, negsuc, neg_ℤ, int_le, int_lt, codes, leb, nat_le, nat_lt, ◌==◌, ◌||◌, not, None, All}
use Rattle.std.specs.Fmt.{decimal, signed_decimal}
use Rattle.std.specs.List.{prefix_len, list_all}
use Rattle.std.specs.Str.{bytes_eq, IsUtf8}
use Rattle.std.proofs.Math.Seq.{take-append_seam, drop-append_seam}
use Rattle.std.proofs.lemmas.Bool.{and_parts, and_from, or_parts, ne_eqb, leb-true, leb-false, le-leb, lt-leb, lt-ltb, ltb-true, true≢false, false≢true}
use Rattle.std.proofs.lemmas.Fmt.{decimal_by_steps, IsAscii-decimal}
use Rattle.std.proofs.lemmas.List.Elements.{All-cons, All-nil}
use Rattle.std.proofs.lemmas.List.Folds.{list_all-append}
use Rattle.std.proofs.lemmas.List.Sums.{fold-append}
use Rattle.std.proofs.lemmas.Str.{IsUtf8-append, IsUtf8-from_ascii}
use Rattle.std.proofs.lemmas.Str.Ascii.{IsAscii-from_all}
use Rattle.vmv_tree.specs.Names.{is_letter, is_digit, is_name_byte, first_is_letter, is_keyword}
use Rattle.vmv_tree.specs.Words.{IsWord}
use Rattle.vmv_tree.specs.declared.name.Name.{Name}
use Rattle.vmv_text.proofs.Spoken.{Token}
use Rattle.vmv_text.proofs.Spoken.{Named, Number, Minus}
use Rattle.vmv_text.specs.Tokens.{placed_tokens, tokens_of, tokens, after_gap, token_at, token_and, spelled, keywords, word_token, mark_token, with_digit, number_of, number_token}
use Rattle.vmv_text.proofs.Unrolled.{placed_tokens-step}
use Rattle.vmv_print.specs.Written.{IsName}

-- the tokens of a text from its first token on
abbrev pub first_and : List ℕ → List Token
first_and [] = []
first_and (b ∷ rest) = (token_at (b ∷ rest)).0 ∷ tokens (drop (token_at (b ∷ rest)).1 (b ∷ rest))

tokens_and : (at : List ℕ) → tokens_of (token_and placed_tokens at) ≡ first_and at
unfolding tokens
tokens_and [] = refl
tokens_and (b ∷ rest) = refl

pub tokens-step : (text : List ℕ) → tokens text ≡ first_and (after_gap false text)
unfolding tokens
tokens-step text = ap tokens_of (placed_tokens-step text) ∙ tokens_and (after_gap false text)

-- the tokens before those of the rest
abbrev pub Before : Type 0
Before = List Token → List Token

-- no name and no number goes on with it
abbrev pub Ends : List ℕ → Type 0
Ends rest = prefix_len is_name_byte rest ≡ 0

-- a piece with its tokens, whatever follows
pub record Closed (a : List ℕ) (f : Before) : Type 0 where
  pub utf8 : IsUtf8 a
  pub lexed : (rest : List ℕ) → tokens (a ++ rest) ≡ f (tokens rest)

-- a piece with its tokens, where what follows doesn't go on with its last one
pub record Opened (a : List ℕ) (f : Before) : Type 0 where
  pub utf8 : IsUtf8 a
  pub lexed : (rest : List ℕ) → Ends rest → tokens (a ++ rest) ≡ f (tokens rest)

pub and_closed : {a b : List ℕ} {f g : Before} → Closed a f → Closed b g → Closed (a ++ b) (λ ts. f (g ts))
and_closed {a = a} {b = b} {f = f} {g = g} x y =
    record {
      utf8 = IsUtf8-append a b x.utf8 y.utf8;
      lexed = λ rest. ap tokens (append_assoc a b rest) ∙ (x.lexed (b ++ rest) ∙ ap f (y.lexed rest));
    }

pub and_opened : {a b : List ℕ} {f g : Before} → Closed a f → Opened b g → Opened (a ++ b) (λ ts. f (g ts))
and_opened {a = a} {b = b} {f = f} {g = g} x y =
    record {
      utf8 = IsUtf8-append a b x.utf8 y.utf8;
      lexed = λ rest e. ap tokens (append_assoc a b rest) ∙ (x.lexed (b ++ rest) ∙ ap f (y.lexed rest e));
    }

-- the second piece begins with what doesn't go on with the first
pub closing : {a b : List ℕ} {f g : Before} → Opened a f → Closed b g → ((rest : List ℕ) → Ends (b ++ rest)) → Closed (a ++ b) (λ ts. f (g ts))
closing {a = a} {b = b} {f = f} {g = g} x y e =
    record {
      utf8 = IsUtf8-append a b x.utf8 y.utf8;
      lexed = λ rest. ap tokens (append_assoc a b rest) ∙ (x.lexed (b ++ rest) (e rest) ∙ ap f (y.lexed rest));
    }

pub opening : {a b : List ℕ} {f g : Before} → Opened a f → Opened b g → ((rest : List ℕ) → Ends rest → Ends (b ++ rest)) → Opened (a ++ b) (λ ts. f (g ts))
opening {a = a} {b = b} {f = f} {g = g} x y e =
    record {
      utf8 = IsUtf8-append a b x.utf8 y.utf8;
      lexed = λ rest h. ap tokens (append_assoc a b rest) ∙ (x.lexed (b ++ rest) (e rest h) ∙ ap f (y.lexed rest h));
    }

-- bytes of ASCII are UTF-8
all_below : (bs : List ℕ) → list_all (λ b. nat_lt b 128) bs ≡ true → All (λ b. b < 128) bs
all_below [] h = All-nil (λ b. b < 128)
all_below (b ∷ bs) h =
    let parts = and_parts (nat_lt b 128) (list_all (λ b. nat_lt b 128) bs) h in
    All-cons (λ b. b < 128) b bs (ltb-true b 128 parts.0) (all_below bs parts.1)

pub plain : (bs : List ℕ) → list_all (λ b. nat_lt b 128) bs ≡ true → IsUtf8 bs
plain bs h = IsUtf8-from_ascii bs (IsAscii-from_all bs (all_below bs h))

pub nothing : Closed [] (λ ts. ts)
nothing = record { utf8 = plain [] refl; lexed = λ rest. refl }

pub no_list : Opened [] (λ ts. ts)
no_list = record { utf8 = plain [] refl; lexed = λ rest e. refl }

-- a run of bytes of one kind is as long as it is
run_len : (p : ℕ → Bool) (xs rest : List ℕ) → list_all p xs ≡ true → prefix_len p rest ≡ 0 → prefix_len p (xs ++ rest) ≡ length xs
run_len p [] rest h z = z
run_len p (x ∷ xs) rest h z =
    let parts = and_parts (p x) (list_all p xs) h in
    let more = run_len p xs rest parts.1 z in
    let one : 1 + prefix_len p (xs ++ rest) ≡ suc (length xs) = omega (arith, more) in
    ap (λ t. cond t (1 + prefix_len p (xs ++ rest)) 0) parts.0 ∙ one

run_first : (make : List ℕ → Token) (xs rest : List ℕ) (k : ℕ) → k ≡ length xs → make (take k (xs ++ rest)) ∷ tokens (drop k (xs ++ rest)) ≡ make xs ∷ tokens rest
run_first make xs rest k e =
    ap (λ k. make (take k (xs ++ rest)) ∷ tokens (drop k (xs ++ rest))) e
    ∙ (λ i. make (take-append_seam xs rest i) ∷ tokens (drop-append_seam xs rest i))

-- no gap stands before a byte of a kind that has no white space and no `/`
other : (p : ℕ → Bool) (b c : ℕ) → p b ≡ true → p c ≡ false → (b == c) ≡ false
other p b c h k = ne_eqb b c (λ e. true≢false (sym h ∙ (ap p e ∙ k)))

no_gap : (p : ℕ → Bool) → p 32 ≡ false → p 9 ≡ false → p 13 ≡ false → p 10 ≡ false → p 47 ≡ false → (b : ℕ) (rest : List ℕ) → p b ≡ true → after_gap false (b ∷ rest) ≡ b ∷ rest
no_gap p space tab return feed slash b rest h =
    let e1 = other p b 32 h space in
    let e2 = other p b 9 h tab in
    let e3 = other p b 13 h return in
    let e4 = other p b 10 h feed in
    let e5 = other p b 47 h slash in
    rw (e1, e2, e3, e4, e5) refl

-- a name is no keyword
no_keyword : (x : List ℕ) → is_keyword x ≡ false → spelled keywords x ≡ None
no_keyword x h =
    let a = or_parts _ _ h in
    let b = or_parts _ _ a.1 in
    let c = or_parts _ _ b.1 in
    let a1 = or_parts (bytes_eq x (codes "outside")) _ a.0 in
    let a2 = or_parts (bytes_eq x (codes "helper")) _ a1.1 in
    let a3 = or_parts (bytes_eq x (codes "entry")) _ a2.1 in
    let b1 = or_parts (bytes_eq x (codes "var")) _ b.0 in
    let b2 = or_parts (bytes_eq x (codes "return")) _ b1.1 in
    let c1 = or_parts (bytes_eq x (codes "assert")) _ c.0 in
    let c2 = or_parts (bytes_eq x (codes "if")) _ c1.1 in
    let c3 = or_parts (bytes_eq x (codes "else")) _ c2.1 in
    let d1 = or_parts (bytes_eq x (codes "repeat")) _ c.1 in
    let d2 = or_parts (bytes_eq x (codes "to")) _ d1.1 in
    let d3 = or_parts (bytes_eq x (codes "cap")) _ d2.1 in
    rw (a1.0, a2.0, a3.0, b1.0, b2.0, c1.0, c2.0, c3.0, d1.0, d2.0, d3.0) refl

word_is_name : (x : List ℕ) → is_keyword x ≡ false → nat_le (length x) 64 ≡ true → word_token x ≡ Named x
word_is_name x h k =
    let e = no_keyword x h in
    rw (e, k) refl

abbrev of_word : (b : ℕ) (all : List ℕ) → Token × ℕ
of_word b all =
    (word_token (take (prefix_len is_name_byte (b ∷ all)) (b ∷ all)), prefix_len is_name_byte (b ∷ all))

abbrev of_number : (b : ℕ) (all : List ℕ) → Token × ℕ
of_number b all =
    (number_token (number_of (take (prefix_len is_digit (b ∷ all)) (b ∷ all))), prefix_len is_digit (b ∷ all))

at_first : (b : ℕ) (all : List ℕ) (p : Token × ℕ) → token_at (b ∷ all) ≡ p → first_and (b ∷ all) ≡ p.0 ∷ tokens (drop p.1 (b ∷ all))
at_first b all p e = ap (λ t. t.0 ∷ tokens (drop t.1 (b ∷ all))) e

at_word : (b : ℕ) (all : List ℕ) → is_letter b ≡ true → token_at (b ∷ all) ≡ of_word b all
at_word b all h =
    ap (λ t. cond t (of_word b all) (cond (is_digit b) (of_number b all) (mark_token (b ∷ all)))) h

true_not : (b : Bool) → not b ≡ true → b ≡ false
true_not false h = refl
true_not true h = absurd (false≢true h)

-- a name is one token
name_lexed : (x : Name) → IsName x → (rest : List ℕ) → Ends rest → tokens (x ++ rest) ≡ Named x ∷ tokens rest
name_lexed [] h rest e = absurd (false≢true h)
name_lexed (b ∷ bs) h rest e =
    let size = and_parts (nat_le (length (b ∷ bs)) 64) _ h in
    let first = and_parts (is_letter b) _ size.1 in
    let all = and_parts (list_all is_name_byte (b ∷ bs)) _ first.1 in
    let other : is_keyword (b ∷ bs) ≡ false = true_not (is_keyword (b ∷ bs)) all.1 in
    let run = run_len is_name_byte (b ∷ bs) rest all.0 e in
    tokens-step ((b ∷ bs) ++ rest)
    ∙ (ap first_and (no_gap is_letter refl refl refl refl refl b (bs ++ rest) first.0)
    ∙ (at_first b (bs ++ rest) (of_word b (bs ++ rest)) (at_word b (bs ++ rest) first.0)
    ∙ (run_first word_token (b ∷ bs) rest (prefix_len is_name_byte ((b ∷ bs) ++ rest)) run
    ∙ ap (λ t. t ∷ tokens rest) (word_is_name (b ∷ bs) other size.0))))

-- a byte of a name is ASCII
large : (b : ℕ) → 128 ≤ b → is_name_byte b ≡ false
large b h =
    let a = lt-leb b 90 (omega arith) in
    let c = lt-leb b 122 (omega arith) in
    let d = lt-leb b 57 (omega arith) in
    let e = ne_eqb b 95 (λ e. omega arith) in
    let f = le-leb 65 b (omega arith) in
    let g = le-leb 97 b (omega arith) in
    let i = le-leb 48 b (omega arith) in
    rw (a, c, d, e, f, g, i) refl

below_by : (b : ℕ) (t : Bool) → leb 128 b ≡ t → is_name_byte b ≡ true → b < 128
below_by b true e h = absurd (false≢true (sym (large b (leb-true 128 b e)) ∙ h))
below_by b false e h = leb-false 128 b e

all_ascii : (x : List ℕ) → list_all is_name_byte x ≡ true → All (λ b. b < 128) x
all_ascii [] h = All-nil (λ b. b < 128)
all_ascii (b ∷ bs) h =
    let parts = and_parts (is_name_byte b) (list_all is_name_byte bs) h in
    All-cons (λ b. b < 128) b bs (below_by b (leb 128 b) refl parts.0) (all_ascii bs parts.1)

name_utf8 : (x : Name) → IsName x → IsUtf8 x
name_utf8 x h =
    let size = and_parts (nat_le (length x) 64) _ h in
    let first = and_parts (first_is_letter x) _ size.1 in
    let all = and_parts (list_all is_name_byte x) _ first.1 in
    IsUtf8-from_ascii x (IsAscii-from_all x (all_ascii x all.0))

pub name_opened : (x : Name) → IsName x → Opened x (λ ts. Named x ∷ ts)
name_opened x h = record { utf8 = name_utf8 x h; lexed = name_lexed x h }

-- the digits of a number in decimal
record IsNumber (n : ℕ) (ds : List ℕ) : Type 0 where
  digits : list_all is_digit ds ≡ true
  value : number_of ds ≡ n
  some : 0 < length ds

digit : (d : ℕ) → d < 10 → is_digit (48 + d) ≡ true
digit d h =
    let a = le-leb 48 (48 + d) (omega arith) in
    let b = le-leb (48 + d) 57 (omega arith) in
    rw (a, b) refl

one_digit : (n : ℕ) → n < 10 → IsNumber n ((48 + n) ∷ [])
one_digit n h =
    record {
      digits = and_from (is_digit (48 + n)) true (digit n h) refl;
      value = omega arith;
      some = omega arith;
    }

more_digits : (n : ℕ) (ds : List ℕ) → 10 ≤ n → IsNumber (n / 10) ds → IsNumber n (ds ++ ((48 + n % 10) ∷ []))
more_digits n ds h front =
    let d = 48 + n % 10 in
    let small : n % 10 < 10 = omega arith in
    let last = and_from (is_digit d) true (digit (n % 10) small) refl in
    let long = length-append ds (d ∷ []) in
    let told : 10 * number_of ds + (d - 48) ≡ n = omega (arith, front.value) in
    record {
      digits = list_all-append is_digit ds (d ∷ []) ∙ and_from (list_all is_digit ds) (list_all is_digit (d ∷ [])) front.digits last;
      value = fold-append with_digit 0 ds (d ∷ []) ∙ told;
      some = omega (arith, front.some);
    }

number_decimal : (n : ℕ) → n < 2 ^ 64 → IsNumber n (decimal n)
number_decimal n h = decimal_by_steps IsNumber one_digit more_digits n h

no_letter : (b : ℕ) → is_digit b ≡ true → is_letter b ≡ false
no_letter b h =
    let below = leb-true b 57 (and_parts (nat_le 48 b) (nat_le b 57) h).1 in
    let a = lt-leb 65 b (omega arith) in
    let c = lt-leb 97 b (omega arith) in
    let e = ne_eqb b 95 (λ e. omega arith) in
    rw (a, c, e) refl

at_number : (b : ℕ) (all : List ℕ) → is_digit b ≡ true → token_at (b ∷ all) ≡ of_number b all
at_number b all h =
    ap (λ t. cond t (of_word b all) (cond (is_digit b) (of_number b all) (mark_token (b ∷ all)))) (no_letter b h)
    ∙ ap (λ t. cond t (of_number b all) (mark_token (b ∷ all))) h

-- a run of digits is one token
digits_lexed : (ds : List ℕ) → 0 < length ds → list_all is_digit ds ≡ true → (rest : List ℕ) → prefix_len is_digit rest ≡ 0 → tokens (ds ++ rest) ≡ number_token (number_of ds) ∷ tokens rest
digits_lexed [] some h rest e = absurd (omega arith)
digits_lexed (b ∷ bs) some h rest e =
    let first = and_parts (is_digit b) (list_all is_digit bs) h in
    let run = run_len is_digit (b ∷ bs) rest h e in
    tokens-step ((b ∷ bs) ++ rest)
    ∙ (ap first_and (no_gap is_digit refl refl refl refl refl b (bs ++ rest) first.0)
    ∙ (at_first b (bs ++ rest) (of_number b (bs ++ rest)) (at_number b (bs ++ rest) first.0)
    ∙ run_first (λ ds. number_token (number_of ds)) (b ∷ bs) rest (prefix_len is_digit ((b ∷ bs) ++ rest)) run))

-- what goes on no name goes on no number
no_digits : (rest : List ℕ) → Ends rest → prefix_len is_digit rest ≡ 0
no_digits [] e = refl
no_digits (b ∷ rest) e = by_byte (is_letter b) (is_digit b) e
  where
    by_byte : (t u : Bool) → cond (t || u) (1 + prefix_len is_name_byte rest) 0 ≡ 0 → cond u (1 + prefix_len is_digit rest) 0 ≡ 0
    by_byte true true h = absurd (omega arith)
    by_byte false true h = absurd (omega arith)
    by_byte t false h = refl

decimal_lexed : (n : ℕ) → n < 2 ^ 64 → (rest : List ℕ) → Ends rest → tokens (decimal n ++ rest) ≡ number_token n ∷ tokens rest
decimal_lexed n h rest e =
    let number = number_decimal n h in
    digits_lexed (decimal n) number.some number.digits rest (no_digits rest e) ∙ ap (λ k. number_token k ∷ tokens rest) number.value

abbrev pub lit_before : ℤ → Before
lit_before (pos n) ts = Number n ∷ ts
lit_before (negsuc n) ts = Minus ∷ number_token (suc n) ∷ ts

pub small_number : (n : ℕ) → n < 2 ^ 63 → number_token n ≡ Number n
small_number n h =
    let e = lt-ltb n (2 ^ 63) h in
    rw e refl

pub count_opened : (n : ℕ) → n < 2 ^ 63 → Opened (decimal n) (λ ts. Number n ∷ ts)
count_opened n h =
    record {
      utf8 = IsUtf8-from_ascii (decimal n) (IsAscii-decimal n (omega arith));
      lexed = λ rest e. decimal_lexed n (omega arith) rest e ∙ ap (λ t. t ∷ tokens rest) (small_number n h);
    }

minus_lexed : (rest : List ℕ) → tokens (45 ∷ rest) ≡ Minus ∷ tokens rest
minus_lexed rest = tokens-step (45 ∷ rest)

pub negative_opened : (n : ℕ) → n < 2 ^ 63 → Opened (45 ∷ decimal (suc n)) (λ ts. Minus ∷ number_token (suc n) ∷ ts)
negative_opened n h =
    record {
      utf8 = IsUtf8-append (codes "-") (decimal (suc n)) (plain (codes "-") refl) (IsUtf8-from_ascii (decimal (suc n)) (IsAscii-decimal (suc n) (omega arith)));
      lexed = λ rest e. minus_lexed (decimal (suc n) ++ rest) ∙ ap (λ ts. Minus ∷ ts) (decimal_lexed (suc n) (omega arith) rest e);
    }

-- the bounds of a word
pub word_below : (n : ℕ) → IsWord (pos n) → n < 2 ^ 63
word_below n h =
    let parts = and_parts (int_le (neg_ℤ (pos (2 ^ 63))) (pos n)) (int_lt (pos n) (pos (2 ^ 63))) h in
    ltb-true n (2 ^ 63) parts.1

pub word_above : (n : ℕ) → IsWord (negsuc n) → n < 2 ^ 63
word_above n h =
    let parts = and_parts (int_le (neg_ℤ (pos (2 ^ 63))) (negsuc n)) (int_lt (negsuc n) (pos (2 ^ 63))) h in
    let least = leb-true n (2 ^ 63 - 1) parts.0 in
    omega arith

pub lit_opened : (z : ℤ) → IsWord z → Opened (signed_decimal z) (lit_before z)
lit_opened (pos n) h = count_opened n (word_below n h)
lit_opened (negsuc n) h = negative_opened n (word_above n h)
