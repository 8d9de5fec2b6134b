-- What a word looks like to clap.
use Rattle.std.proofs.Common.{refl, codes, true, false, Bool, Option, Some, None, [], ◌∷◌, ◌++◌, ◌≡◌, ◌∙◌, sym, ap, subst, ℕ, ◌+◌, ◌==◌, suc, arith, take, drop}
use Rattle.std.specs.Str.{bytes_eq}
use Rattle.std.specs.List.{before_first, after_first, position_or_len}
use Rattle.std.proofs.lemmas.Slice.Eq.{bytes_eq-Decides}
use Rattle.std.proofs.lemmas.Bool.{eqb-true, ne_eqb}
use Rattle.clap.specs.Lexer.{has_byte, long_of, short_of}
use Rattle.vmv_words.specs.Words.{Word, IsPlain, empty, hyphen, other}

taken : (n x : ℕ) (rest : Word) → take (1 + n) (x ∷ rest) ≡ x ∷ take n rest
taken n x rest = let e : 1 + n ≡ suc n = omega arith in ap (λ (k : ℕ). take k (x ∷ rest)) e

dropped : (n x : ℕ) (rest : Word) → drop (1 + n + 1) (x ∷ rest) ≡ drop (n + 1) rest
dropped n x rest = let e : 1 + n + 1 ≡ suc (n + 1) = omega arith in ap (λ (k : ℕ). drop k (x ∷ rest)) e

-- a text has no `=`, or has it between what stands before the first and what stands after
pub data Parted (text : Word) : Type 0 where
  whole : before_first (λ x. x == 61) text ≡ text → has_byte 61 text ≡ false → Parted text
  parted : (before after : Word) → text ≡ before ++ 61 ∷ after → before_first (λ x. x == 61) text ≡ before → has_byte 61 text ≡ true
      → after_first (λ x. x == 61) text ≡ after → Parted text

pub part : (text : Word) → Parted text
part [] = whole refl refl
part (x ∷ rest) = go (x == 61) refl (part rest)
  where
    front : ℕ
    front = position_or_len (λ y. y == 61) rest

    more : (x == 61) ≡ false → Parted rest → Parted (x ∷ rest)
    more is (whole e none) = whole (rw is (taken front x rest ∙ ap (λ (l : Word). x ∷ l) e)) (rw is none)
    more is (parted before after split e some behind) =
        parted (x ∷ before) after (ap (λ (l : Word). x ∷ l) split) (rw is (taken front x rest ∙ ap (λ (l : Word). x ∷ l) e)) (rw is some) (rw is (dropped front x rest ∙ behind))

    here : 61 ≡ x → Parted (x ∷ rest)
    here same = parted [] rest (ap (λ (y : ℕ). y ∷ rest) (sym same)) (rw (sym same) refl) (rw (sym same) refl) (rw (sym same) refl)

    go : (b : Bool) → (x == 61) ≡ b → Parted rest → Parted (x ∷ rest)
    go true is later = here (sym (eqb-true x 61 is))
    go false is later = more is later

-- what clap makes of a word, by what it is
pub data Class (word : Word) : Type 0 where
  plain : IsPlain word → long_of word ≡ None → short_of word ≡ None → bytes_eq word (45 ∷ 45 ∷ []) ≡ false → Class word
  dashes : word ≡ codes "--" → Class word
  count : word ≡ codes "--workers" → Class word
  joined : (number : Word) → word ≡ codes "--workers=" ++ number → Class word
  flag : word ≡ codes "--proof" → Class word
  -- an option that there isn't
  strange : (name : Word) (value : Option Word) → long_of word ≡ Some (name, value) → bytes_eq word (45 ∷ 45 ∷ []) ≡ false
      → bytes_eq (codes "workers") name ≡ false → bytes_eq (codes "proof") name ≡ false → Class word
  -- the flag with a value
  valued : (value : Word) → word ≡ codes "--proof=" ++ value → Class word
  -- one hyphen
  short : (flags : Word) (first : ℕ) (rest : Word) → word ≡ 45 ∷ flags → flags ≡ first ∷ rest → long_of word ≡ None → short_of word ≡ Some flags → bytes_eq word (45 ∷ 45 ∷ []) ≡ false → Class word

-- a word that is no option looks like none
pub record Unmarked (word : Word) : Type 0 where
  pub no_long : long_of word ≡ None
  pub no_short : short_of word ≡ None
  pub no_dash : bytes_eq word (45 ∷ 45 ∷ []) ≡ false

pub unmarked : (word : Word) → IsPlain word → Unmarked word
unmarked [] empty = record { no_long = refl; no_short = refl; no_dash = refl }
unmarked word hyphen = record { no_long = refl; no_short = refl; no_dash = refl }
unmarked (x ∷ rest) (other first rest' differs) = let is : (x == 45) ≡ false = ne_eqb x 45 differs in
    record { no_long = rw is refl; no_short = rw is refl; no_dash = rw is refl }

-- two hyphens and more
long_class : (x : ℕ) (xs : Word) → Class (45 ∷ 45 ∷ x ∷ xs)
long_class x xs = named (part (x ∷ xs))
  where
    text : Word
    text = x ∷ xs

    same_name : (name : Word) → bytes_eq (codes "workers") name ≡ true → codes "workers" ≡ name
    same_name name e = (bytes_eq-Decides (codes "workers") name).0 e

    unnamed : (name : Word) (value : Option Word) → long_of (45 ∷ 45 ∷ text) ≡ Some (name, value) → bytes_eq (codes "workers") name ≡ false → (b : Bool) → bytes_eq (codes "proof") name ≡ b
        → (codes "proof" ≡ name → Class (45 ∷ 45 ∷ text)) → Class (45 ∷ 45 ∷ text)
    unnamed name value is off true e found = found ((bytes_eq-Decides (codes "proof") name).0 e)
    unnamed name value is off false e found = strange name value is refl off e

    choose : (name : Word) (value : Option Word) → long_of (45 ∷ 45 ∷ text) ≡ Some (name, value) → (b : Bool) → bytes_eq (codes "workers") name ≡ b
        → (codes "workers" ≡ name → Class (45 ∷ 45 ∷ text)) → (codes "proof" ≡ name → Class (45 ∷ 45 ∷ text)) → Class (45 ∷ 45 ∷ text)
    choose name value is true e found found' = found ((bytes_eq-Decides (codes "workers") name).0 e)
    choose name value is false e found found' = unnamed name value is e (bytes_eq (codes "proof") name) refl found'

    named : Parted text → Class (45 ∷ 45 ∷ text)
    named (whole e none) = choose text None (rw (e, none) refl) (bytes_eq (codes "workers") text) refl
        (λ same. count (ap (λ (t : Word). 45 ∷ 45 ∷ t) (sym same))) (λ same. flag (ap (λ (t : Word). 45 ∷ 45 ∷ t) (sym same)))
    named (parted before after split e some behind) = choose before (Some after) (rw (e, some, behind) refl) (bytes_eq (codes "workers") before) refl
        (λ same. joined after (ap (λ (t : Word). 45 ∷ 45 ∷ t) (split ∙ ap (λ (t : Word). t ++ 61 ∷ after) (sym same))))
        (λ same. valued after (ap (λ (t : Word). 45 ∷ 45 ∷ t) (split ∙ ap (λ (t : Word). t ++ 61 ∷ after) (sym same))))

hyphened : (rest : Word) → Class (45 ∷ rest)
hyphened [] = plain hyphen refl refl refl
hyphened (y ∷ rest) = second (y == 45) refl rest
  where
    one : (y == 45) ≡ false → (rest : Word) → Class (45 ∷ y ∷ rest)
    one is rest = short (y ∷ rest) y rest refl refl (rw is refl) (rw is refl) (rw is refl)

    two : 45 ≡ y → (rest : Word) → Class (45 ∷ y ∷ rest)
    two same [] = dashes (ap (λ (z : ℕ). 45 ∷ z ∷ []) (sym same))
    two same (x ∷ xs) = subst (λ (z : ℕ). Class (45 ∷ z ∷ x ∷ xs)) same (long_class x xs)

    second : (b : Bool) → (y == 45) ≡ b → (rest : Word) → Class (45 ∷ y ∷ rest)
    second true is rest = two (sym (eqb-true y 45 is)) rest
    second false is rest = one is rest

pub class : (word : Word) → Class word
class [] = plain empty refl refl refl
class (x ∷ rest) = first (x == 45) refl
  where
    first : (b : Bool) → (x == 45) ≡ b → Class (x ∷ rest)
    first true is = subst (λ (y : ℕ). Class (y ∷ rest)) (sym (eqb-true x 45 is)) (hyphened rest)
    first false is = plain (other x rest (λ e. let yes : (x == 45) ≡ true = rw e refl in cc)) (rw is refl) (rw is refl) (rw is refl)
