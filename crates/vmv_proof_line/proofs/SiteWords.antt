-- The words of sites, one behind another.
use Rattle.std.proofs.Common.{◌≡◌, ℕ, ◌+◌, ◌<◌, ◌≤◌, ◌^◌, List, [], ◌∷◌, ◌++◌, length, refl, sym, ap, ◌∙◌, subst, IsTrue, arith, append_assoc, length-append}
use Rattle.std.specs.Prelude.{codes, map}
use Rattle.std.specs.List.{All, flat_map}
use Rattle.std.specs.Fmt.{decimal}
use Rattle.std.proofs.lemmas.List.{append-nil, map-append}
use Rattle.std.proofs.lemmas.List.Elements.{All-nil, All-head, All-tail, All-append, All-cons}
use Rattle.vmv_tree.specs.Names.{is_name}
use Rattle.vmv_witness.specs.Numbers.{IsNumber}
use Rattle.vmv_witness.specs.Reading.{lacks, SplitsAt}
use Rattle.vmv_witness.proofs.Bytes.{lacks-append, same_split}
use Rattle.vmv_witness.proofs.Clean.{name_lacks}
use Rattle.vmv_proof_words.specs.Words.{Word, words_of}
use Rattle.vmv_proof_words.specs.Taking.{IsNaturalWord}
use Rattle.vmv_proof_words.proofs.Splitting.{Clean, spaced_words, words_of_line, line_of_words}
use Rattle.vmv_proof_words.proofs.Digits.{natural_number, natural_once}
use Rattle.vmv_proof_text.specs.Text.{spaced}
use Rattle.vmv_proof_text.specs.Lines.{IsSite}
use Rattle.vmv_proof_line.specs.SiteWords.{shown_site, spelled_word, IsSpelled, IsLeftLoosely}
use Rattle.vmv_proof_line.proofs.Fields.{number_clean, name_clean, tails, behind}

-- a word is a name and a number in one way
pub site_once : (word name number proc digits : Word) → SplitsAt 35 word name number → IsTrue (is_name proc) → word ≡ proc ++ 35 ∷ digits → (name ≡ proc) × (number ≡ digits)
site_once word name number proc digits s h e = same_split 35 name number proc digits s.0 (name_lacks 35 refl proc h) (sym s.1 ∙ e)

pub not_named : (word name number proc digits : Word) → SplitsAt 35 word name number → (IsTrue (is_name name) → ⊥) → IsTrue (is_name proc) → word ≡ proc ++ 35 ∷ digits → ⊥
not_named word name number proc digits s none h e =
    none (subst (λ n. IsTrue (is_name n)) (sym (site_once word name number proc digits s h e).0) h)

-- no word of these has a space
abbrev pub AreClean : {A : Type 0} → (A → Type 0) → (A → Word) → Type 0
AreClean {A} Good show = (x : A) → Good x → IsTrue (lacks 32 (show x))

site_clean : (proc number : Word) → IsTrue (is_name proc) → IsNumber number → IsTrue (lacks 32 (proc ++ 35 ∷ number))
site_clean proc number h k = lacks-append 32 proc (35 ∷ number) (name_clean proc h) (lacks-append 32 (35 ∷ []) number refl (number_clean number k))

pub sites_clean : AreClean IsSite shown_site
sites_clean s h = site_clean s.proc (decimal s.index) h.named (natural_number s.index (omega (arith, h.small)))

pub spelled_clean : AreClean IsSpelled spelled_word
spelled_clean s h = site_clean s.0 s.1 h.0 h.1

spaced_map : {A : Type 0} (show : A → Word) (xs : List A) → spaced_words (map show xs) ≡ flat_map (λ x. spaced (show x)) xs
spaced_map show [] = refl
spaced_map show (x ∷ xs) = ap (λ t. spaced (show x) ++ t) (spaced_map show xs)

map_clean : {A : Type 0} (Good : A → Type 0) (show : A → Word) → AreClean Good show → (xs : List A) → All Good xs → Clean (map show xs)
map_clean Good show clean [] h = tt
map_clean Good show clean (x ∷ xs) h = (clean x (All-head Good x xs h), map_clean Good show clean xs (All-tail Good x xs h))

-- the line of so many
abbrev pub counted : {A : Type 0} → (A → Word) → List A → List ℕ
counted show xs = codes "left " ++ (decimal (length xs) ++ flat_map (λ x. spaced (show x)) xs)

pub to_counted : {A : Type 0} (Good : A → Type 0) (show : A → Word) → AreClean Good show → (line : List ℕ) (xs : List A) → length xs < 2 ^ 64 → All Good xs → line ≡ counted show xs
    → words_of line ≡ codes "left" ∷ decimal (length xs) ∷ map show xs
to_counted Good show clean line xs few h e =
    ap words_of (e ∙ ap (λ t. codes "left " ++ (decimal (length xs) ++ t)) (sym (spaced_map show xs)))
    ∙ words_of_line (codes "left") (decimal (length xs) ∷ map show xs) refl (number_clean (decimal (length xs)) (natural_number (length xs) few), map_clean Good show clean xs h)

pub from_counted : {A : Type 0} (show : A → Word) (line : List ℕ) (xs : List A) → words_of line ≡ codes "left" ∷ decimal (length xs) ∷ map show xs → line ≡ counted show xs
from_counted show line xs e = line_of_words line (codes "left") (decimal (length xs) ∷ map show xs) e ∙ ap (λ t. codes "left " ++ (decimal (length xs) ++ t)) (spaced_map show xs)

spaced_long : {A : Type 0} (show : A → Word) (xs : List A) → length xs ≤ length (flat_map (λ x. spaced (show x)) xs)
spaced_long show [] = omega arith
spaced_long show (x ∷ xs) = omega (arith, spaced_long show xs, length-append (spaced (show x)) (flat_map (λ y. spaced (show y)) xs))

-- no more than the bytes of the line
pub counted_long : {A : Type 0} (show : A → Word) (line : List ℕ) (xs : List A) → line ≡ counted show xs → length xs ≤ length line
counted_long show line xs e =
    omega (arith, ap length e, spaced_long show xs, length-append (codes "left ") (decimal (length xs) ++ flat_map (λ x. spaced (show x)) xs), length-append (decimal (length xs)) (flat_map (λ x. spaced (show x)) xs))

pub few_spelled : (line : List ℕ) → length line < 2 ^ 64 → (h : IsLeftLoosely line) → length h.0 < 2 ^ 64
few_spelled line short h = omega (arith, short, counted_long spelled_word line h.0 h.2)

-- what is left of some behind others
record AreLeft {A : Type 0} (Good : A → Type 0) (show : A → Word) (read xs : List A) (words : List Word) : Type 0 where
  pub rest : List A
  pub good : All Good rest
  pub left : words ≡ map show rest
  pub whole : length xs ≡ length read + length rest

left_over : {A : Type 0} (Good : A → Type 0) (show : A → Word) (read xs : List A) (words : List Word) → All Good xs → map show read ++ words ≡ map show xs → AreLeft Good show read xs words
left_over Good show [] xs words h e = record { rest = xs; good = h; left = e; whole = omega arith }
left_over Good show (r ∷ read) [] words h e = absurd cc
left_over Good show (r ∷ read) (x ∷ xs) words h e =
    let more = left_over Good show read xs words (All-tail Good x xs h) (tails (show r) (show x) (map show read ++ words) (map show xs) e) in
    record { rest = more.rest; good = more.good; left = more.left; whole = omega (arith, more.whole) }

-- behind this number these are read, and these words are left
pub record AreRead {A : Type 0} (Good : A → Type 0) (show : A → Word) (line : List ℕ) (n : ℕ) (read : List A) (words : List Word) : Type 0 where
  pub place : words_of line ≡ codes "left" ∷ decimal n ∷ (map show read ++ words)
  pub good : All Good read

pub read_begun : {A : Type 0} (Good : A → Type 0) (show : A → Word) (line : List ℕ) (words new : List Word) (word : Word) (n : ℕ) → words_of line ≡ codes "left" ∷ words → words ≡ word ∷ new → word ≡ decimal n → AreRead Good show line n [] new
read_begun Good show line words new word n e f g = record { place = e ∙ ap (λ t. codes "left" ∷ t) (f ∙ ap (λ w. w ∷ new) g); good = All-nil Good }

pub read_more : {A : Type 0} (Good : A → Type 0) (show : A → Word) (line : List ℕ) (n : ℕ) (read : List A) (x : A) (old new : List Word) → AreRead Good show line n read old → Good x → old ≡ show x ∷ new → AreRead Good show line n (read ++ x ∷ []) new
read_more Good show line n read x old new r good e = record {
  place =
      r.place ∙ ap (λ t. codes "left" ∷ decimal n ∷ t) (ap (λ t. map show read ++ t) e
      ∙ (sym (append_assoc (map show read) (show x ∷ []) new) ∙ ap (λ t. t ++ new) (sym (map-append show read (x ∷ [])))));
  good = All-append Good read (x ∷ []) r.good (All-cons Good x [] good (All-nil Good));
}

-- those that the line tells, if it tells any, are so many, and begin as those that were read
told_left_over : {A : Type 0} (Good : A → Type 0) (show : A → Word) → AreClean Good show → (line : List ℕ) (n : ℕ) (read : List A) (words : List Word) → AreRead Good show line n read words → n < 2 ^ 64
    → (xs : List A) → length xs < 2 ^ 64 → All Good xs → line ≡ counted show xs → AreLeft Good show read xs words × (n ≡ length xs)
told_left_over Good show clean line n read words r small xs few h e =
    let rest = behind line (codes "left") (decimal n ∷ (map show read ++ words)) (decimal (length xs) ∷ map show xs) r.place (to_counted Good show clean line xs few h e) in
    let number : decimal n ≡ decimal (length xs) = cc in
    (left_over Good show read xs words h (tails _ _ _ _ rest), natural_once n (length xs) (decimal n) (small, refl) (few, number))

-- none stands there
pub none_more : {A : Type 0} (Good : A → Type 0) (show : A → Word) → AreClean Good show → (line : List ℕ) (n : ℕ) (read : List A) (words : List Word) → AreRead Good show line n read words → n < 2 ^ 64
    → (words ≡ [] → ⊥) → ((x : A) (rest : List Word) → Good x → words ≡ show x ∷ rest → ⊥) → (xs : List A) → length xs < 2 ^ 64 → All Good xs → line ≡ counted show xs → ⊥
none_more {A} Good show clean line n read words r small some none xs few h e =
    let over = (told_left_over Good show clean line n read words r small xs few h e).0 in
    by over.rest over.good over.left
  where
    by : (rest : List A) → All Good rest → words ≡ map show rest → ⊥
    by [] g f = some f
    by (y ∷ ys) g f = none y (map show ys) (All-head Good y ys g) f

-- where no word is left, the number is how many were read
pub same_count : {A : Type 0} (Good : A → Type 0) (show : A → Word) → AreClean Good show → (line : List ℕ) (n : ℕ) (read : List A) (words : List Word) → AreRead Good show line n read words → n < 2 ^ 64
    → words ≡ [] → (xs : List A) → length xs < 2 ^ 64 → All Good xs → line ≡ counted show xs → length read ≡ n
same_count {A} Good show clean line n read words r small done xs few h e =
    let over = told_left_over Good show clean line n read words r small xs few h e in
    by over.0.rest over.0.left over.0.whole over.1
  where
    by : (rest : List A) → words ≡ map show rest → length xs ≡ length read + length rest → n ≡ length xs → length read ≡ n
    by [] f g k = omega (arith, g, k)
    by (y ∷ ys) f g k = let none : [] ≡ show y ∷ map show ys = sym done ∙ f in cc

-- there are more than the number says
pub too_many : {A : Type 0} (Good : A → Type 0) (show : A → Word) → AreClean Good show → (line : List ℕ) (n : ℕ) (read : List A) (words : List Word) → AreRead Good show line n read words → n < 2 ^ 64
    → (words ≡ [] → ⊥) → n ≤ length read → (xs : List A) → length xs < 2 ^ 64 → All Good xs → line ≡ counted show xs → ⊥
too_many {A} Good show clean line n read words r small some full xs few h e =
    let over = told_left_over Good show clean line n read words r small xs few h e in
    by over.0.rest over.0.left over.0.whole over.1
  where
    by : (rest : List A) → words ≡ map show rest → length xs ≡ length read + length rest → n ≡ length xs → ⊥
    by [] f g k = some f
    by (y ∷ ys) f g k = omega (arith, g, k, full)

pub all_read : {A : Type 0} (Good : A → Type 0) (show : A → Word) (line : List ℕ) (n : ℕ) (read : List A) (words : List Word) → AreRead Good show line n read words → words ≡ [] → length read ≡ n → line ≡ counted show read
all_read Good show line n read words r done e =
    from_counted show line read
    (r.place ∙ ap (λ t. codes "left" ∷ t) (λ i. decimal (sym e i) ∷ (ap (λ t. map show read ++ t) done ∙ append-nil (map show read)) i))

-- no number stands first
pub no_number : {A : Type 0} (Good : A → Type 0) (show : A → Word) → AreClean Good show → (line : List ℕ) (words : List Word) (bits : ℕ) → words_of line ≡ codes "left" ∷ words
    → ((n : ℕ) (word : Word) (rest : List Word) → IsNaturalWord bits n word → words ≡ word ∷ rest → ⊥) → (xs : List A) → length xs < 2 ^ bits → length xs < 2 ^ 64 → All Good xs → line ≡ counted show xs → ⊥
no_number Good show clean line words bits e none xs narrow few h f =
    none (length xs) (decimal (length xs)) (map show xs) (narrow, refl)
    (behind line (codes "left") words (decimal (length xs) ∷ map show xs) e (to_counted Good show clean line xs few h f))
