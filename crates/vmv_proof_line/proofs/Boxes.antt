-- Pairs of words, one behind another.
use Rattle.std.proofs.Common.{◌≡◌, ℕ, ◌<◌, ◌≤◌, ℤ, ◌<ℤ◌, List, [], ◌∷◌, ◌++◌, length, refl, sym, ap, ◌∙◌, arith, append_assoc, length-append}
use Rattle.std.specs.Prelude.{codes}
use Rattle.std.specs.List.{All, flat_map}
use Rattle.std.specs.Fmt.{signed_decimal}
use Rattle.std.proofs.lemmas.List.{append-nil}
use Rattle.std.proofs.lemmas.Int.{ints, to_z-of_z}
use Rattle.std.proofs.Common.{FitsSigned, to_z, of_z}
use Rattle.std.specs.Int.{w64}
use Rattle.vmv_tree.specs.Words.{IsWord}
use Rattle.std.proofs.lemmas.List.Concat.{flat_map-append}
use Rattle.std.proofs.lemmas.List.Elements.{All-nil, All-head, All-tail, All-append, All-cons}
use Rattle.vmv_witness.specs.Numbers.{IsNumber}
use Rattle.vmv_proof_words.specs.Words.{Word, words_of}
use Rattle.vmv_proof_words.specs.Taking.{IsEndWord}
use Rattle.vmv_proof_words.proofs.Splitting.{Clean, spaced_words, words_of_line, line_of_words}
use Rattle.vmv_proof_words.proofs.Digits.{end_number, end_once}
use Rattle.vmv_proof_text.specs.Parts.{box_part}
use Rattle.vmv_proof_text.specs.Text.{spaced}
use Rattle.vmv_proof_text.specs.Lines.{IsLine, IsRange}
use Rattle.vmv_proof_line.specs.Shapes.{range_pair, AreNumbers, IsBoxLoosely}
use Rattle.vmv_proof_line.proofs.Fields.{number_clean, tails}

-- how a kind of pairs is spelled
pub record IsSpelling {A : Type 0} (Good : A → Type 0) (show : A → Word × Word) : Type 0 where
  pub once : (a b : A) → Good a → Good b → (show a).0 ≡ (show b).0 → (show a).1 ≡ (show b).1 → a ≡ b
  pub first : (a : A) → Good a → IsNumber (show a).0
  pub second : (a : A) → Good a → IsNumber (show a).1

abbrev pub pair : {A : Type 0} → (A → Word × Word) → A → List Word
pair show a = (show a).0 ∷ (show a).1 ∷ []

abbrev pub pairs : {A : Type 0} → (A → Word × Word) → List A → List Word
pairs show xs = flat_map (pair show) xs

abbrev pub spelled : {A : Type 0} → (A → Word × Word) → A → List ℕ
spelled show a = spaced (show a).0 ++ spaced (show a).1

spaced_pairs : {A : Type 0} (show : A → Word × Word) (xs : List A) → spaced_words (pairs show xs) ≡ flat_map (spelled show) xs
spaced_pairs show [] = refl
spaced_pairs show (x ∷ xs) =
    ap (λ t. spaced (show x).0 ++ (spaced (show x).1 ++ t)) (spaced_pairs show xs) ∙ sym (append_assoc (spaced (show x).0) (spaced (show x).1) (flat_map (spelled show) xs))

pairs_clean : {A : Type 0} (Good : A → Type 0) (show : A → Word × Word) → IsSpelling Good show → (xs : List A) → All Good xs → Clean (pairs show xs)
pairs_clean Good show s [] h = tt
pairs_clean Good show s (x ∷ xs) h =
    let good = All-head Good x xs h in
    (number_clean (show x).0 (s.first x good), (number_clean (show x).1 (s.second x good), pairs_clean Good show s xs (All-tail Good x xs h)))

pub to_pairs : {A : Type 0} (Good : A → Type 0) (show : A → Word × Word) → IsSpelling Good show → (line : List ℕ) (xs : List A) → All Good xs → line ≡ codes "box" ++ flat_map (spelled show) xs → words_of line ≡ codes "box" ∷ pairs show xs
to_pairs Good show s line xs h e = ap words_of (e ∙ ap (λ t. codes "box" ++ t) (sym (spaced_pairs show xs))) ∙ words_of_line (codes "box") (pairs show xs) refl (pairs_clean Good show s xs h)

pub from_pairs : {A : Type 0} (show : A → Word × Word) (line : List ℕ) (xs : List A) → words_of line ≡ codes "box" ∷ pairs show xs → line ≡ codes "box" ++ flat_map (spelled show) xs
from_pairs show line xs e = line_of_words line (codes "box") (pairs show xs) e ∙ ap (λ t. codes "box" ++ t) (spaced_pairs show xs)

-- what is left of pairs behind some of them
pub record AreBehind {A : Type 0} (Good : A → Type 0) (show : A → Word × Word) (xs read : List A) (words : List Word) : Type 0 where
  pub rest : List A
  pub good : All Good rest
  pub whole : xs ≡ read ++ rest
  pub left : words ≡ pairs show rest

-- these pairs are read, and these words are left
pub record ArePairsRead {A : Type 0} (Good : A → Type 0) (show : A → Word × Word) (line : List ℕ) (read : List A) (words : List Word) : Type 0 where
  pub place : words_of line ≡ codes "box" ∷ (pairs show read ++ words)
  pub good : All Good read
  pub few : length read ≤ 16
  pub others : (xs : List A) → All Good xs → words_of line ≡ codes "box" ∷ pairs show xs → AreBehind Good show xs read words

pub pairs_begun : {A : Type 0} (Good : A → Type 0) (show : A → Word × Word) (line : List ℕ) (words : List Word) → words_of line ≡ codes "box" ∷ words → ArePairsRead Good show line [] words
pairs_begun Good show line words e = record {
  place = e;
  good = All-nil Good;
  few = omega arith;
  others = λ xs h f. record { rest = xs; good = h; whole = refl; left = tails (codes "box") (codes "box") words (pairs show xs) (sym e ∙ f) };
}

behind_more : {A : Type 0} (Good : A → Type 0) (show : A → Word × Word) → IsSpelling Good show → (xs read rest : List A) (x : A) (old new : List Word) → Good x → old ≡ (show x).0 ∷ (show x).1 ∷ new
    → All Good rest → xs ≡ read ++ rest → old ≡ pairs show rest → AreBehind Good show xs (read ++ x ∷ []) new
behind_more Good show s xs read [] x old new good e h f g = let bad : (show x).0 ∷ (show x).1 ∷ new ≡ [] = sym e ∙ g in absurd (cc)
behind_more Good show s xs read (y ∷ ys) x old new good e h f g =
    let both : (show x).0 ∷ (show x).1 ∷ new ≡ (show y).0 ∷ (show y).1 ∷ pairs show ys = sym e ∙ g in
    let zero : (show y).0 ≡ (show x).0 = cc in
    let one : (show y).1 ≡ (show x).1 = cc in
    let more : new ≡ pairs show ys = cc in
    let same = s.once y x (All-head Good y ys h) good zero one in
    record {
      rest = ys;
      good = All-tail Good y ys h;
      whole = f ∙ (ap (λ z. read ++ z ∷ ys) same ∙ sym (append_assoc read (x ∷ []) ys));
      left = more;
    }

pub pairs_more : {A : Type 0} (Good : A → Type 0) (show : A → Word × Word) → IsSpelling Good show → (line : List ℕ) (read : List A) (x : A) (old new : List Word) → ArePairsRead Good show line read old → length read < 16 → Good x
    → old ≡ (show x).0 ∷ (show x).1 ∷ new → ArePairsRead Good show line (read ++ x ∷ []) new
pairs_more Good show s line read x old new r small good e = record {
  place =
      r.place ∙ ap (λ t. codes "box" ∷ t) (ap (λ t. pairs show read ++ t) e
      ∙ (sym (append_assoc (pairs show read) (pair show x) new) ∙ ap (λ t. t ++ new) (sym (flat_map-append (pair show) read (x ∷ [])))));
  good = All-append Good read (x ∷ []) r.good (All-cons Good x [] good (All-nil Good));
  few = omega (arith, length-append read (x ∷ []));
  others = λ xs h f. let b = r.others xs h f in behind_more Good show s xs read b.rest x old new good e b.good b.whole b.left;
}

-- no pair stands there
pub no_pair : {A : Type 0} (Good : A → Type 0) (show : A → Word × Word) (line : List ℕ) (read : List A) (words : List Word) → ArePairsRead Good show line read words → (words ≡ [] → ⊥)
    → ((x : A) (rest : List Word) → Good x → words ≡ (show x).0 ∷ (show x).1 ∷ rest → ⊥) → (xs : List A) → All Good xs → words_of line ≡ codes "box" ∷ pairs show xs → ⊥
no_pair {A} Good show line read words r some none xs h e = let b = r.others xs h e in by b.rest b.good b.left
  where
    by : (rest : List A) → All Good rest → words ≡ pairs show rest → ⊥
    by [] g f = some f
    by (y ∷ ys) g f = none y (pairs show ys) (All-head Good y ys g) f

-- there are too many
pub too_many : {A : Type 0} (Good : A → Type 0) (show : A → Word × Word) (line : List ℕ) (read : List A) (words : List Word) → ArePairsRead Good show line read words → (words ≡ [] → ⊥) → 16 ≤ length read
    → (xs : List A) → length xs ≤ 16 → All Good xs → words_of line ≡ codes "box" ∷ pairs show xs → ⊥
too_many {A} Good show line read words r some full xs few h e = let b = r.others xs h e in by b.rest b.whole b.left
  where
    by : (rest : List A) → xs ≡ read ++ rest → words ≡ pairs show rest → ⊥
    by [] g f = some f
    by (y ∷ ys) g f = omega (arith, ap length g, length-append read (y ∷ ys))

pub all_pairs : {A : Type 0} (Good : A → Type 0) (show : A → Word × Word) (line : List ℕ) (read : List A) (words : List Word) → ArePairsRead Good show line read words → words ≡ [] → words_of line ≡ codes "box" ∷ pairs show read
all_pairs Good show line read words r e = r.place ∙ ap (λ t. codes "box" ∷ t) (ap (λ t. pairs show read ++ t) e ∙ append-nil (pairs show read))

-- ranges are spelled so
abbrev pub ends : ℤ × ℤ → Word × Word
ends r = (signed_decimal r.0, signed_decimal r.1)

pub ranges_spelled : IsSpelling IsRange ends
ranges_spelled = record {
  once = λ a b h k e f. let lo = end_once a.0 b.0 (signed_decimal b.0) (h.low, sym e) (k.low, refl) in let hi = end_once a.1 b.1 (signed_decimal b.1) (h.high, sym f) (k.high, refl) in λ i. (lo i, hi i);
  first = λ a h. end_number a.0 (signed_decimal a.0) (h.low, refl);
  second = λ a h. end_number a.1 (signed_decimal a.1) (h.high, refl);
}

abbrev pub itself : Word × Word → Word × Word
itself r = r

pub numbers_spelled : IsSpelling AreNumbers itself
numbers_spelled = record { once = λ a b h k e f i. (e i, f i); first = λ a h. h.0; second = λ a h. h.1 }

-- ends that stand the wrong way round are no range
pub not_range : (old mid new : List Word) (v w : Word) (lo hi : ℤ) → old ≡ v ∷ mid → IsEndWord lo v → mid ≡ w ∷ new → IsEndWord hi w → hi <ℤ lo → (r : ℤ × ℤ) (rest : List Word) → IsRange r → old ≡ range_pair r ++ rest → ⊥
not_range old mid new v w lo hi e h f k less r rest g q =
    let both : v ∷ w ∷ new ≡ signed_decimal r.0 ∷ signed_decimal r.1 ∷ rest = ap (λ t. v ∷ t) (sym f) ∙ (sym e ∙ q) in
    let first : v ≡ signed_decimal r.0 = cc in
    let second : w ≡ signed_decimal r.1 = cc in
    let low = end_once lo r.0 v h (g.low, first) in
    let high = end_once hi r.1 w k (g.high, second) in
    let order = g.order in
    grind (arith, ints)

pub pair_there : (old mid new : List Word) (v w : Word) → IsNumber v → old ≡ v ∷ mid → IsNumber w → mid ≡ w ∷ new → (r : Word × Word) × AreNumbers r × (old ≡ r.0 ∷ r.1 ∷ new)
pair_there old mid new v w h e k f = ((v, w), (h, k), e ∙ ap (λ t. v ∷ t) f)

pub no_second : (old mid : List Word) (v : Word) → old ≡ v ∷ mid → ((w : Word) (rest : List Word) → IsNumber w → mid ≡ w ∷ rest → ⊥) → (r : Word × Word) (rest : List Word) → AreNumbers r → old ≡ r.0 ∷ r.1 ∷ rest → ⊥
no_second old mid v e none r rest h k = none r.1 rest h.1 (tails v r.0 mid (r.1 ∷ rest) (sym e ∙ k))

pub box_words : (line : List ℕ) (rs : List (ℤ × ℤ)) → IsLine (box_part rs) line → words_of line ≡ codes "box" ∷ pairs ends rs
box_words line rs h = to_pairs IsRange ends ranges_spelled line rs h.1 h.2

pub box_told : (line : List ℕ) (rs : List (ℤ × ℤ)) (words : List Word) → ArePairsRead IsRange ends line rs words → words ≡ [] → IsLine (box_part rs) line
box_told line rs words r e = (r.few, r.good, from_pairs ends line rs (all_pairs IsRange ends line rs words r e))

pub loose_words_of_box : (line : List ℕ) (h : IsBoxLoosely line) → words_of line ≡ codes "box" ∷ pairs itself h.0
loose_words_of_box line h = to_pairs AreNumbers itself numbers_spelled line h.0 h.2 h.3

pub box_loose : (line : List ℕ) (rs : List (Word × Word)) (words : List Word) → ArePairsRead AreNumbers itself line rs words → words ≡ [] → IsBoxLoosely line
box_loose line rs words r e = (rs, r.few, r.good, from_pairs itself line rs (all_pairs AreNumbers itself line rs words r e))

word_fits : (z : ℤ) → IsWord z → FitsSigned w64 z
word_fits z h = grind (arith, ints)

-- a range is as its two words keep it
pub kept_range : (r : ℤ × ℤ) → IsRange r → r ≡ (to_z w64 (of_z w64 r.0), to_z w64 (of_z w64 r.1))
kept_range r h = let lo = to_z-of_z w64 r.0 (word_fits r.0 h.low) in let hi = to_z-of_z w64 r.1 (word_fits r.1 h.high) in λ i. (sym lo i, sym hi i)
