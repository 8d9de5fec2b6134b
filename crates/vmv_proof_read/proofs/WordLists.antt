-- Numbers lack some bytes, and words behind spaces are told once.
use Rattle.std.proofs.Common.{◌≡◌, ℕ, zero, suc, ◌+◌, ◌<◌, true, Bool, false, cond, ℤ, pos, negsuc, List, [], ◌∷◌, ◌++◌, refl, sym, ap, subst, ◌∙◌, arith, append_assoc}
use Rattle.std.specs.Prelude.{nat_lt, ◌==◌, ◌/◌, ◌%◌}
use Rattle.std.specs.Fmt.{decimal, signed_decimal, digits, digits_onto, digit_glyph}
use Rattle.std.specs.List.{All, flat_map}
use Rattle.std.proofs.lemmas.Fmt.{decimal_injective, signed_decimal_injective}
use Rattle.std.proofs.lemmas.List.{append-nil}
use Rattle.vmv_tree.specs.declared.site.NamedSite.{NamedSite}
use Rattle.vmv_witness.specs.Reading.{lacks}
use Rattle.vmv_witness.proofs.Bytes.{lacks-cons, lacks-append, lacks_none, same_split}
use Rattle.vmv_witness.proofs.Clean.{name_lacks}
use Rattle.vmv_witness.proofs.Digits.{word_mag}
use Rattle.vmv_proof_text.specs.Text.{spaced, range_words, site_word}
use Rattle.vmv_proof_text.specs.Lines.{IsRange, IsSite}

glyph : (b : ℕ) → b < 48 → (t : Bool) (d : ℕ) → cond t (48 + d) (87 + d) ≡ b → ⊥
glyph b small true d e = omega arith
glyph b small false d e = omega arith

onto_lacks : (b : ℕ) → b < 48 → (k n : ℕ) (acc : List ℕ) → lacks b acc ≡ true → lacks b (digits_onto k 10 false n acc) ≡ true
onto_lacks b small zero n acc h = h
onto_lacks b small (suc k) n acc h =
    let more : lacks b (digit_glyph false (n % 10) ∷ acc) ≡ true = lacks-cons b (digit_glyph false (n % 10)) acc (glyph b small (nat_lt (n % 10) 10) (n % 10)) h in
    either (n / 10 == 0) (digit_glyph false (n % 10) ∷ acc) (digits_onto k 10 false (n / 10) (digit_glyph false (n % 10) ∷ acc)) more
    (onto_lacks b small k (n / 10) (digit_glyph false (n % 10) ∷ acc) more)
  where
    either : (t : Bool) (xs ys : List ℕ) → lacks b xs ≡ true → lacks b ys ≡ true → lacks b (cond t xs ys) ≡ true
    either true xs ys a c = a
    either false xs ys a c = c

pub decimal_lacks : (b : ℕ) → b < 48 → (n : ℕ) → lacks b (decimal n) ≡ true
unfolding digits
decimal_lacks b small n = onto_lacks b small 64 n [] refl

pub signed_lacks : (b : ℕ) → b < 45 → (z : ℤ) → lacks b (signed_decimal z) ≡ true
signed_lacks b small (pos n) = decimal_lacks b (omega arith) n
signed_lacks b small (negsuc n) = lacks-cons b 45 (decimal (suc n)) (λ e. omega arith) (decimal_lacks b (omega arith) (suc n))

-- none of the words has a space
abbrev pub AreWords : List (List ℕ) → Type 0
AreWords [] = Unit {0}
AreWords (w ∷ ws) = (lacks 32 w ≡ true) × AreWords ws

one_word : (w v : List ℕ) (vs : List (List ℕ)) (x : List ℕ) → lacks 32 w ≡ true → w ≡ v ++ flat_map spaced (x ∷ vs) → ⊥
one_word w v vs x h e = lacks_none 32 v (x ++ flat_map spaced vs) (subst (λ t. lacks 32 t ≡ true) e h)

-- words behind spaces are told once
pub same_words : (ws vs : List (List ℕ)) → AreWords ws → AreWords vs → flat_map spaced ws ≡ flat_map spaced vs → ws ≡ vs
same_words [] [] h k e = refl
same_words [] (v ∷ vs) h k e = absurd (cc)
same_words (w ∷ ws) [] h k e = absurd (cc)
same_words (w ∷ []) (v ∷ []) h k e =
    let s : w ++ [] ≡ v ++ [] = cc in
    let t = sym (append-nil w) ∙ (s ∙ append-nil v) in
    λ i. t i ∷ []
same_words (w ∷ []) (v ∷ x ∷ vs) h k e =
    let s : w ++ [] ≡ v ++ flat_map spaced (x ∷ vs) = cc in
    absurd (one_word w v vs x h.0 (sym (append-nil w) ∙ s))
same_words (w ∷ y ∷ ws) (v ∷ []) h k e =
    let s : w ++ flat_map spaced (y ∷ ws) ≡ v ++ [] = cc in
    absurd (one_word v w ws y k.0 (sym (s ∙ append-nil v)))
same_words (w ∷ y ∷ ws) (v ∷ x ∷ vs) h k e =
    let s : w ++ flat_map spaced (y ∷ ws) ≡ v ++ flat_map spaced (x ∷ vs) = cc in
    let split = same_split 32 w (y ++ flat_map spaced ws) v (x ++ flat_map spaced vs) h.0 k.0 s in
    let rest = same_words (y ∷ ws) (x ∷ vs) h.1 k.1 (ap (λ t. 32 ∷ t) split.1) in
    λ i. split.0 i ∷ rest i

ends_of : List (ℤ × ℤ) → List (List ℕ)
ends_of [] = []
ends_of (r ∷ rs) = signed_decimal r.0 ∷ signed_decimal r.1 ∷ ends_of rs

ends_told : (rs : List (ℤ × ℤ)) → flat_map range_words rs ≡ flat_map spaced (ends_of rs)
unfolding ends_of
ends_told [] = refl
ends_told (r ∷ rs) =
    append_assoc (spaced (signed_decimal r.0)) (spaced (signed_decimal r.1)) (flat_map range_words rs)
    ∙ ap (λ t. spaced (signed_decimal r.0) ++ (spaced (signed_decimal r.1) ++ t)) (ends_told rs)

ends_words : (rs : List (ℤ × ℤ)) → AreWords (ends_of rs)
unfolding ends_of
ends_words [] = tt
ends_words (r ∷ rs) = (signed_lacks 32 (omega arith) r.0, (signed_lacks 32 (omega arith) r.1, ends_words rs))

ranges_same : (rs ss : List (ℤ × ℤ)) → All IsRange rs → All IsRange ss → ends_of rs ≡ ends_of ss → rs ≡ ss
unfolding ends_of
ranges_same [] [] h k e = refl
ranges_same [] (s ∷ ss) h k e = absurd (cc)
ranges_same (r ∷ rs) [] h k e = absurd (cc)
ranges_same (r ∷ rs) (s ∷ ss) h k e =
    let low : signed_decimal r.0 ≡ signed_decimal s.0 = cc in
    let high : signed_decimal r.1 ≡ signed_decimal s.1 = cc in
    let tail : ends_of rs ≡ ends_of ss = cc in
    let a = h 0 r (omega arith) in
    let b = k 0 s (omega arith) in
    let lo = signed_decimal_injective r.0 s.0 (word_mag r.0 a.low) (word_mag s.0 b.low) low in
    let hi = signed_decimal_injective r.1 s.1 (word_mag r.1 a.high) (word_mag s.1 b.high) high in
    let rest = ranges_same rs ss (λ i d few. h (suc i) d (omega arith)) (λ i d few. k (suc i) d (omega arith)) tail in
    λ i. (lo i, hi i) ∷ rest i

-- ranges are told once
pub one_box_told : (rs ss : List (ℤ × ℤ)) → All IsRange rs → All IsRange ss → flat_map range_words rs ≡ flat_map range_words ss → rs ≡ ss
one_box_told rs ss h k e = ranges_same rs ss h k (same_words (ends_of rs) (ends_of ss) (ends_words rs) (ends_words ss) (sym (ends_told rs) ∙ (e ∙ ends_told ss)))

site_bytes : NamedSite → List ℕ
site_bytes s = s.proc ++ 35 ∷ decimal s.index

sites_of : List NamedSite → List (List ℕ)
sites_of [] = []
sites_of (s ∷ ss) = site_bytes s ∷ sites_of ss

sites_told : (ss : List NamedSite) → flat_map site_word ss ≡ flat_map spaced (sites_of ss)
unfolding sites_of site_bytes
sites_told [] = refl
sites_told (s ∷ ss) = ap (λ t. site_word s ++ t) (sites_told ss)

sites_words : (ss : List NamedSite) → All IsSite ss → AreWords (sites_of ss)
unfolding sites_of site_bytes
sites_words [] h = tt
sites_words (s ∷ ss) h =
    let a = h 0 s (omega arith) in (
      lacks-append 32 s.proc (35 ∷ decimal s.index) (name_lacks 32 refl s.proc a.named) (lacks-cons 32 35 (decimal s.index) (λ e. omega arith) (decimal_lacks 32 (omega arith) s.index)),
      sites_words ss (λ i d few. h (suc i) d (omega arith)),
    )

sites_same : (ss us : List NamedSite) → All IsSite ss → All IsSite us → sites_of ss ≡ sites_of us → ss ≡ us
unfolding sites_of site_bytes
sites_same [] [] h k e = refl
sites_same [] (u ∷ us) h k e = absurd (cc)
sites_same (s ∷ ss) [] h k e = absurd (cc)
sites_same (s ∷ ss) (u ∷ us) h k e =
    let first : s.proc ++ 35 ∷ decimal s.index ≡ u.proc ++ 35 ∷ decimal u.index = cc in
    let tail : sites_of ss ≡ sites_of us = cc in
    let a = h 0 s (omega arith) in
    let b = k 0 u (omega arith) in
    let split = same_split 35 s.proc (decimal s.index) u.proc (decimal u.index) (name_lacks 35 refl s.proc a.named) (name_lacks 35 refl u.proc b.named) first in
    let index = decimal_injective s.index u.index (omega (arith, a.small)) (omega (arith, b.small)) split.1 in
    let rest = sites_same ss us (λ i d few. h (suc i) d (omega arith)) (λ i d few. k (suc i) d (omega arith)) tail in
    λ i. record { proc = split.0 i; index = index i } ∷ rest i

-- sites are told once
pub one_left_told : (ss us : List NamedSite) → All IsSite ss → All IsSite us → flat_map site_word ss ≡ flat_map site_word us → ss ≡ us
one_left_told ss us h k e = sites_same ss us h k (same_words (sites_of ss) (sites_of us) (sites_words ss h) (sites_words us k) (sym (sites_told ss) ∙ (e ∙ sites_told us)))
