-- Things that follow each other, read one by one from their words.
use Rattle.std.proofs.Common.{◌≡◌, ◌⊎◌, inl, inr, ℕ, ◌+◌, ◌<◌, ◌≤◌, ◌^◌, List, [], ◌∷◌, ◌++◌, length, refl, sym, ap, ◌∙◌, subst, arith, append_assoc, length-append}
use Rattle.std.specs.List.{flat_map, Contains}
use Rattle.std.specs.Fmt.{decimal}
use Rattle.std.proofs.lemmas.List.{append-nil}
use Rattle.std.proofs.lemmas.List.Concat.{flat_map-append}
use Rattle.std.proofs.lemmas.List.Elements.{Contains-append_cases, Contains-push_cases, Contains-append_left, Contains-append_right, Contains-push}
use Rattle.vmv_proof_words.specs.Words.{Word}
use Rattle.vmv_proof_words.specs.Taking.{IsNaturalWord}
use Rattle.vmv_proof_words.proofs.Digits.{natural_once}
use Rattle.vmv_proof_line.specs.StateWords.{Climb, counted}
use Rattle.vmv_proof_line.proofs.Fields.{tails}

-- the last of them
abbrev pub last_of : {P A : Type 0} → (A → P) → P → List A → P
last_of at p [] = p
last_of at p (x ∷ xs) = last_of at (at x) xs

-- words tell one thing
abbrev pub IsOnce : {P A : Type 0} → (P → A → Type 0) → (A → List Word) → Type 0
IsOnce {P} {A} Next show = (p q : P) (x y : A) (us vs : List Word) → Next p x → Next q y → show x ++ us ≡ show y ++ vs → (x ≡ y) × (us ≡ vs)

-- what is left behind some that were read
pub record AreLeft {P A : Type 0} (Next : P → A → Type 0) (at : A → P) (show : A → List Word) (p : P) (read xs : List A) (words rest : List Word) : Type 0 where
  pub more : List A
  pub size : length xs ≡ length read + length more
  pub climb : Climb Next at (last_of at p read) more
  pub left : words ≡ flat_map show more ++ rest

pub are_left : {P A : Type 0} (Next : P → A → Type 0) (at : A → P) (show : A → List Word) → IsOnce Next show → (p : P) (read xs : List A) (words rest : List Word) → Climb Next at p read → Climb Next at p xs → length read ≤ length xs
    → flat_map show read ++ words ≡ flat_map show xs ++ rest → AreLeft Next at show p read xs words rest
are_left Next at show once p [] xs words rest c d n e = record { more = xs; size = omega arith; climb = d; left = e }
are_left Next at show once p (x ∷ read) [] words rest c d n e = absurd (omega (arith, n))
are_left Next at show once p (x ∷ read) (y ∷ xs) words rest c d n e =
    let both = once p p x y (flat_map show read ++ words) (flat_map show xs ++ rest) c.0 d.0
    (sym (append_assoc (show x) (flat_map show read) words) ∙ (e ∙ append_assoc (show y) (flat_map show xs) rest)) in
    let r = are_left Next at show once (at x) read xs words rest c.1 (subst (λ z. Climb Next at (at z) xs) (sym both.0) d.1) (omega (arith, n)) both.1 in
    record { more = r.more; size = omega (arith, r.size); climb = r.climb; left = r.left }

pub climb_more : {P A : Type 0} (Next : P → A → Type 0) (at : A → P) (p : P) (read : List A) (x : A) → Climb Next at p read → Next (last_of at p read) x → Climb Next at p (read ++ x ∷ [])
climb_more Next at p [] x c h = (h, tt)
climb_more Next at p (y ∷ read) x c h = (c.0, climb_more Next at (at y) read x c.1 h)

pub last_more : {P A : Type 0} (at : A → P) (p : P) (read : List A) (x : A) → last_of at p (read ++ x ∷ []) ≡ at x
last_more at p [] x = refl
last_more at p (y ∷ read) x = last_more at (at y) read x

-- so many are read, and these words are left
pub record AreRead {P A : Type 0} (Next : P → A → Type 0) (at : A → P) (show : A → List Word) (p : P) (first : List Word) (n : ℕ) (words : List Word) (last : P) (read : List A) : Type 0 where
  pub count : length read ≡ n
  pub place : first ≡ flat_map show read ++ words
  pub climb : Climb Next at p read
  pub latest : last ≡ last_of at p read

pub none_read : {P A : Type 0} (Next : P → A → Type 0) (at : A → P) (show : A → List Word) (p : P) (first : List Word) → AreRead Next at show p first 0 first p []
none_read Next at show p first = record { count = refl; place = refl; climb = tt; latest = refl }

pub one_more : {P A : Type 0} (Next : P → A → Type 0) (at : A → P) (show : A → List Word) (p : P) (first old new : List Word) (n : ℕ) (last : P) (read : List A) (x : A) → AreRead Next at show p first n old last read
    → Next last x → old ≡ show x ++ new → AreRead Next at show p first (n + 1) new (at x) (read ++ x ∷ [])
one_more Next at show p first old new n last read x r h e = record {
  count = omega (arith, r.count, length-append read (x ∷ []));
  place =
      r.place ∙ (ap (λ t. flat_map show read ++ t) e
      ∙ (sym (append_assoc (flat_map show read) (show x) new)
      ∙ ap (λ t. t ++ new) (ap (λ t. flat_map show read ++ t) (sym (append-nil (show x))) ∙ sym (flat_map-append show read (x ∷ [])))));
  climb = climb_more Next at p read x r.climb (subst (λ q. Next q x) r.latest h);
  latest = sym (last_more at p read x);
}

-- none comes next, where more are to come
pub no_next : {P A : Type 0} (Next : P → A → Type 0) (at : A → P) (show : A → List Word) → IsOnce Next show → (p : P) (first words : List Word) (n m : ℕ) (last : P) (read : List A) → AreRead Next at show p first n words last read
    → ((x : A) (rest : List Word) → Next last x → words ≡ show x ++ rest → ⊥) → n < m → (xs : List A) (rest : List Word) → Climb Next at p xs → length xs ≡ m → first ≡ flat_map show xs ++ rest → ⊥
no_next {P} {A} Next at show once p first words n m last read r none small xs rest c e f =
    let l = are_left Next at show once p read xs words rest r.climb c (omega (arith, r.count, small, e)) (sym r.place ∙ f) in
    by l.more l.size l.climb l.left
  where
    by : (more : List A) → length xs ≡ length read + length more → Climb Next at (last_of at p read) more → words ≡ flat_map show more ++ rest → ⊥
    by [] s d g = omega (arith, r.count, small, e, s)
    by (y ∷ ys) s d g = none y (flat_map show ys ++ rest) (subst (λ q. Next q y) (sym r.latest) d.0) (g ∙ append_assoc (show y) (flat_map show ys) rest)

-- what is left is so in one way
pub all_left : {P A : Type 0} (Next : P → A → Type 0) (at : A → P) (show : A → List Word) → IsOnce Next show → (p : P) (read xs : List A) (words rest : List Word) → Climb Next at p read → Climb Next at p xs → length read ≡ length xs
    → flat_map show read ++ words ≡ flat_map show xs ++ rest → words ≡ rest
all_left {P} {A} Next at show once p read xs words rest c d n e =
    let l = are_left Next at show once p read xs words rest c d (omega (arith, n)) e in
    by l.more l.size l.left
  where
    by : (more : List A) → length xs ≡ length read + length more → words ≡ flat_map show more ++ rest → words ≡ rest
    by [] s g = g
    by (y ∷ ys) s g = absurd (omega (arith, n, s))

-- the number in front
pub same_number : (old new rest : List Word) (w : Word) (n m : ℕ) → IsNaturalWord 64 n w → old ≡ w ∷ new → m < 2 ^ 64 → old ≡ decimal m ∷ rest → (m ≡ n) × (new ≡ rest)
same_number old new rest w n m h e small f =
    let both : w ∷ new ≡ decimal m ∷ rest = sym e ∙ f in
    let one : w ≡ decimal m = cc in
    (natural_once m n w (small, one) h, tails w (decimal m) new rest both)

-- their number and their words
pub whole : {A : Type 0} (show : A → List Word) (xs : List A) (begin : List Word) → begin ≡ counted show xs → begin ≡ counted show xs ++ []
whole show xs begin e = e ∙ sym (append-nil (counted show xs))

pub front : {A : Type 0} (show : A → List Word) (xs : List A) (begin first words : List Word) (w : Word) (count : ℕ) → w ≡ decimal count → length xs ≡ count → begin ≡ w ∷ first → first ≡ flat_map show xs ++ words → begin ≡ counted show xs ++ words
front show xs begin first words w count h n e f = e ∙ (ap (λ v. v ∷ first) (h ∙ ap decimal (sym n)) ∙ ap (λ t. decimal (length xs) ∷ t) f)

-- there aren't many, where each is greater than the one before
pub few : {A : Type 0} (Next : ℕ → A → Type 0) (at : A → ℕ) (top : ℕ) → ((p : ℕ) (x : A) → Next p x → (p < at x) × (at x ≤ top)) → (p : ℕ) (xs : List A) → p ≤ top → Climb Next at p xs → p + length xs ≤ top
few Next at top h p [] small c = omega (arith, small)
few Next at top h p (x ∷ xs) small c = let one = h p x c.0 in omega (arith, one.0, few Next at top h (at x) xs one.1 c.1)

pub cons_cases : {A : Type 0} (y : A) (ys : List A) (x : A) → Contains (y ∷ ys) x → (y ≡ x) ⊎ Contains ys x
cons_cases {A} y ys x h = by (Contains-append_cases (y ∷ []) ys x h)
  where
    one : Contains [] x ⊎ (y ≡ x) → (y ≡ x) ⊎ Contains ys x
    one (inl k) = absurd (omega (arith, k.1))
    one (inr e) = inl e

    by : Contains (y ∷ []) x ⊎ Contains ys x → (y ≡ x) ⊎ Contains ys x
    by (inl k) = one (Contains-push_cases [] y x k)
    by (inr k) = inr k

pub has_head : {A : Type 0} (y : A) (ys : List A) → Contains (y ∷ ys) y
has_head y ys = Contains-append_left (y ∷ []) ys y (Contains-push [] y)

pub has_tail : {A : Type 0} (y : A) (ys : List A) (x : A) → Contains ys x → Contains (y ∷ ys) x
has_tail y ys x h = Contains-append_right (y ∷ []) ys x h

-- each of them stands behind a place, which is not before the start
pub climb_has : {A : Type 0} (Next : ℕ → A → Type 0) (at : A → ℕ) → ((p : ℕ) (x : A) → Next p x → p < at x) → (p : ℕ) (xs : List A) (x : A) → Climb Next at p xs → Contains xs x → (q : ℕ) × (p ≤ q) × Next q x
climb_has Next at h p [] x c k = absurd (omega (arith, k.1))
climb_has {A} Next at h p (y ∷ ys) x c k = by (cons_cases y ys x k) (climb_has Next at h (at y) ys x c.1)
  where
    by : (y ≡ x) ⊎ Contains ys x → (Contains ys x → (q : ℕ) × (at y ≤ q) × Next q x) → (q : ℕ) × (p ≤ q) × Next q x
    by (inl e) later = (p, omega arith, subst (λ z. Next p z) e c.0)
    by (inr m) later = let r = later m in (r.0, omega (arith, h p y c.0, r.1), r.2)

start_last : {A : Type 0} (Next : ℕ → A → Type 0) (at : A → ℕ) → ((p : ℕ) (x : A) → Next p x → p < at x) → (p : ℕ) (xs : List A) → Climb Next at p xs → p ≤ last_of at p xs
start_last Next at h p [] c = omega arith
start_last Next at h p (y ∷ ys) c = omega (arith, h p y c.0, start_last Next at h (at y) ys c.1)

-- none is behind the last
pub up_to_last : {A : Type 0} (Next : ℕ → A → Type 0) (at : A → ℕ) → ((p : ℕ) (x : A) → Next p x → p < at x) → (p : ℕ) (xs : List A) (x : A) → Climb Next at p xs → Contains xs x → at x ≤ last_of at p xs
up_to_last Next at h p [] x c k = absurd (omega (arith, k.1))
up_to_last {A} Next at h p (y ∷ ys) x c k = by (cons_cases y ys x k) (up_to_last Next at h (at y) ys x c.1)
  where
    by : (y ≡ x) ⊎ Contains ys x → (Contains ys x → at x ≤ last_of at (at y) ys) → at x ≤ last_of at (at y) ys
    by (inl e) later = omega (arith, ap at e, start_last Next at h (at y) ys c.1)
    by (inr m) later = later m
