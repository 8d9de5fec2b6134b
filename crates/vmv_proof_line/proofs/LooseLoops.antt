-- Bounds and marks of any size are read one by one.
use Rattle.std.proofs.Common.{◌≡◌, ℕ, ◌<◌, ◌≤◌, ◌^◌, List, [], ◌∷◌, ◌++◌, length, refl, sym, ap, ◌∙◌, subst, arith, length-append}
use Rattle.std.specs.List.{flat_map}
use Rattle.std.specs.Fmt.{decimal}
use Rattle.vmv_proof_words.specs.Words.{Word}
use Rattle.vmv_proof_words.specs.Taking.{IsNaturalWord}
use Rattle.vmv_proof_text.specs.Loose.{Digits, SpelledBound}
use Rattle.vmv_proof_line.specs.StateWords.{Climb, counted}
use Rattle.vmv_proof_line.specs.LooseWords.{Follows, FollowsMark, NextBound, NextMark, spelled_triple, spelled_mark}
use Rattle.vmv_proof_line.proofs.Fields.{tails}
use Rattle.vmv_proof_line.proofs.Climbing.{whole, IsOnce, AreRead, no_next, same_number, all_left}

-- another number behind the first
pub second_number : (old mid : List Word) (u : Word) → old ≡ u ∷ mid → (a : Word) (rest : List Word) → old ≡ a ∷ rest → (u ≡ a) × (mid ≡ rest)
second_number old mid u e a rest f =
    let both : u ∷ mid ≡ a ∷ rest = sym e ∙ f in
    let one : u ≡ a = cc in
    (one, tails u a mid rest both)

pub no_follow : (p : Digits × Digits) (old s t : List Word) (u v : Word) → old ≡ u ∷ s → s ≡ v ∷ t → (Follows p (u, v) → ⊥) → (b : SpelledBound) (rest : List Word) → NextBound p b → old ≡ spelled_triple b ++ rest → ⊥
no_follow p old s t u v e f none b rest h g =
    let one = second_number old s u e b.0 (b.1 ∷ b.2 ∷ rest) g in
    let two = second_number s t v f b.1 (b.2 ∷ rest) one.1 in
    none (subst (λ w. Follows p (u, w)) (sym two.0) (subst (λ w. Follows p (w, b.1)) (sym one.0) h.1))

pub no_follow_mark : (last : Digits) (old s : List Word) (u : Word) → old ≡ u ∷ s → (FollowsMark last u → ⊥) → (m : Word) (rest : List Word) → NextMark last m → old ≡ m ∷ rest → ⊥
no_follow_mark last old s u e none m rest h g =
    let one = second_number old s u e m rest g in
    none (subst (λ w. FollowsMark last w) (sym one.0) h.1)

pub triple_once : IsOnce NextBound spelled_triple
triple_once p q x y us vs h k e =
    let one : x.0 ≡ y.0 = cc in
    let two : x.1 ≡ y.1 = cc in
    let three : x.2 ≡ y.2 = cc in
    let rest : us ≡ vs = cc in
    (λ i. (one i, two i, three i), rest)

pub mark_once : IsOnce NextMark spelled_mark
mark_once p q x y us vs h k e =
    let one : x ≡ y = cc in
    let rest : us ≡ vs = cc in
    (one, rest)

words_many : {A : Type 0} (show : A → List Word) → ((x : A) → 1 ≤ length (show x)) → (xs : List A) (rest : List Word) → length xs ≤ length (flat_map show xs ++ rest)
words_many show h [] rest = omega arith
words_many show h (x ∷ xs) rest =
    omega (arith, h x, words_many show h xs rest, length-append (show x ++ flat_map show xs) rest, length-append (show x) (flat_map show xs), length-append (flat_map show xs) rest)

-- the number of things is below that of words
pub fewer : {A : Type 0} (show : A → List Word) → ((x : A) → 1 ≤ length (show x)) → (begin : List Word) → length begin < 2 ^ 64 → (xs : List A) (rest : List Word) → begin ≡ counted show xs ++ rest → length xs < 2 ^ 64
fewer show h begin small xs rest e = omega (arith, small, ap length e, words_many show h xs rest)

pub triple_some : (b : SpelledBound) → 1 ≤ length (spelled_triple b)
triple_some b = omega arith

pub mark_some : (m : Digits) → 1 ≤ length (spelled_mark m)
mark_some m = omega arith

-- none comes next, where more are to come
pub stop : {P A : Type 0} (Next : P → A → Type 0) (at : A → P) (show : A → List Word) → IsOnce Next show → ((x : A) → 1 ≤ length (show x)) → (p : P) (begin first words : List Word) (w : Word) (n count : ℕ) (last : P) (read : List A)
    → length begin < 2 ^ 64 → IsNaturalWord 64 count w → begin ≡ w ∷ first → AreRead Next at show p first n words last read → n < count → ((x : A) (rest : List Word) → Next last x → words ≡ show x ++ rest → ⊥)
    → (xs : List A) (rest : List Word) → Climb Next at p xs → begin ≡ counted show xs ++ rest → ⊥
stop Next at show once some p begin first words w n count last read small h e r less none xs rest c f =
    let s = same_number begin first (flat_map show xs ++ rest) w count (length xs) h e (fewer show some begin small xs rest f) f in
    no_next Next at show once p first words n count last read r none less xs rest c s.0 s.1

-- words are left behind them
pub go_on : {P A : Type 0} (Next : P → A → Type 0) (at : A → P) (show : A → List Word) → IsOnce Next show → ((x : A) → 1 ≤ length (show x)) → (p : P) (begin first words : List Word) (w : Word) (n count : ℕ) (last : P) (read : List A)
    → length begin < 2 ^ 64 → IsNaturalWord 64 count w → begin ≡ w ∷ first → AreRead Next at show p first n words last read → n ≡ count
    → (xs : List A) → Climb Next at p xs → begin ≡ counted show xs → words ≡ []
go_on Next at show once some p begin first words w n count last read small h e r s xs c f =
    let g = whole show xs begin f in
    let t = same_number begin first (flat_map show xs ++ []) w count (length xs) h e (fewer show some begin small xs [] g) g in
    all_left Next at show once p read xs words [] r.climb c (r.count ∙ (s ∙ sym t.0)) (sym r.place ∙ t.1)

-- what is left behind things that were taken
pub left_behind : {P A : Type 0} (Next : P → A → Type 0) (at : A → P) (show : A → List Word) → IsOnce Next show → ((x : A) → 1 ≤ length (show x)) → (p : P) (begin words rest : List Word) (read xs : List A) → length begin < 2 ^ 64
    → Climb Next at p read → begin ≡ counted show read ++ words → Climb Next at p xs → begin ≡ counted show xs ++ rest → words ≡ rest
left_behind Next at show once some p begin words rest read xs small c e d f =
    let t = same_number begin (flat_map show read ++ words) (flat_map show xs ++ rest) (decimal (length read)) (length read) (length xs) (fewer show some begin small read words e, refl) e (fewer show some begin small xs rest f) f in
    all_left Next at show once p read xs words rest c d (sym t.0) t.1
