-- A list of bytes that is cut at the first byte of a kind.
use Rattle.std.proofs.Common.{◌≡◌, ℕ, zero, suc, ◌+◌, ◌<◌, ◌≤◌, List, [], ◌∷◌, ◌++◌, length, take, drop, get_or, refl, sym, ap, ◌∙◌, arith, add-one, subst}
use Rattle.std.proofs.lemmas.Bool.{eq-eqb, ne_eqb}
use Rattle.std.proofs.lemmas.List.{append-nil}
use Rattle.std.proofs.Math.Seq.{drop-length}
use Rattle.vmv_routes.specs.Paths.{before, behind}

-- the first bytes are of another kind
pub record HasPassed (stop : ℕ) (bytes : List ℕ) (i : ℕ) : Type 0 where
  pub within : i ≤ length bytes
  pub front : take i bytes ++ before stop (drop i bytes) ≡ before stop bytes
  pub rest : behind stop (drop i bytes) ≡ behind stop bytes

other-front : (stop : ℕ) (bytes : List ℕ) (i : ℕ) → i < length bytes → (get_or bytes i 0 ≡ stop → ⊥)
    → take (suc i) bytes ++ before stop (drop (suc i) bytes) ≡ take i bytes ++ before stop (drop i bytes)
other-front stop [] i h ne = absurd (omega arith)
other-front stop (b ∷ bs) zero h ne =
    let e = ne_eqb b stop ne in
    rw e refl
other-front stop (b ∷ bs) (suc i) h ne = ap (λ l. b ∷ l) (other-front stop bs i (omega arith) ne)

other-rest : (stop : ℕ) (bytes : List ℕ) (i : ℕ) → i < length bytes → (get_or bytes i 0 ≡ stop → ⊥)
    → behind stop (drop (suc i) bytes) ≡ behind stop (drop i bytes)
other-rest stop [] i h ne = absurd (omega arith)
other-rest stop (b ∷ bs) zero h ne =
    let e = ne_eqb b stop ne in
    rw e refl
other-rest stop (b ∷ bs) (suc i) h ne = other-rest stop bs i (omega arith) ne

-- at the start, and behind one more byte of another kind
pub passed_none : (stop : ℕ) (bytes : List ℕ) → HasPassed stop bytes 0
passed_none stop bytes = record { within = omega arith; front = refl; rest = refl }

pub passed_more : (stop : ℕ) (bytes : List ℕ) (i : ℕ) → i < length bytes → (get_or bytes i 0 ≡ stop → ⊥) → HasPassed stop bytes i → HasPassed stop bytes (i + 1)
passed_more stop bytes i h ne passed =
    let P : ℕ → Type 0 = λ k. HasPassed stop bytes k in
    subst P (sym (add-one i)) (record {
      within = omega arith;
      front = other-front stop bytes i h ne ∙ passed.front;
      rest = other-rest stop bytes i h ne ∙ passed.rest;
    })

found-front : (stop : ℕ) (bytes : List ℕ) (i : ℕ) → i < length bytes → get_or bytes i 0 ≡ stop → take i bytes ++ before stop (drop i bytes) ≡ take i bytes
found-front stop [] i h e = absurd (omega arith)
found-front stop (b ∷ bs) zero h e =
    let same = eq-eqb b stop e in
    rw same refl
found-front stop (b ∷ bs) (suc i) h e = ap (λ l. b ∷ l) (found-front stop bs i (omega arith) e)

found-rest : (stop : ℕ) (bytes : List ℕ) (i : ℕ) → i < length bytes → get_or bytes i 0 ≡ stop → behind stop (drop i bytes) ≡ drop (suc i) bytes
found-rest stop [] i h e = absurd (omega arith)
found-rest stop (b ∷ bs) zero h e =
    let same = eq-eqb b stop e in
    rw same refl
found-rest stop (b ∷ bs) (suc i) h e = found-rest stop bs i (omega arith) e

-- at the first byte of the kind
pub found_before : (stop : ℕ) (bytes : List ℕ) (i : ℕ) → i < length bytes → get_or bytes i 0 ≡ stop → HasPassed stop bytes i → take i bytes ≡ before stop bytes
found_before stop bytes i h e passed = sym (found-front stop bytes i h e) ∙ passed.front

pub found_behind : (stop : ℕ) (bytes : List ℕ) (i : ℕ) → i < length bytes → get_or bytes i 0 ≡ stop → HasPassed stop bytes i → drop (i + 1) bytes ≡ behind stop bytes
found_behind stop bytes i h e passed = ap (λ k. drop k bytes) (add-one i) ∙ sym (found-rest stop bytes i h e) ∙ passed.rest

-- where there is none
pub none_before : (stop : ℕ) (bytes : List ℕ) (i : ℕ) → length bytes ≤ i → HasPassed stop bytes i → take (length bytes) bytes ≡ before stop bytes
none_before stop bytes i h passed =
    let same : i ≡ length bytes = omega (arith, passed.within) in
    let P : ℕ → Type 0 = λ k. take k bytes ++ before stop (drop k bytes) ≡ before stop bytes in
    let whole = subst P same passed.front in
    sym (append-nil (take (length bytes) bytes)) ∙ sym (ap (λ l. take (length bytes) bytes ++ before stop l) (drop-length bytes)) ∙ whole

drop-past : (bytes : List ℕ) → drop (suc (length bytes)) bytes ≡ []
drop-past [] = refl
drop-past (b ∷ bs) = drop-past bs

pub none_behind : (stop : ℕ) (bytes : List ℕ) (i : ℕ) → length bytes ≤ i → HasPassed stop bytes i → drop (length bytes + 1) bytes ≡ behind stop bytes
none_behind stop bytes i h passed =
    let same : i ≡ length bytes = omega (arith, passed.within) in
    let P : ℕ → Type 0 = λ k. behind stop (drop k bytes) ≡ behind stop bytes in
    let whole = subst P same passed.rest in
    ap (λ k. drop k bytes) (add-one (length bytes)) ∙ drop-past bytes ∙ sym (ap (behind stop) (drop-length bytes)) ∙ whole
