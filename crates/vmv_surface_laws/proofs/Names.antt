-- Temporaries of other numbers have other names, and no plain name is one of a temporary.
use Rattle.std.proofs.Common.{◌≡◌, ℕ, zero, suc, ◌+◌, ◌*◌, ◌-◌, ◌/◌, ◌%◌, ◌<◌, ◌==◌, Bool, true, false, List, [], ◌∷◌, take, drop, refl, sym, ap, arith, ◌∙◌}
use Rattle.std.specs.Prelude.{if◌then◌else◌}
use Rattle.std.specs.Fmt.{digits_onto, digit_glyph}
use Rattle.std.proofs.lemmas.Bool.{eqb-true}
use Rattle.vmv_tree.specs.declared.name.Name.{Name}
use Rattle.vmv_surface.specs.Surface.{IsPlain}
use Rattle.vmv_surface.specs.Temporaries.{numeral, temporary}

-- the number that these digits add behind those read so far
abbrev read_on : ℕ → List ℕ → ℕ
read_on n [] = n
read_on n (c ∷ cs) = read_on (n * 10 + (c - 48)) cs

glyph : (d : ℕ) → d < 10 → digit_glyph false d - 48 ≡ d
glyph d small = grind arith

module _ (n : ℕ) (acc : List ℕ) (more : List ℕ) where
  here : (m : ℕ) → m * 10 + n % 10 ≡ n → read_on m (digit_glyph false (n % 10) ∷ acc) ≡ read_on n acc
  here m is = ap (λ x. read_on x acc) {x = m * 10 + (digit_glyph false (n % 10) - 48)} {y = n} (omega (arith, glyph (n % 10) (omega arith), is))

  by_case : (b : Bool) → (n / 10 == 0) ≡ b → ((n / 10 == 0) ≡ false → read_on 0 more ≡ read_on (n / 10) (digit_glyph false (n % 10) ∷ acc)) → read_on 0 (if b then digit_glyph false (n % 10) ∷ acc else more) ≡ read_on n acc
  by_case true e next = here 0 (omega (arith, eqb-true (n / 10) 0 e))
  by_case false e next = next e ∙ here (n / 10) (omega arith)

not_last : (n : ℕ) → (n / 10 == 0) ≡ false → 0 < n
not_last zero e = absurd (cc)
not_last (suc n) e = omega arith

onto_read : (fuel n : ℕ) (acc : List ℕ) → n < fuel → read_on 0 (digits_onto fuel 10 false n acc) ≡ read_on n acc
onto_read zero n acc less = absurd (omega (arith, less))
onto_read (suc fuel) n acc less =
    by_case n acc (digits_onto fuel 10 false (n / 10) (digit_glyph false (n % 10) ∷ acc)) (n / 10 == 0) refl
    (λ e. onto_read fuel (n / 10) (digit_glyph false (n % 10) ∷ acc) (omega (arith, less, not_last n e)))

numeral_once : (j k : ℕ) → numeral j ≡ numeral k → j ≡ k
numeral_once j k e = sym (onto_read (j + 1) j [] (omega arith)) ∙ ap (read_on 0) e ∙ onto_read (k + 1) k [] (omega arith)

pub temporary_once : (j k : ℕ) → temporary j ≡ temporary k → j ≡ k
temporary_once j k e = numeral_once j k (ap (drop 2) e)

pub plain_other : (x : Name) (k : ℕ) → IsPlain x → x ≡ temporary k → ⊥
plain_other x k plain e = plain (ap (take 2) e)
