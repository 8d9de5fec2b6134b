-- Names are compared by their bytes.
use Rattle.std.proofs.Common.{◌≡◌, ℕ, ◌-◌, Bool, true, false, ◌&&◌, List, ◌++◌, length, take, replicate, refl, sym, ap, ◌∙◌}
use Rattle.std.proofs.Math.Seq.{take-append_seam}
use Rattle.std.proofs.lemmas.Bool.{eqb-true, eq-eqb}
use Rattle.std.proofs.lemmas.Slice.Eq.{bytes_eq-Decides}
use Rattle.vmv_tree.specs.declared.name.Name.{Name}
use Rattle.vmv_tree.specs.contracts.name.NamePartialEq.TheImpl.{eq-value}

-- the test that a table of names makes
abbrev pub name_eq : Name → Name → Bool
name_eq a b = (eq-value).it a b

both : (x y : Bool) → (x && y) ≡ true → (x ≡ true) × (y ≡ true)
both true y h = (refl, h)
both false y h = absurd (cc)

all_true : (x y : Bool) → x ≡ true → y ≡ true → (x && y) ≡ true
all_true true y h k = k
all_true false y h k = absurd (cc)

filled : List ℕ → List ℕ
filled a = a ++ replicate (64 - length a) 0

front : (a : List ℕ) → a ≡ take (length a) (filled a)
unfolding filled
front a = sym (take-append_seam a (replicate (64 - length a) 0))

pub name_eq-same : (a b : Name) → name_eq a b ≡ true → a ≡ b
unfolding filled
name_eq-same a b h =
    let parts = both _ _ h in
    let bytes : filled a ≡ filled b = (bytes_eq-Decides (filled a) (filled b)).0 parts.0 in
    let long : length a ≡ length b = eqb-true (length a) (length b) parts.1 in
    front a ∙ ((λ i. take (long i) (bytes i)) ∙ sym (front b))

pub name_eq-refl : (a : Name) → name_eq a a ≡ true
unfolding filled
name_eq-refl a = all_true _ _ ((bytes_eq-Decides (filled a) (filled a)).1 refl) (eq-eqb (length a) (length a) refl)
