-- The same numbers, as tests tell them and as elements.
use Rattle.std.proofs.Common.{◌≡◌, ◌↔◌, ℤ, true, List, sym, ◌∙◌}
use Rattle.std.specs.List.{Contains}
use Rattle.std.proofs.lemmas.Cmp.{int_eq_equiv}
use Rattle.std.proofs.lemmas.Bool.Decides.{Decides-int_eq}
use Rattle.std.proofs.lemmas.Map.Views.{list_any-from_Contains, Contains-from_any}
use Rattle.vmv_valid.proofs.Distinct as tests
use Rattle.vmv_valid.proofs.Distinct.{holds}
use Rattle.vmv_valid.specs.Same.{HaveSame}

-- a test finds the elements of a list
pub held : (xs : List ℤ) (n : ℤ) → (holds n xs ≡ true) ↔ Contains xs n
held xs n = (Contains-from_any (λ x y. (Decides-int_eq x y).0) n xs, list_any-from_Contains int_eq_equiv n xs)

pub same_elements : (xs ys : List ℤ) → tests.HaveSame xs ys → HaveSame xs ys
same_elements xs ys same n = (
  λ h. (held ys n).0 (sym (same n) ∙ (held xs n).1 h),
  λ h. (held xs n).0 (same n ∙ (held ys n).1 h),
)
