-- The ends of the names that an entry reaches, one name after another.
use Rattle.std.proofs.Common.{◌≡◌, ◌⊎◌, inl, inr, ⊎_elim, ◌↔◌, ℕ, ℤ, pos, negsuc, ◌^◌, ◌-◌, ◌+◌, ◌<◌, ◌≤◌, List, [], ◌∷◌, ◌++◌, length, drop, get_or, sym, subst, refl}
use Rattle.std.specs.List.{Contains}
use Rattle.std.proofs.lemmas.List.Elements.{Contains-append_left, Contains-append_right, Contains-append_cases}
use Rattle.vmv_tree.specs.declared.ends.NameEnds.{NameEnds}
use Rattle.vmv_tree.specs.Tree.{Item}
use Rattle.vmv_cert.specs.Thresholds.{ReachesOutside, IsEndOf, IsSeed}
use Rattle.vmv_thresholds.specs.Collect.{IsNumberOf}
use Rattle.vmv_thresholds.proofs.Lists.{none_in, first_or_further, first_in, further_in, drop_at, drop_end}

-- these seeds, with the ends from the i-th name on, are all
abbrev pub EndsFrom : List Item → ℕ → List NameEnds → List ℤ → ℕ → List ℤ → Type 0
EndsFrom program proc ends first i seeds = (c : ℤ) → (Contains seeds c ⊎ IsEndOf program proc (drop i ends) c) ↔ (Contains first c ⊎ IsEndOf program proc ends c)

pub ends_start : (program : List Item) (proc : ℕ) (ends : List NameEnds) (first : List ℤ) → EndsFrom program proc ends first 0 first
ends_start program proc ends first c = (λ h. h, λ h. h)

-- the ends of one name, and of the others
one_more : (program : List Item) (proc : ℕ) (e : NameEnds) (rest : List NameEnds) (c : ℤ) →
    IsEndOf program proc (e ∷ rest) c ↔ ((ReachesOutside program proc e.name × Contains e.ends c) ⊎ IsEndOf program proc rest c)
one_more program proc e rest c = (
  λ (f, there, reached, held). ⊎_elim
      (λ (same : e ≡ f). inl (subst (λ (g : NameEnds). ReachesOutside program proc g.name × Contains g.ends c) (sym same) (reached, held)))
      (λ (further : Contains rest f). inr (f, further, reached, held))
      (first_or_further e rest f there),
  λ h. ⊎_elim (λ (g : ReachesOutside program proc e.name × Contains e.ends c). (e, first_in e rest e refl, g.0, g.1))
      (λ (g : IsEndOf program proc rest c). (g.0, further_in e rest g.0 g.1, g.2, g.3)) h,
)

from_one : (program : List Item) (proc : ℕ) (ends : List NameEnds) (first : List ℤ) (i : ℕ) (seeds : List ℤ) (e : NameEnds) → i < length ends → e ≡ get_or ends i e →
    EndsFrom program proc ends first i seeds → (c : ℤ) → (Contains seeds c ⊎ IsEndOf program proc (e ∷ drop (i + 1) ends) c) ↔ (Contains first c ⊎ IsEndOf program proc ends c)
from_one program proc ends first i seeds e h is old c =
    subst (λ (l : List NameEnds). (Contains seeds c ⊎ IsEndOf program proc l c) ↔ (Contains first c ⊎ IsEndOf program proc ends c)) (drop_at ends i e h is) (old c)

pub ends_more : (program : List Item) (proc : ℕ) (ends : List NameEnds) (first : List ℤ) (i : ℕ) (seeds more : List ℤ) (e : NameEnds) → i < length ends → e ≡ get_or ends i e →
    EndsFrom program proc ends first i seeds → ((c : ℤ) → Contains more c ↔ (Contains seeds c ⊎ (ReachesOutside program proc e.name × Contains e.ends c))) →
    EndsFrom program proc ends first (i + 1) more
ends_more program proc ends first i seeds more e h is old added c =
    let all = from_one program proc ends first i seeds e h is old c in
    let split = one_more program proc e (drop (i + 1) ends) c in (
      λ g. all.0
          (⊎_elim
          (λ (k : Contains more c).
          ⊎_elim (λ (l : Contains seeds c). inl l) (λ (l : ReachesOutside program proc e.name × Contains e.ends c). inr (split.1 (inl l))) ((added c).0 k))
          (λ (k : IsEndOf program proc (drop (i + 1) ends) c). inr (split.1 (inr k)))
          g),
      λ g. ⊎_elim (λ (k : Contains seeds c). inl ((added c).1 (inl k)))
          (λ (k : IsEndOf program proc (e ∷ drop (i + 1) ends) c).
          ⊎_elim (λ (l : ReachesOutside program proc e.name × Contains e.ends c). inl ((added c).1 (inr l))) (λ (l : IsEndOf program proc (drop (i + 1) ends) c). inr l) (split.0 k))
          (all.1 g),
    )

pub ends_all : (program : List Item) (proc : ℕ) (ends : List NameEnds) (first : List ℤ) (i : ℕ) (seeds : List ℤ) → length ends ≤ i → EndsFrom program proc ends first i seeds →
    (c : ℤ) → Contains seeds c ↔ (Contains first c ⊎ IsEndOf program proc ends c)
ends_all program proc ends first i seeds h old c =
    let all : (Contains seeds c ⊎ IsEndOf program proc [] c) ↔ (Contains first c ⊎ IsEndOf program proc ends c) =
    subst (λ (l : List NameEnds). (Contains seeds c ⊎ IsEndOf program proc l c) ↔ (Contains first c ⊎ IsEndOf program proc ends c)) (drop_end ends i h) (old c) in (
      λ g. all.0 (inl g),
      λ g. ⊎_elim (λ (k : Contains seeds c). k) (λ (k : IsEndOf program proc [] c). absurd (none_in k.0 k.1)) (all.1 g),
    )

-- the ends of one name are added

pub none_added : (seeds : List ℤ) (R : Type 0) (own : List ℤ) → (R → ⊥) → (c : ℤ) → Contains seeds c ↔ (Contains seeds c ⊎ (R × Contains own c))
none_added seeds R own none c = (λ h. inl h, λ h. ⊎_elim (λ (g : Contains seeds c). g) (λ (g : R × Contains own c). absurd (none g.0)) h)

pub all_added : (seeds : List ℤ) (R : Type 0) (own : List ℤ) → R → (c : ℤ) → Contains (seeds ++ own) c ↔ (Contains seeds c ⊎ (R × Contains own c))
all_added seeds R own there c = (
  λ h. ⊎_elim (λ (g : Contains seeds c). inl g) (λ (g : Contains own c). inr (there, g)) (Contains-append_cases seeds own c h),
  λ h. ⊎_elim (λ (g : Contains seeds c). Contains-append_left seeds own c g) (λ (g : R × Contains own c). Contains-append_right seeds own c g.1) h,
)

-- the numbers, the ends and those that every entry has are the seeds
pub seeds_told : (program : List Item) (proc : ℕ) (ends : List NameEnds) (numbers seeds : List ℤ) → ((c : ℤ) → Contains numbers c ↔ IsNumberOf program proc c) →
    ((c : ℤ) → Contains seeds c ↔ (Contains numbers c ⊎ IsEndOf program proc ends c)) →
    (c : ℤ) → Contains (seeds ++ negsuc (2 ^ 63 - 1) ∷ pos (2 ^ 63 - 1) ∷ pos 0 ∷ pos 1 ∷ []) c ↔ IsSeed program proc ends c
seeds_told program proc ends numbers seeds own more c =
    let fixed : List ℤ = negsuc (2 ^ 63 - 1) ∷ pos (2 ^ 63 - 1) ∷ pos 0 ∷ pos 1 ∷ [] in (
      λ h. ⊎_elim
          (λ (g : Contains seeds c). ⊎_elim (λ (k : Contains numbers c). inl ((own c).0 k)) (λ (k : IsEndOf program proc ends c). inr (inl k)) ((more c).0 g))
          (λ (g : Contains fixed c). inr (inr g))
          (Contains-append_cases seeds fixed c h),
      λ h. ⊎_elim (λ (g : IsNumberOf program proc c). Contains-append_left seeds fixed c ((more c).1 (inl ((own c).1 g))))
          (λ (g : IsEndOf program proc ends c ⊎ Contains fixed c).
          ⊎_elim (λ (k : IsEndOf program proc ends c). Contains-append_left seeds fixed c ((more c).1 (inr k))) (λ (k : Contains fixed c). Contains-append_right seeds fixed c k) g)
          h,
    )
