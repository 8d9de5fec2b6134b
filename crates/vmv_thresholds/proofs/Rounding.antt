-- What thresholds hold.
use Rattle.std.proofs.Common.{◌≡◌, ◌⊎◌, inl, inr, ⊎_elim, ◌↔◌, ℕ, ◌-◌, ◌^◌, ◌<◌, ◌≤◌, ℤ, pos, negsuc, ◌<ℤ◌, ◌≤ℤ◌, List, [], ◌∷◌, get_or, refl, sym, ap, subst, arith, ◌∙◌}
use Rattle.std.specs.List.{AllPairs, Contains}
use Rattle.std.proofs.lemmas.Int.{ints}
use Rattle.std.proofs.lemmas.List.Elements.{Contains-append_left, Contains-append_right, Contains-append_cases}
use Rattle.vmv_tree.specs.declared.ends.NameEnds.{NameEnds}
use Rattle.vmv_tree.specs.Tree.{Item}
use Rattle.vmv_zone.specs.Round.{AreSorted}
use Rattle.vmv_cert.specs.Thresholds.{IsSeed, IsThreshold, around}
use Rattle.vmv_thresholds.specs.Thresholds.{AreThresholds}
use Rattle.vmv_thresholds.specs.Collect.{around_all}
use Rattle.vmv_thresholds.proofs.Lists.{none_in, first_or_further, first_in, further_in}

-- what stands around one of the seeds
pub around_some : (seeds : List ℤ) (t : ℤ) → Contains (around_all seeds) t ↔ ((c : ℤ) × Contains seeds c × Contains (around c) t)
around_some [] t = (λ h. absurd (none_in t h), λ h. absurd (none_in h.0 h.1))
around_some (c ∷ seeds) t =
    let more = around_some seeds t in (
      λ h. ⊎_elim (λ (g : Contains (around c) t). (c, first_in c seeds c refl, g))
          (λ (g : Contains (around_all seeds) t). let m = more.0 g in (m.0, further_in c seeds m.0 m.1, m.2))
          (Contains-append_cases (around c) (around_all seeds) t h),
      λ h. ⊎_elim (λ (same : c ≡ h.0). Contains-append_left (around c) (around_all seeds) t (subst (λ (d : ℤ). Contains (around d) t) (sym same) h.2))
          (λ (further : Contains seeds h.0). Contains-append_right (around c) (around_all seeds) t (more.1 (h.0, further, h.2)))
          (first_or_further c seeds h.0 h.1),
    )

pub thresholds_told : (program : List Item) (proc : ℕ) (ends : List NameEnds) (seeds : List ℤ) → ((c : ℤ) → Contains seeds c ↔ IsSeed program proc ends c) →
    (t : ℤ) → Contains (pos (2 ^ 64 - 1) ∷ around_all seeds) t ↔ IsThreshold program proc ends t
thresholds_told program proc ends seeds told t =
    let some = around_some seeds t in (
      λ h. ⊎_elim (λ (same : pos (2 ^ 64 - 1) ≡ t). inl (sym same))
          (λ (g : Contains (around_all seeds) t). let m = some.0 g in inr (m.0, (told m.0).0 m.1, m.2))
          (first_or_further (pos (2 ^ 64 - 1)) (around_all seeds) t h),
      λ h. ⊎_elim (λ (same : t ≡ pos (2 ^ 64 - 1)). first_in (pos (2 ^ 64 - 1)) (around_all seeds) t (sym same))
          (λ (g : (c : ℤ) × IsSeed program proc ends c × Contains (around c) t). further_in (pos (2 ^ 64 - 1)) (around_all seeds) t (some.1 (g.0, (told g.0).1 g.1, g.2)))
          h,
    )

le_same : (x : ℤ) → x ≤ℤ x
le_same x = grind (arith, ints)

le_less : (x y : ℤ) → x <ℤ y → x ≤ℤ y
le_less x y h = grind (arith, ints)

same_or_before : (i j : ℕ) → i ≤ j → (i ≡ j) ⊎ (i < j)
same_or_before i j h = grind arith

pub sorted_rising : (ts : List ℤ) → AllPairs (λ a b. a <ℤ b) ts → AreSorted ts
sorted_rising ts up i j d h within =
    ⊎_elim (λ (same : i ≡ j). subst (λ (k : ℕ). get_or ts i d ≤ℤ get_or ts k d) same (le_same (get_or ts i d)))
    (λ (before : i < j). le_less (get_or ts i d) (get_or ts j d) (up i j d before within))
    (same_or_before i j h)

pub most_held : (program : List Item) (proc : ℕ) (ends : List NameEnds) (ts : List ℤ) → AreThresholds program proc ends ts → Contains ts (pos (2 ^ 64 - 1))
most_held program proc ends ts are = (are.each (pos (2 ^ 64 - 1))).1 (inl refl)

-- what stands at a place around one of the seeds that every entry has
pub around_fixed : (program : List Item) (proc : ℕ) (ends : List NameEnds) (ts : List ℤ) → AreThresholds program proc ends ts → (c t : ℤ) →
    Contains (negsuc (2 ^ 63 - 1) ∷ pos (2 ^ 63 - 1) ∷ pos 0 ∷ pos 1 ∷ []) c → Contains (around c) t → Contains ts t
around_fixed program proc ends ts are c t fixed near = (are.each t).1 (inr (c, inr (inr fixed), near))

-- numbers in order, that are the greatest threshold and what stands around the seeds
pub ordered_told : (program : List Item) (proc : ℕ) (ends given : List NameEnds) (seeds read list ordered : List ℤ) → given ≡ ends → ((c : ℤ) → Contains seeds c ↔ IsSeed program proc given c) →
    read ≡ seeds → list ≡ pos (2 ^ 64 - 1) ∷ around_all read → AllPairs (λ a b. a <ℤ b) ordered → ((t : ℤ) → Contains ordered t ↔ Contains list t) → AreThresholds program proc ends ordered
ordered_told program proc ends given seeds read list ordered e told f is up same =
    let whole : list ≡ pos (2 ^ 64 - 1) ∷ around_all seeds = is ∙ ap (λ (l : List ℤ). pos (2 ^ 64 - 1) ∷ around_all l) f in
    let all : (t : ℤ) → Contains list t ↔ IsThreshold program proc ends t =
    subst (λ (l : List ℤ). (t : ℤ) → Contains l t ↔ IsThreshold program proc ends t) (sym whole)
    (thresholds_told program proc ends seeds (subst (λ (l : List NameEnds). (c : ℤ) → Contains seeds c ↔ IsSeed program proc l c) e told)) in
    record { rising = up; each = λ t. (λ h. (all t).0 ((same t).0 h), λ h. (same t).1 ((all t).1 h)) }
