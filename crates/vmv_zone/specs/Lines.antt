-- Bounds of which a row and a column are written in place.
use Rattle.std.specs.Prelude.{◌≡◌, ◌≢◌, ◌⊎◌, ℕ, ◌<◌, ◌≤◌, ℤ, List, length}
use Rattle.vmv_zone.specs.Bounds.{AreInReach, bound_at}

-- the bounds on x against the things before k are those of f, and the others are as they were
pub record LineSet (f : ℕ → ℕ → ℤ) (old new : List ℤ) (x k : ℕ) : Type 0 where
  pub full : length new ≡ 324
  pub reach : AreInReach new
  pub row : (j : ℕ) → j < k → bound_at new x j ≡ f x j
  pub column : (i : ℕ) → i < k → bound_at new i x ≡ f i x
  pub rest : (i j : ℕ) → j < 18 → (i ≢ x ⊎ k ≤ j) → (j ≢ x ⊎ k ≤ i) → bound_at new i j ≡ bound_at old i j

-- the bounds on i - `to`, for each thing i before k, are those on i - `from`, and the others are as they were
pub record ColumnCopied (old new : List ℤ) (to from k : ℕ) : Type 0 where
  pub full : length new ≡ 324
  pub reach : AreInReach new
  pub column : (i : ℕ) → i < k → bound_at new i to ≡ bound_at old i from
  pub rest : (i j : ℕ) → j < 18 → (j ≢ to ⊎ k ≤ i) → bound_at new i j ≡ bound_at old i j

-- the bounds on `to` - j, for each thing j before k, are those on `from` - j, and the others are as they were
pub record RowCopied (old new : List ℤ) (to from k : ℕ) : Type 0 where
  pub full : length new ≡ 324
  pub reach : AreInReach new
  pub row : (j : ℕ) → j < k → bound_at new to j ≡ bound_at old from j
  pub rest : (i j : ℕ) → j < 18 → (i ≢ to ⊎ k ≤ j) → bound_at new i j ≡ bound_at old i j

-- each of the bounds on i against the things before k has the property of its place, and the others are as they were
pub record RowFilled (Is : ℕ → ℤ → Type 0) (old new : List ℤ) (i k : ℕ) : Type 0 where
  pub full : length new ≡ 324
  pub reach : AreInReach new
  pub row : (j : ℕ) → j < k → Is j (bound_at new i j)
  pub rest : (p j : ℕ) → j < 18 → (p ≢ i ⊎ k ≤ j) → bound_at new p j ≡ bound_at old p j
