-- The calls whose inputs a pass raised.
use Rattle.std.specs.Prelude.{◌≡◌, ℕ, Bool, false, Some, List, slice_get}
use Rattle.vmv_zone.specs.declared.zone.Zone.{Zone}

-- a call whose flag isn't set behind a pass had none set before it, and its input is as before
abbrev pub AreTold : List Zone → List Bool → List Zone → List Bool → Type 0
AreTold inputs risen inputs' risen' =
    (c : ℕ) → slice_get risen' c ≡ Some false → (slice_get risen c ≡ Some false) × (slice_get inputs' c ≡ slice_get inputs c)
