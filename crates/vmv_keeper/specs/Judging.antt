-- What a judge says of texts.
use Rattle.std.specs.Prelude.{◌≡◌, ◌⊎◌, ℕ, Bool, true, false, List}
use Rattle.vmv_keeper.specs.declared.judge.Inspected.{Inspected}
use Rattle.vmv_keeper.specs.declared.judge.Inspected.TheVariants.{Fine, Refused, Vacuous}
use Rattle.vmv_keeper.specs.declared.judge.Compared.{Compared}
use Rattle.vmv_keeper.specs.declared.judge.Compared.TheVariants.{Judged, Unreadable}

-- a text parses that isn't refused
abbrev pub parses : Inspected → Bool
parses Fine = true
parses (Refused number line column) = false
parses Vacuous = true

-- a comparison of two texts, of which it is said whether they parse: unreadable is the first that doesn't
abbrev pub IsReadable : Compared → Bool → Bool → Type 0
IsReadable (Judged verdict json) base revision = (base ≡ true) × (revision ≡ true)
IsReadable (Unreadable which) base revision =
    ((which ≡ 1) × (base ≡ false)) ⊎ ((which ≡ 2) × (base ≡ true) × (revision ≡ false))

-- a comparison that gave this verdict
abbrev pub HasVerdict : ℕ → Compared → Type 0
HasVerdict verdict said = (json : List ℕ) × (said ≡ Judged verdict json)
