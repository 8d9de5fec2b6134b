-- The pairs of numbers that meet a test.
use Rattle.std.specs.Prelude.{◌≡◌, ◌≢◌, ℤ, ◌≤ℤ◌, ◌<ℤ◌}
use Rattle.vmv_zone.specs.declared.rel.ZoneRel.{ZoneRel}
use Rattle.vmv_zone.specs.declared.rel.ZoneRel.TheVariants.{Equal, Unequal, Less, AtMost, Greater, AtLeast}

abbrev pub Meets : ZoneRel → ℤ → ℤ → Type 0
Meets Equal x y = x ≡ y
Meets Unequal x y = x ≢ y
Meets Less x y = x <ℤ y
Meets AtMost x y = x ≤ℤ y
Meets Greater x y = y <ℤ x
Meets AtLeast x y = y ≤ℤ x
