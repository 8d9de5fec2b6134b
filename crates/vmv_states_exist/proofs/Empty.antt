-- The state with no point.
use Rattle.std.proofs.Common.{◌≡◌, ℕ, ◌≤◌, pos, true, false, replicate, refl}
use Rattle.std.proofs.lemmas.List.{length-replicate}
use Rattle.vmv_zone.specs.declared.zone.Zone.{Zone}
use Rattle.vmv_zone.specs.Zone.{IsBottom, IsBelow, IsNormal}
use Rattle.vmv_zone.proofs.Equal.{clash}
use Rattle.vmv_zone.proofs.Zeros.{zeros_reach, zeros_under_top, zeros_outside, falses_on_variables, zeros_blank}

pub none : (count : ℕ) → count ≤ 17 → Zone
none count few = record {
  vars = count;
  bottom = true;
  bounds = replicate 324 (pos 0);
  marks = replicate 18 false;
  few = few;
  full = length-replicate 324 (pos 0);
  reach = zeros_reach 324;
  topped = zeros_under_top 324 count;
  outside = zeros_outside 324 count;
  sized = length-replicate 18 false;
  variables = falses_on_variables 18 count;
  emptied = λ t. zeros_blank 324 18;
}

pub none_vars : (count : ℕ) (few : count ≤ 17) → (none count few).vars ≡ count
unfolding none
none_vars count few = refl

pub none_bottom : (count : ℕ) (few : count ≤ 17) → IsBottom (none count few)
unfolding none
none_bottom count few = refl

pub bottom_below : (a b : Zone) → IsBottom a → IsBelow a b
bottom_below a b bottom up = clash a.bottom bottom up

pub bottom_normal : (a : Zone) → IsBottom a → IsNormal a
bottom_normal a bottom up = clash a.bottom bottom up
