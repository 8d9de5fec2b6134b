-- States that aren't Bottom and have a normal state below them that isn't, as those have that a walk comes to.
use Rattle.std.proofs.Common.{◌≡◌, IsTrue, refl, sym, arith, ◌∙◌}
use Rattle.std.proofs.lemmas.Int.{ints}
use Rattle.vmv_snapshot.specs.declared.code.Slot.{Slot}
use Rattle.vmv_zone.specs.declared.zone.Zone.{Zone}
use Rattle.vmv_zone.specs.Zone.{IsBottom, NotBottom, IsBelow, IsNormal, IsNormOf, IsJoin}
use Rattle.vmv_zone.proofs.Equal.{by_truth, clash}
use Rattle.vmv_zone.proofs.States.{below_trans}
use Rattle.vmv_step.specs.Loops.{IsLeft}

-- each state is below itself
pub below_same : (z : Zone) → IsBelow z z
below_same z up = record { not_bottom = up; bounds = λ i j hi hj. omega (arith, ints); marks = λ i from hi marked. marked }

-- a state that isn't Bottom has a normal one below it that isn't
pub record HasFloor (z : Zone) : Type 0 where
  pub floor : Zone
  pub vars : floor.vars ≡ z.vars
  pub normal : IsNormal floor
  pub below : IsBelow floor z
  pub not_bottom : NotBottom floor

abbrev pub IsFloored : Zone → Type 0
IsFloored z = NotBottom z → HasFloor z

pub normal_floored : (z : Zone) → IsNormal z → IsFloored z
normal_floored z normal up = record { floor = z; vars = refl; normal = normal; below = below_same z; not_bottom = up }

-- the norm of such a state isn't Bottom
pub norm_up : (z n : Zone) → IsFloored z → IsNormOf z n → NotBottom z → NotBottom n
norm_up z n floored norm up = let f = floored up in (norm.greatest f.floor f.vars f.normal f.below f.not_bottom).not_bottom

bottom_below : (z n : Zone) → IsBottom z → IsBelow z n
bottom_below z n none up = clash z.bottom none up

pub join_floored : (a b j : Zone) → b.vars ≡ a.vars → IsJoin a b j → IsFloored a → IsFloored b → IsFloored j
join_floored a b j same join one two up =
    by_truth a.bottom
    (λ none. by_truth b.bottom
    (λ none'. clash a.bottom none (join.least a refl (below_same a) (bottom_below b a none') up).not_bottom)
    (λ some. let f = two some in record { floor = f.floor; vars = f.vars ∙ (same ∙ sym join.vars); normal = f.normal; below = below_trans f.floor b j (same ∙ sym join.vars) f.below join.right; not_bottom = f.not_bottom }))
    (λ some. let f = one some in record { floor = f.floor; vars = f.vars ∙ sym join.vars; normal = f.normal; below = below_trans f.floor a j (sym join.vars) f.below join.left; not_bottom = f.not_bottom })

pub left_normal : (index slot : Slot) (z r : Zone) → IsLeft index slot z r → IsNormal r
left_normal index slot z r is =
    by_truth is.last.bottom
    (λ (none : IsTrue is.last.bottom). λ up. clash r.bottom (is.bottom none) up)
    (λ some. (is.forgotten some).norm.normal)
