-- An assignment leaves the state with no point.
use Rattle.std.proofs.Common.{◌∙◌, ◌≡◌, ℕ, ◌*◌, ◌+◌, ◌≤◌, IsTrue, arith, rules, refl, sym}
use Rattle.vmv_zone.specs.declared.zone.Zone.{Zone}
use Rattle.vmv_zone.specs.declared.operand.ZoneValue.{ZoneValue}
use Rattle.vmv_zone.specs.Bounds.{moved}
use Rattle.vmv_zone.specs.Zone.{mark_of, IsNormal}
use Rattle.vmv_zone.specs.Step.{Drops, IsAssigned}
use Rattle.vmv_zone.proofs.Extending.{unmarked_same}
use Rattle.vmv_zone.proofs.Normed.{norm_itself}
use Rattle.vmv_zone.proofs.Words.{bottom_bound}
use Rattle.vmv_zone.proofs.Zeros.{top_from_zero}

-- the same state over one variable more
bottom_more : (z : Zone) → z.vars ≤ 16 → IsTrue z.bottom → Zone
bottom_more z few none =
    let blank = z.emptied none in
    record {
      vars = z.vars + 1;
      bottom = z.bottom;
      bounds = z.bounds;
      marks = z.marks;
      few = omega arith;
      full = z.full;
      reach = z.reach;
      topped = λ i j hi hj. rw (blank.zeros (18 * i + j)) (top_from_zero i j);
      outside = λ i j hi hj out. blank.zeros (18 * i + j);
      sized = z.sized;
      variables = λ i marked. absurd (blank.unmarked i marked);
      emptied = z.emptied;
    }

drops_more : (z fresh : Zone) (to : ℕ) → fresh.vars ≡ z.vars + 1 → fresh.bottom ≡ z.bottom → IsTrue z.bottom → IsTrue fresh.bottom → Drops to fresh z
drops_more z fresh to vars same none none' = record {
  vars = sym vars;
  bottom = sym same;
  bounds = λ i j hi hj. bottom_bound z i j none ∙ sym (bottom_bound fresh (moved to fresh.vars i) (moved to fresh.vars j) none');
  marks = λ i from hi. unmarked_same (mark_of z i) (mark_of fresh (moved to fresh.vars i)) ((z.emptied none).unmarked i) ((fresh.emptied none').unmarked (moved to fresh.vars i));
}

pub stored_bottom : (z : Zone) (to : ℕ) (value : ZoneValue) → IsNormal z → z.vars ≤ 16 → IsTrue z.bottom → IsAssigned z to value z
unfolding bottom_more
stored_bottom z to value normal few none =
    let fresh : Zone = bottom_more z few none in
    record {
      before = z;
      norm = norm_itself z normal;
      fresh = fresh;
      greatest = record {
        vars = refl;
        normal = λ up. absurd (search rules);
        below = λ up. absurd (search rules);
        has = λ up. absurd (search rules);
        greatest = λ n same normal' below has up. let tighter = below up in let up' = tighter.not_bottom in absurd (search rules);
      };
      drops = drops_more z fresh to refl refl none none;
    }
