-- The norm of a state, by the bounds and marks that settling leaves.
use Rattle.std.proofs.Common.{◌∙◌, ◌≡◌, ◌⊎◌, ℕ, ◌+◌, ◌*◌, ◌≤◌, ℤ, List, IsFalse, arith, ⊎_elim, subst, sym}
use Rattle.std.proofs.lemmas.Int.{ints}
use Rattle.vmv_zone.specs.declared.zone.Zone.{Zone}
use Rattle.vmv_zone.specs.Bounds.{bound_at, IsMarkedIn, IsTight, ExcludesZero, IsOffZeroVariable, AreUnderTop, AreZeroOutside}
use Rattle.vmv_zone.specs.Change.{Settles}
use Rattle.vmv_zone.specs.Zone.{IsNormOf}
use Rattle.vmv_zone.proofs.States.{tight_marked, kept_by, excludes_below}

-- the bounds as low as paths and marks take them, with each variable marked whose range excludes 0, are those of the norm
pub settled_norm : (old new : Zone) → new.vars ≡ old.vars → IsFalse old.bottom → IsFalse new.bottom →
    Settles (λ n. IsTight n old.marks old.vars) old.vars old.bounds new.bounds → IsTight (bound_at new.bounds) old.marks old.vars →
    ((i : ℕ) → IsMarkedIn old.marks i → IsMarkedIn new.marks i) → ((i : ℕ) → 1 ≤ i → i ≤ old.vars → ExcludesZero new.bounds i → IsMarkedIn new.marks i) →
    ((i : ℕ) → IsMarkedIn new.marks i → IsMarkedIn old.marks i ⊎ IsOffZeroVariable old.vars new.bounds i) → IsNormOf old new
settled_norm old new vars up up' settles tight keeps marked only = record {
  vars = vars;
  normal = λ _. record {
    tight = let P : ℕ → Type 0 = λ v. IsTight (bound_at new.bounds) new.marks v in subst P (sym vars) (tight_marked new.bounds old.marks new.marks old.vars tight only);
    marked = λ i from hi out. marked i from (omega (arith, vars)) out;
  };
  below = λ _. record {
    not_bottom = up;
    bounds = λ i j hi hj. settles.lower (18 * i + j);
    marks = λ i from hi has. keeps i has;
  };
  greatest = λ n same normal below n_up.
      let here = below n_up in
      let kept = kept_by n old same (normal n_up) here in
      let under = settles.below (bound_at n.bounds) kept here.bounds in
      record {
        not_bottom = up';
        bounds = λ i j hi hj. under i j (omega (arith, vars)) (omega (arith, vars));
        marks = λ i from hi has. ⊎_elim (here.marks i from (omega (arith, vars)))
            (λ there. (normal n_up).marked i from (omega (arith, same, vars)) (excludes_below n.bounds new.bounds old.vars i (omega (arith, vars)) under there.out))
            (only i has);
      };
}

-- lower bounds that settling leaves are no higher than words keep them
pub settled_top : (z : Zone) (Keep : (ℕ → ℕ → ℤ) → Type 0) (bs : List ℤ) → Settles Keep z.vars z.bounds bs → AreUnderTop z.vars bs
settled_top z Keep bs settles i j hi hj = let less = settles.lower (18 * i + j) in let top = z.topped i j hi hj in omega (arith, ints)

-- and there are none past the last variable
pub settled_outside : (z : Zone) (Keep : (ℕ → ℕ → ℤ) → Type 0) (bs : List ℤ) → Settles Keep z.vars z.bounds bs → AreZeroOutside z.vars bs
settled_outside z Keep bs settles i j hi hj out = settles.outside i j hi hj out ∙ z.outside i j hi hj out
