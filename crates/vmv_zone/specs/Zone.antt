-- The bounds and marks that a state tells, its points, the order of states, and normal states.
use Rattle.std.specs.Prelude.{◌≡◌, ◌≢◌, ◌⊎◌, ℕ, ◌≤◌, ℤ, pos, ◌-ℤ◌, ◌≤ℤ◌, IsTrue, IsFalse, FitsSigned, get_or, Bool, false}
use Rattle.std.specs.Int.{w64}
use Rattle.vmv_zone.specs.declared.zone.Zone.{Zone}
use Rattle.vmv_zone.specs.Bounds.{bound_at, IsMarkedIn, IsTight, ExcludesZero, top_bound}

-- how many variables the state has
abbrev pub vars_of : Zone → ℕ
vars_of z = z.vars

-- the state has no point
abbrev pub IsBottom : Zone → Type 0
IsBottom z = IsTrue z.bottom

abbrev pub NotBottom : Zone → Type 0
NotBottom z = IsFalse z.bottom

-- the bound on i - j
abbrev pub bound_of : Zone → ℕ → ℕ → ℤ
bound_of z i j = bound_at z.bounds i j

-- whether i is marked as not 0
abbrev pub mark_of : Zone → ℕ → Bool
mark_of z i = get_or z.marks i false

abbrev pub IsMarked : Zone → ℕ → Type 0
IsMarked z i = IsTrue (mark_of z i)

-- the values p, 0 at thing 0, are words that meet each bound and each mark
pub record HasPoint (z : Zone) (p : ℕ → ℤ) : Type 0 where
  pub not_bottom : IsFalse z.bottom
  pub zero : p 0 ≡ pos 0
  pub words : (i : ℕ) → i ≤ z.vars → FitsSigned w64 (p i)
  pub bounds : (i j : ℕ) → i ≤ z.vars → j ≤ z.vars → (p i -ℤ p j) ≤ℤ bound_at z.bounds i j
  pub marks : (i : ℕ) → 1 ≤ i → i ≤ z.vars → IsMarkedIn z.marks i → p i ≢ pos 0

-- on the things of b, the bounds of a are at most those of b, and a has the marks of b
pub record IsTighter (a b : Zone) : Type 0 where
  pub not_bottom : IsFalse b.bottom
  pub bounds : (i j : ℕ) → i ≤ b.vars → j ≤ b.vars → bound_at a.bounds i j ≤ℤ bound_at b.bounds i j
  pub marks : (i : ℕ) → 1 ≤ i → i ≤ b.vars → IsMarkedIn b.marks i → IsMarkedIn a.marks i

-- the order of states: Bottom is below all
abbrev pub IsBelow : Zone → Zone → Type 0
IsBelow a b = IsFalse a.bottom → IsTighter a b

-- paths and marks lower no bound, and each variable whose range excludes 0 is marked
pub record HasNormalBounds (z : Zone) : Type 0 where
  pub tight : IsTight (bound_at z.bounds) z.marks z.vars
  pub marked : (i : ℕ) → 1 ≤ i → i ≤ z.vars → ExcludesZero z.bounds i → IsMarkedIn z.marks i

-- normal states: Bottom, and those whose bounds are normal
abbrev pub IsNormal : Zone → Type 0
IsNormal z = IsFalse z.bottom → HasNormalBounds z

-- g is the greatest normal state over so many variables that is below z and has the property
pub record IsGreatest (count : ℕ) (z : Zone) (Has : Zone → Type 0) (g : Zone) : Type 0 where
  pub vars : g.vars ≡ count
  pub normal : IsNormal g
  pub below : IsBelow g z
  pub has : IsFalse g.bottom → Has g
  pub greatest : (n : Zone) → n.vars ≡ count → IsNormal n → IsBelow n z → (IsFalse n.bottom → Has n) → IsBelow n g

-- n is the norm of z: the greatest normal state below it
pub record IsNormOf (z n : Zone) : Type 0 where
  pub vars : n.vars ≡ z.vars
  pub normal : IsNormal n
  pub below : IsBelow n z
  pub greatest : (m : Zone) → m.vars ≡ z.vars → IsNormal m → IsBelow m z → IsBelow m n

-- top: the bounds that words keep, and no marks
pub record IsTop (z : Zone) : Type 0 where
  pub not_bottom : IsFalse z.bottom
  pub bounds : (i j : ℕ) → i ≤ z.vars → j ≤ z.vars → bound_at z.bounds i j ≡ top_bound i j
  pub marks : (i : ℕ) → ¬ IsMarkedIn z.marks i

-- new differs from old in one bound
pub record ChangesBound (old new : Zone) (i j : ℕ) (bound : ℤ) : Type 0 where
  pub vars : new.vars ≡ old.vars
  pub bottom : new.bottom ≡ old.bottom
  pub changed : bound_at new.bounds i j ≡ bound
  pub others : (p q : ℕ) → p ≤ old.vars → q ≤ old.vars → p ≢ i ⊎ q ≢ j → bound_at new.bounds p q ≡ bound_at old.bounds p q
  pub marks : (p : ℕ) → mark_of new p ≡ mark_of old p

-- new differs from old in one mark
pub record AddsMark (old new : Zone) (i : ℕ) : Type 0 where
  pub vars : new.vars ≡ old.vars
  pub bottom : new.bottom ≡ old.bottom
  pub bounds : (p q : ℕ) → bound_of new p q ≡ bound_of old p q
  pub marked : IsMarked new i
  pub others : (p : ℕ) → p ≢ i → mark_of new p ≡ mark_of old p

-- new is old with top's bounds on the variable x, and no mark on it
pub record IsFreed (old new : Zone) (x : ℕ) : Type 0 where
  pub vars : new.vars ≡ old.vars
  pub bottom : new.bottom ≡ old.bottom
  pub freed : (i j : ℕ) → i ≤ old.vars → j ≤ old.vars → i ≡ x ⊎ j ≡ x → bound_of new i j ≡ top_bound i j
  pub others : (i j : ℕ) → i ≤ old.vars → j ≤ old.vars → i ≢ x → j ≢ x → bound_of new i j ≡ bound_of old i j
  pub unmarked : ¬ IsMarked new x
  pub marks : (i : ℕ) → i ≢ x → mark_of new i ≡ mark_of old i

-- j is the least state above both a and b
pub record IsJoin (a b j : Zone) : Type 0 where
  pub vars : j.vars ≡ a.vars
  pub left : IsBelow a j
  pub right : IsBelow b j
  pub least : (n : Zone) → n.vars ≡ a.vars → IsBelow a n → IsBelow b n → IsBelow j n
