-- Normal states, by their bounds and marks.
use Rattle.std.proofs.Common.{◌∙◌, ◌≡◌, ◌⊎◌, ℕ, ◌≤◌, ℤ, pos, ◌<ℤ◌, List, Bool, arith, inl, inr, ⊎_elim, subst}
use Rattle.std.proofs.lemmas.Int.{ints}
use Rattle.vmv_zone.specs.declared.zone.Zone.{Zone}
use Rattle.vmv_zone.specs.Bounds.{bound_at, IsMarkedIn, IsTight, ExcludesZero, IsOffZeroVariable, Below}
use Rattle.vmv_zone.specs.Zone.{HasNormalBounds, IsTighter, IsBelow, IsNormOf, IsGreatest}

-- a range that excludes 0 has no end that is 0
pub tight_marked : (bs : List ℤ) (marks marks' : List Bool) (vars : ℕ) → IsTight (bound_at bs) marks vars →
    ((i : ℕ) → IsMarkedIn marks' i → IsMarkedIn marks i ⊎ IsOffZeroVariable vars bs i) → IsTight (bound_at bs) marks' vars
tight_marked bs marks marks' vars tight only = record {
  closed = tight.closed;
  upper = λ i from hi marked. ⊎_elim (tight.upper i from hi)
      (λ there zero_is. let out = there.out in let here = tight.closed.paths i 0 i hi (omega arith) hi in let self = tight.closed.self i hi in
      ⊎_elim (λ (l : bound_at bs i 0 <ℤ pos 0). omega (arith, ints)) (λ (l : bound_at bs 0 i <ℤ pos 0). omega (arith, ints)) out) (only i marked);
  lower = λ i from hi marked. ⊎_elim (tight.lower i from hi)
      (λ there zero_is. let out = there.out in let here = tight.closed.paths i 0 i hi (omega arith) hi in let self = tight.closed.self i hi in
      ⊎_elim (λ (l : bound_at bs i 0 <ℤ pos 0). omega (arith, ints)) (λ (l : bound_at bs 0 i <ℤ pos 0). omega (arith, ints)) out) (only i marked);
}

-- fewer marks ask less
pub tight_fewer : (bs : List ℤ) (marks marks' : List Bool) (vars : ℕ) → IsTight (bound_at bs) marks vars →
    ((i : ℕ) → 1 ≤ i → i ≤ vars → IsMarkedIn marks' i → IsMarkedIn marks i) → IsTight (bound_at bs) marks' vars
tight_fewer bs marks marks' vars tight sub = record {
  closed = tight.closed;
  upper = λ i from hi marked. tight.upper i from hi (sub i from hi marked);
  lower = λ i from hi marked. tight.lower i from hi (sub i from hi marked);
}

-- a normal state below z keeps the bounds and the marks that z has
pub kept_by : (n z : Zone) → n.vars ≡ z.vars → HasNormalBounds n → IsTighter n z → IsTight (bound_at n.bounds) z.marks z.vars
kept_by n z same normal below =
    let at : IsTight (bound_at n.bounds) n.marks z.vars = (let P : ℕ → Type 0 = λ v. IsTight (bound_at n.bounds) n.marks v in subst P same normal.tight) in
    tight_fewer n.bounds n.marks z.marks z.vars at below.marks

pub excludes_below : (bs bs' : List ℤ) (vars i : ℕ) → i ≤ vars → Below (bound_at bs) vars bs' → ExcludesZero bs' i → ExcludesZero bs i
excludes_below bs bs' vars i hi below out =
    let one = below i 0 hi (omega arith) in
    let two = below 0 i (omega arith) hi in
    ⊎_elim (λ (l : bound_at bs' i 0 <ℤ pos 0). inl (omega (arith, ints))) (λ (l : bound_at bs' 0 i <ℤ pos 0). inr (omega (arith, ints))) out

-- the order of states
pub below_trans : (a b c : Zone) → b.vars ≡ c.vars → IsBelow a b → IsBelow b c → IsBelow a c
below_trans a b c same' one two up =
    let first = one up in
    let second = two first.not_bottom in
    record {
      not_bottom = second.not_bottom;
      bounds = λ i j hi hj. let x = first.bounds i j (omega (arith, same')) (omega (arith, same')) in let y = second.bounds i j hi hj in omega (arith, ints);
      marks = λ i from hi marked. first.marks i from (omega (arith, same')) (second.marks i from hi marked);
    }

-- lower states have lower norms
pub norm_mono : (a b na nb : Zone) → a.vars ≡ b.vars → IsNormOf a na → IsNormOf b nb → IsBelow a b → IsBelow na nb
norm_mono a b na nb same norm norm' below = norm'.greatest na (norm.vars ∙ same) norm.normal (below_trans na a b same norm.below below)

-- the greatest normal state of a lower state, with a stronger property, is lower
pub greatest_mono : (vars : ℕ) (a b : Zone) (Has Has' : Zone → Type 0) (g h : Zone) → a.vars ≡ b.vars →
    IsGreatest vars a Has g → IsGreatest vars b Has' h → IsBelow a b → ((n : Zone) → Has n → Has' n) → IsBelow g h
greatest_mono vars a b Has Has' g h same great great' below sub =
    great'.greatest g great.vars great.normal (below_trans g a b same great.below below) (λ up. sub g (great.has up))
