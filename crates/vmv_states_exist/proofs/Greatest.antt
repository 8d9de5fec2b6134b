-- Where joins keep a property, the greatest normal state that has it, below a state, is not missing.
use Rattle.std.proofs.Common.{◌≡◌, ◌⊎◌, ℕ, zero, suc, ◌+◌, ◌*◌, ◌/◌, ◌%◌, ◌^◌, ◌≤◌, ◌<◌, pos, ◌≤ℤ◌, IsFalse, get_or, arith, inl, inr, ⊎_elim, sym, ◌∙◌, subst}
use Rattle.std.proofs.lemmas.Int.{ints}
use Rattle.std.proofs.lemmas.Bool.{cases_lt}
use Rattle.vmv_zone.specs.declared.zone.Zone.{Zone}
use Rattle.vmv_zone.specs.Bounds.{weight}
use Rattle.vmv_zone.specs.Zone.{IsTighter, HasNormalBounds, IsNormOf, IsGreatest}
use Rattle.vmv_zone.proofs.Equal.{clash}
use Rattle.vmv_states_exist.proofs.Lists.{weight_most, weight_more, weight_same, marks_in, marks_most, marks_fewer, marks_same}
use Rattle.vmv_states_exist.proofs.Joins.{IsOver, joined, over_joined, over_least, over_normal}
use Rattle.vmv_states_exist.proofs.Empty.{none, none_vars, none_bottom, bottom_below, bottom_normal}

-- n is a normal state below z that has the property, and isn't Bottom
record IsCandidate (count : ℕ) (z : Zone) (Has : Zone → Type 0) (n : Zone) : Type 0 where
  pub vars : n.vars ≡ count
  pub up : IsFalse n.bottom
  pub normal : HasNormalBounds n
  pub below : IsTighter n z
  pub has : Has n

-- joins keep the property
abbrev pub IsKept : (Zone → Type 0) → Type 0
IsKept Has = (a b j : Zone) → IsOver a b j → Has a → Has b → Has j

join_candidate : (count : ℕ) (z : Zone) (Has : Zone → Type 0) (a b j : Zone) → IsKept Has → IsOver a b j → IsCandidate count z Has a → IsCandidate count z Has b → IsCandidate count z Has j
join_candidate count z Has a b j kept over one two = record {
  vars = over.vars ∙ one.vars;
  up = over.up;
  normal = over_normal over one.normal two.normal;
  below = over_least over one.below two.below;
  has = kept a b j over one.has two.has;
}

-- the bounds of a join, place by place
over_left_at : {a b j : Zone} → IsOver a b j → (k : ℕ) → get_or a.bounds k (pos 0) ≤ℤ get_or j.bounds k (pos 0)
over_left_at {a = a} {j = j} over k =
    let whole : 18 * (k / 18) + k % 18 ≡ k = omega arith in
    let P : ℕ → Type 0 = λ p. get_or a.bounds p (pos 0) ≤ℤ get_or j.bounds p (pos 0) in
    subst P whole (over.bounds (k / 18) (k % 18)).left

-- all that a list of bounds can weigh, and the marks that there can be
abbrev most : ℕ
most = 324 * 2 ^ 65 + 19

weight_under : (z : Zone) → weight z.bounds ≤ 324 * 2 ^ 65
weight_under z = let h = weight_most z.bounds z.reach in omega (arith, z.full)

-- Either n is below g, or the join of the two is heavier, or as heavy with fewer marks.
below_or_more : (g n j : Zone) → n.vars ≡ g.vars → IsOver g n j → IsFalse g.bottom →
    IsTighter n g ⊎ (weight g.bounds + marks_in j.marks < weight j.bounds + marks_in g.marks)
below_or_more g n j same over up =
    let heavier = weight_more g.bounds j.bounds (g.full ∙ sym j.full) g.reach (over_left_at over) in
    let fewer = marks_fewer j.marks g.marks (j.sized ∙ sym g.sized) (λ i. (over.marks i).left) in
    ⊎_elim
    (λ (more : weight g.bounds + marks_in j.marks < weight j.bounds + marks_in g.marks). inr more)
    (λ (same' : weight j.bounds + marks_in g.marks ≤ weight g.bounds + marks_in j.marks).
    let no_higher = weight_same g.bounds j.bounds (g.full ∙ sym j.full) g.reach (over_left_at over) (omega arith) in
    let no_fewer = marks_same j.marks g.marks (j.sized ∙ sym g.sized) (λ i. (over.marks i).left) (omega arith) in
    inl (record {
      not_bottom = up;
      bounds = λ i k hi hk. let one = (over.bounds i k).right in let two = no_higher (18 * i + k) in omega (arith, ints);
      marks = λ i from hi marked. (over.marks i).right (no_fewer i marked);
    }))
    (cases_lt (weight g.bounds + marks_in j.marks) (weight j.bounds + marks_in g.marks))

-- the greatest one is not missing where there is a candidate: a candidate that isn't the greatest has a greater one
greatest_above : (count : ℕ) (z : Zone) (Has : Zone → Type 0) → IsKept Has → (¬ ((g : Zone) × IsGreatest count z Has g)) →
    (fuel : ℕ) (g : Zone) → IsCandidate count z Has g → most + marks_in g.marks ≤ weight g.bounds + fuel → ⊥
greatest_above count z Has kept missing zero g candidate left = let h = weight_under g in omega arith
greatest_above count z Has kept missing (suc fuel) g candidate left = missing (
  g,
  record {
    vars = candidate.vars;
    normal = λ up. candidate.normal;
    below = λ up. candidate.below;
    has = λ up. candidate.has;
    greatest = λ n vars normal below has up.
        let other : IsCandidate count z Has n = record { vars = vars; up = up; normal = normal up; below = below up; has = has up } in
        let e : g.vars ≡ n.vars = candidate.vars ∙ sym vars in
        let over = over_joined g n e in
        ⊎_elim (λ here. here)
        (λ more. absurd (greatest_above count z Has kept missing fuel (joined g n e) (join_candidate count z Has g n (joined g n e) kept over candidate other) (omega arith)))
        (below_or_more g n (joined g n e) (sym e) over candidate.up);
  },
)

pub greatest_exists : (count : ℕ) (z : Zone) (Has : Zone → Type 0) → count ≤ 17 → IsKept Has → ¬ (¬ ((g : Zone) × IsGreatest count z Has g))
greatest_exists count z Has few kept missing =
    let bottom = none_bottom count few in
    missing (
      none count few,
      record {
        vars = none_vars count few;
        normal = bottom_normal (none count few) bottom;
        below = bottom_below (none count few) z bottom;
        has = λ up. clash (none count few).bottom bottom up;
        greatest = λ n vars normal below has up.
            let candidate : IsCandidate count z Has n = record { vars = vars; up = up; normal = normal up; below = below up; has = has up } in
            absurd (greatest_above count z Has kept missing (most + 18) n candidate (let h = marks_most n.marks in omega (arith, n.sized)));
      },
    )

pub norm_exists : (z : Zone) → ¬ (¬ ((n : Zone) × IsNormOf z n))
norm_exists z missing = greatest_exists z.vars z (λ n. Unit {0}) z.few (λ a b j over one two. tt)
    (λ found. let g = found.1 in missing (found.0, record { vars = g.vars; normal = g.normal; below = g.below; greatest = λ m vars normal below. g.greatest m vars normal below (λ up. tt) }))
