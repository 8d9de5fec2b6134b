-- The state with a variable freed.
use Rattle.std.proofs.Common.{◌≡◌, ◌≢◌, ◌⊎◌, ◌==◌, if◌then◌else◌, ℕ, ◌≤◌, ◌≤ℤ◌, Bool, false, IsTrue, arith, ⊎_elim, sym, ◌∙◌, subst}
use Rattle.std.proofs.lemmas.Int.{ints}
use Rattle.vmv_zone.specs.declared.zone.Zone.{Zone}
use Rattle.vmv_zone.specs.Bounds.{top_bound, freed_bound}
use Rattle.vmv_zone.specs.Zone.{bound_of, mark_of, NotBottom, IsFreed}
use Rattle.vmv_zone.proofs.Filled.{freed_in_reach}
use Rattle.vmv_states_exist.proofs.Tables.{AreBounds, table, same_truth}

freed_top : (z : Zone) (x i j : ℕ) → i ≤ z.vars → j ≤ z.vars → freed_bound z.bounds x i j ≤ℤ top_bound i j
freed_top z x i j hi hj = let h = z.topped i j hi hj in grind (arith, ints)

freed_at : (z : Zone) (x i j : ℕ) → i ≡ x ⊎ j ≡ x → freed_bound z.bounds x i j ≡ top_bound i j
freed_at z x i j h = ⊎_elim (λ (e : i ≡ x). grind arith) (λ (e : j ≡ x). grind arith) h

freed_off : (z : Zone) (x i j : ℕ) → i ≢ x → j ≢ x → freed_bound z.bounds x i j ≡ bound_of z i j
freed_off z x i j h k = grind arith

abbrev freed_mark : Zone → ℕ → ℕ → Bool
freed_mark z x i = if i == x then false else mark_of z i

freed_mark_at : (z : Zone) (x : ℕ) → ¬ IsTrue (freed_mark z x x)
freed_mark_at z x t = grind arith

freed_mark_off : (z : Zone) (x i : ℕ) → i ≢ x → freed_mark z x i ≡ mark_of z i
freed_mark_off z x i h = grind arith

freed_bounds_are : (z : Zone) (x : ℕ) → AreBounds (freed_bound z.bounds x) z.vars
freed_bounds_are z x = record { reach = λ i j hi hj. freed_in_reach z.bounds x z.reach i j; topped = freed_top z x }

pub freed_exists : (z : Zone) (x : ℕ) → NotBottom z → (r : Zone) × IsFreed z r x
freed_exists z x up =
    let t = table (freed_bound z.bounds x) (freed_mark z x) z.vars z.few (freed_bounds_are z x) in (
      t.state,
      record {
        vars = t.vars;
        bottom = t.up ∙ sym up;
        freed = λ i j hi hj h. t.bounds i j hi hj ∙ freed_at z x i j h;
        others = λ i j hi hj h k. t.bounds i j hi hj ∙ freed_off z x i j h k;
        unmarked = λ marked. freed_mark_at z x ((t.marked x).0 marked).1.1;
        marks = λ i off. same_truth (mark_of t.state i) (mark_of z i)
            (λ marked. let h = ((t.marked i).0 marked).1.1 in subst IsTrue (freed_mark_off z x i off) h)
            (λ marked. let at = z.variables i marked in (t.marked i).1 (at.0, (at.1, subst IsTrue (sym (freed_mark_off z x i off)) marked)));
      },
    )
