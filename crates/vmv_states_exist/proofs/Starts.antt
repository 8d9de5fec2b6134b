-- The state in which a procedure starts.
use Rattle.std.proofs.Common.{◌≡◌, ◌≢◌, ◌⊎◌, ◌&&◌, ◌||◌, ◌==◌, if◌then◌else◌, ℕ, ◌+◌, ◌*◌, ◌≤◌, ◌<◌, ℤ, pos, ◌≤ℤ◌, Bool, true, false, IsTrue, IsFalse, arith, rules, inl, inr, ⊎_elim, refl, sym, ◌∙◌, subst}
use Rattle.std.specs.Prelude.{nat_le}
use Rattle.std.proofs.lemmas.Int.{ints}
use Rattle.std.proofs.lemmas.Bool.{cases_eq, cases_lt}
use Rattle.vmv_zone.specs.declared.zone.Zone.{Zone}
use Rattle.vmv_zone.specs.Bounds.{IsInReach, top_bound}
use Rattle.vmv_zone.specs.Zone.{bound_of, mark_of, IsMarked}
use Rattle.vmv_step.specs.Enter.{is_declared, entered_bound, IsStart, IsEntered}
use Rattle.vmv_zone.proofs.Equal.{by_truth, clash}
use Rattle.vmv_zone.proofs.Zeros.{top_from_zero}
use Rattle.vmv_zone.proofs.Filled.{top_in_reach}
use Rattle.vmv_states_exist.proofs.Tables.{AreBounds, table, table_mark, same_truth}
use Rattle.vmv_states_exist.proofs.Empty.{none, none_vars, none_bottom}
use Rattle.vmv_states_exist.proofs.Greatest.{norm_exists}

entered_inner : (input : Zone) (params declared i j : ℕ) → i ≤ params → j ≤ params → entered_bound input params declared i j ≡ bound_of input i j
entered_inner input params declared i j hi hj = grind arith

other_choice : (a b : Bool) (x y w : ℤ) → IsFalse a → ((if a then x else if b then y else w) ≡ y) ⊎ ((if a then x else if b then y else w) ≡ w)
other_choice true b x y w f = absurd (search rules)
other_choice false true x y w f = inl refl
other_choice false false x y w f = inr refl

entered_outer : (input : Zone) (params declared i j : ℕ) → (params < i) ⊎ (params < j) → (entered_bound input params declared i j ≡ pos 0) ⊎ (entered_bound input params declared i j ≡ top_bound i j)
entered_outer input params declared i j out =
    let past_them : IsFalse (nat_le i params && nat_le j params) = ⊎_elim (λ (past : params < i). grind arith) (λ (past : params < j). grind arith) out in
    other_choice (nat_le i params && nat_le j params) ((is_declared params declared i && j == 0) || (i == 0 && is_declared params declared j)) (bound_of input i j) (pos 0) (top_bound i j) past_them

start_bounds_are : (input : Zone) (params declared count : ℕ) → input.vars ≡ params → AreBounds (entered_bound input params declared) count
start_bounds_are input params declared count e =
    let by : (P : ℤ → Type 0) (i j : ℕ) → (i ≤ params → j ≤ params → P (bound_of input i j)) → P (pos 0) → P (top_bound i j) → P (entered_bound input params declared i j) =
    (λ P i j inner at_zero at_top.
    let outer : (params < i) ⊎ (params < j) → P (entered_bound input params declared i j) =
    (λ out. ⊎_elim (λ is. subst P (sym is) at_zero) (λ is. subst P (sym is) at_top) (entered_outer input params declared i j out)) in
    ⊎_elim (λ (past : params < i). outer (inl past))
    (λ (hi : i ≤ params). ⊎_elim (λ (past : params < j). outer (inr past))
    (λ (hj : j ≤ params). subst P (sym (entered_inner input params declared i j hi hj)) (inner hi hj))
    (cases_lt params j))
    (cases_lt params i)) in
    record {
      reach = λ i j hi hj. by IsInReach i j (λ h k. input.reach (18 * i + j)) (record { low = omega (arith, ints); high = omega (arith, ints) }) (top_in_reach i j);
      topped = λ i j hi hj. by (λ b. b ≤ℤ top_bound i j) i j (λ h k. input.topped i j (omega (arith, e)) (omega (arith, e))) (top_from_zero i j) (omega (arith, ints));
    }

abbrev start_mark : Zone → ℕ → ℕ → Bool
start_mark input params i = if nat_le i params then mark_of input i else false

start_mark_zero : (input : Zone) (params : ℕ) → ¬ IsTrue (start_mark input params 0)
start_mark_zero input params t = let h : IsMarked input 0 = grind arith in let from = (input.variables 0 h).0 in omega arith

start_exists : (input : Zone) (params declared count : ℕ) → input.vars ≡ params → count ≤ 17 → (start : Zone) × IsStart input params declared count start
start_exists input params declared count e few =
    let t = table (entered_bound input params declared) (start_mark input params) count few (start_bounds_are input params declared count e) in (
      t.state,
      record {
        vars = t.vars;
        not_bottom = t.up;
        bounds = t.bounds;
        marks = λ i hi. ⊎_elim
            (λ (at : i ≡ 0). rw at (same_truth (mark_of t.state 0) (start_mark input params 0) (λ m. absurd (let from = ((t.marked 0).0 m).0 in omega arith)) (λ m. absurd (start_mark_zero input params m))))
            (λ (off : i ≢ 0). table_mark t i (omega arith) hi)
            (cases_eq i 0);
      },
    )

pub entered_exists : (input : Zone) (params declared count : ℕ) → input.vars ≡ params → count ≤ 16 → ¬ (¬ ((r : Zone) × IsEntered input params declared count r))
entered_exists input params declared count e few missing = by_truth input.bottom
    (λ bottom.
    let few' : count ≤ 17 = omega arith in
    missing (none count few', record { vars = none_vars count few'; bottom = λ h. none_bottom count few'; entered = λ up. clash input.bottom bottom up }))
    (λ up.
    let start = start_exists input params declared count e (omega arith) in
    norm_exists start.0 (λ n. missing (n.0, record { vars = n.1.vars ∙ start.1.vars; bottom = λ bottom. clash input.bottom bottom up; entered = λ h. (start.0, start.1, n.1) })))
