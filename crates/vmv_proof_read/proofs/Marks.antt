-- Which variables the text of a state names as marked.
use Rattle.std.proofs.Common.{◌≡◌, ◌⊎◌, inl, inr, ℕ, zero, suc, ◌+◌, ◌≤◌, Bool, true, false, [], ◌∷◌, refl, sym, subst, arith}
use Rattle.std.specs.Prelude.{if◌then◌else◌}
use Rattle.std.specs.List.{All, Contains}
use Rattle.std.proofs.lemmas.Bool.{cases_eq}
use Rattle.std.proofs.lemmas.List.Elements.{Contains-append_left, Contains-append_right, Contains-append_cases, All-contains_itself, All-weaker}
use Rattle.vmv_zone.specs.declared.zone.Zone.{Zone}
use Rattle.vmv_zone.specs.Zone.{vars_of, mark_of, IsMarked}
use Rattle.vmv_proof_text.specs.States.{marked_thing, marked_things, marked_variables}
use Rattle.vmv_proof_text.specs.Lines.{IsCount}

-- a list of one has no other member
pub only_member : {A : Type 0} (x y : A) → Contains (x ∷ []) y → x ≡ y
only_member x y (zero, few, e) = e
only_member x y (suc j, few, e) = absurd (omega (arith, few))

pub record IsMarkedVariable (z : Zone) (n i : ℕ) : Type 0 where
  pub from : 1 ≤ i
  pub to : i ≤ n
  pub marked : IsMarked z i

thing_marked : (z : Zone) (k i : ℕ) (t : Bool) → mark_of z k ≡ t → Contains (if t then k ∷ [] else []) i → (k ≡ i) × IsMarked z k
thing_marked z k i true e h = (only_member k i h, e)
thing_marked z k i false e h = absurd (omega (arith, h.1))

pub named_marked : (z : Zone) (n i : ℕ) → Contains (marked_things z n) i → IsMarkedVariable z n i
named_marked z zero i h = absurd (omega (arith, h.1))
named_marked z (suc n) i h = by (λ front. named_marked z n i front) (Contains-append_cases (marked_things z n) (marked_thing z (n + 1)) i h)
  where
    by : (Contains (marked_things z n) i → IsMarkedVariable z n i) → Contains (marked_things z n) i ⊎ Contains (marked_thing z (n + 1)) i → IsMarkedVariable z (suc n) i
    by before (inl front) = let r = before front in record { from = r.from; to = omega (arith, r.to); marked = r.marked }
    by before (inr back) =
        let r = thing_marked z (n + 1) i (mark_of z (n + 1)) refl back in
        record { from = omega (arith, r.0); to = omega (arith, r.0); marked = subst (IsMarked z) r.0 r.1 }

pub marked_named : (z : Zone) (n i : ℕ) → 1 ≤ i → i ≤ n → IsMarked z i → Contains (marked_things z n) i
marked_named z zero i low high m = absurd (omega arith)
marked_named z (suc n) i low high m = by (λ less. marked_named z n i low less m) (cases_eq i (n + 1))
  where
    by : (i ≤ n → Contains (marked_things z n) i) → (i ≡ n + 1) ⊎ (i ≡ n + 1 → ⊥) → Contains (marked_things z (suc n)) i
    by before (inl same) =
        Contains-append_right (marked_things z n) (marked_thing z (n + 1)) i
        (subst (λ k. Contains (marked_thing z k) i) same (subst (λ t. Contains (if t then i ∷ [] else []) i) (sym m) (0, omega arith, refl)))
    by before (inr other) = Contains-append_left (marked_things z n) (marked_thing z (n + 1)) i (before (omega (arith, other)))

-- they are counts where there are few variables
pub marks_are_counts : (z : Zone) → vars_of z ≤ 16 → All IsCount (marked_variables z)
marks_are_counts z few = All-weaker (Contains (marked_variables z)) IsCount (λ i h. omega (arith, few, (named_marked z (vars_of z) i h).to)) (marked_variables z) (All-contains_itself (marked_variables z))
