-- Conditions that were tightened hold no more words than before.
use Rattle.std.proofs.Common.{◌≡◌, ◌⊎◌, inl, inr, ⊎_elim, ℕ, zero, suc, ℤ, ◌≤ℤ◌, int_le, Bool, true, false, List, [], ◌∷◌, refl, sym, subst, arith}
use Rattle.std.specs.List.{Contains}
use Rattle.std.specs.Str.{bytes_eq}
use Rattle.std.proofs.lemmas.Int.{ints}
use Rattle.vmv_tree.specs.declared.name.Name.{Name}
use Rattle.vmv_tree.specs.declared.ends.NameEnds.{NameEnds}
use Rattle.vmv_cond.specs.declared.cond.Cond.{Cond}
use Rattle.vmv_cond.specs.Cond.{Holds, IsEmpty, IsSubset}
use Rattle.vmv_snapshot.specs.Procs.{outsides}
use Rattle.vmv_snapshot.specs.Resolution.{Resolution, tree_of}
use Rattle.vmv_snapshot.proofs.Named.{first_or_further}
use Rattle.vmv_assumption.specs.Within.{IsBelow}
use Rattle.vmv_assumption.proofs.Names.{same_bytes, bytes_same, by_name}
use Rattle.vmv_enough.specs.Levels.{IsKeptTo}
use Rattle.vmv_enough.specs.Tighten.{Stage, TakesDemand, TakesLevel, Leads}

-- a name is in a list, or isn't
pub in_or_not : (names : List Name) (name : Name) → Contains names name ⊎ (Contains names name → ⊥)
in_or_not [] name = inr (λ (k, within, is). absurd (omega (arith, within)))
in_or_not (m ∷ names) name = by (bytes_eq m name) refl (in_or_not names name)
  where
    by : (b : Bool) → bytes_eq m name ≡ b → Contains names name ⊎ (Contains names name → ⊥) → Contains (m ∷ names) name ⊎ (Contains (m ∷ names) name → ⊥)
    by true e rest = inl (0, omega arith, same_bytes m name e)
    by false e rest = ⊎_elim
        (λ (c : Contains names name). inl (suc c.0, (let h = c.1 in omega (arith, h)), c.2))
        (λ (off : Contains names name → ⊥). inr (λ there. ⊎_elim
        (λ (s : m ≡ name). let t = bytes_same m name s in absurd (cc))
        (λ (c : Contains names name). off c)
        (first_or_further m names name there)))
        rest

module _ (program : Resolution) (ends : List NameEnds) where
  demand_below : (a b : Stage) → TakesDemand program ends a b → IsBelow b.assumed a.assumed
  demand_below a b t =
      let P : Name → Type 0 = λ name. IsSubset (b.assumed name) (a.assumed name) in
      by_name {P = P} t.demand.name
      (λ w h. ((t.met.meet w).0 (subst (λ (c : Cond). Holds c w) t.met.set.there h)).0)
      (λ name other w h. subst (λ (c : Cond). Holds c w) (t.met.set.elsewhere name other) h)

  kept_below : (k : ℕ) (had cond : Cond) → IsKeptTo k had cond → IsSubset cond had
  kept_below k had cond is w h =
      ⊎_elim
      (λ (met : (¬ IsEmpty is.met) × (cond ≡ is.met)). ((is.meet w).0 (subst (λ (c : Cond). Holds c w) met.1 h)).0)
      (λ (same : IsEmpty is.met × (cond ≡ had)). subst (λ (c : Cond). Holds c w) same.1 h)
      is.choice

  level_below : (a b : Stage) → TakesLevel program ends a b → IsBelow b.assumed a.assumed
  level_below a b t name =
      ⊎_elim
      (λ (c : Contains (outsides (tree_of program)) name). kept_below t.level (a.assumed name) (b.assumed name) (t.levelled.there name c))
      (λ (off : Contains (outsides (tree_of program)) name → ⊥). λ w h. subst (λ (c : Cond). Holds c w) (t.levelled.elsewhere name off) h)
      (in_or_not (outsides (tree_of program)) name)

  pub leads_below : (times : ℕ) (a b : Stage) → Leads program ends times a b → IsBelow b.assumed a.assumed
  leads_below zero a b e = subst (λ (s : Stage). IsBelow s.assumed a.assumed) (sym e) (λ name w h. h)
  leads_below (suc n) a c (b, t, more) = λ name w h.
      let later = leads_below n b c more name w h in
      ⊎_elim
      (λ (d : TakesDemand program ends a b). demand_below a b d name w later)
      (λ (l : TakesLevel program ends a b). level_below a b l name w later)
      t.step

le_same : (x : ℤ) → x ≤ℤ x
le_same x = omega (arith, ints)

-- a condition with a word holds its least one
pub least_held : (c : Cond) → (¬ IsEmpty c) → Holds c c.lo
least_held c some = by (int_le c.lo c.hi) refl
  where
    le_of : int_le c.lo c.hi ≡ true → c.lo ≤ℤ c.hi
    le_of e = grind (arith, ints)

    none : int_le c.lo c.hi ≡ false → (w : ℤ) → c.lo ≤ℤ w → w ≤ℤ c.hi → ⊥
    none e w low high = grind (arith, ints)

    by : (b : Bool) → int_le c.lo c.hi ≡ b → Holds c c.lo
    by true e = record { above = le_same c.lo; below = le_of e; nonzero = c.normal.marked_lo }
    by false e = absurd (some (λ w h. none e w h.above h.below))
