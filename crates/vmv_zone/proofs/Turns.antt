-- One more turn of a loop that lowers bounds.
use Rattle.std.proofs.Common.{◌≡◌, ℕ, ◌+◌, ◌<◌, ℤ, List, arith, sym, ◌∙◌, subst, below_more}
use Rattle.std.proofs.lemmas.Int.{ints}
use Rattle.vmv_zone.specs.declared.paths.Change.{Change}
use Rattle.vmv_zone.specs.declared.paths.Change.TheVariants.{Same, Lower}
use Rattle.vmv_zone.specs.Bounds.{weight}
use Rattle.vmv_zone.specs.Change.{Relaxes}

-- the bounds after the turns below i; where none changed them, P holds of each of these turns
pub record Turned (P : List ℤ → ℕ → Type 0) (change : Change) (Keep : (ℕ → ℕ → ℤ) → Type 0) (vars : ℕ) (old now : List ℤ) (i : ℕ) : Type 0 where
  pub relaxes : Relaxes change Keep vars old now
  pub paths : change ≡ Same → (k : ℕ) → k < i → P old k

pub relaxes_same : (a : Change) (Keep : (ℕ → ℕ → ℤ) → Type 0) (vars : ℕ) (old mid new : List ℤ) → Relaxes a Keep vars old mid → Relaxes Same Keep vars mid new → Relaxes a Keep vars old new
relaxes_same a Keep vars old mid new first next = let P : List ℤ → Type 0 = λ bs. Relaxes a Keep vars old bs in subst P (sym next.changes) first

pub relaxes_lower : (a : Change) (Keep : (ℕ → ℕ → ℤ) → Type 0) (vars : ℕ) (old mid new : List ℤ) → Relaxes a Keep vars old mid → Relaxes Lower Keep vars mid new → Relaxes Lower Keep vars old new
relaxes_lower a Keep vars old mid new first next = record {
  reach = next.reach;
  lower = λ k. let one = first.lower k in let two = next.lower k in omega (arith, ints);
  falls = omega (arith, first.falls, next.falls);
  changes = let less : weight new < weight mid = next.changes in omega (arith, first.falls);
  below = λ n keep below. next.below n keep (first.below n keep below);
  outside = λ i j hi hj out. next.outside i j hi hj out ∙ first.outside i j hi hj out;
}

pub turned_same : (P : List ℤ → ℕ → Type 0) (a b a' : Change) {Keep : (ℕ → ℕ → ℤ) → Type 0} {vars : ℕ} {old mid new : List ℤ} {i : ℕ} → b ≡ Same → a' ≡ a →
    Turned P a Keep vars old mid i → Relaxes b Keep vars mid new → (b ≡ Same → P mid i) → Turned P a' Keep vars old new (i + 1)
turned_same P a b a' {Keep = Keep} {vars = vars} {old = old} {mid = mid} {new = new} {i = i} is keeps before next here =
    rw keeps (record {
      relaxes = relaxes_same a Keep vars old mid new before.relaxes (rw is at next);
      paths = λ e. below_more (λ k. P old k) i (before.paths e)
          (let unchanged : Relaxes Same Keep vars old mid = rw e at before.relaxes in
          let Q : List ℤ → Type 0 = λ bs. P bs i in subst Q unchanged.changes (here is));
    })

pub turned_lower : (P : List ℤ → ℕ → Type 0) (a b a' : Change) {Keep : (ℕ → ℕ → ℤ) → Type 0} {vars : ℕ} {old mid new : List ℤ} {i : ℕ} → b ≡ Lower → a' ≡ Lower →
    Turned P a Keep vars old mid i → Relaxes b Keep vars mid new → Turned P a' Keep vars old new (i + 1)
turned_lower P a b a' {Keep = Keep} {vars = vars} {old = old} {mid = mid} {new = new} {i = i} is lower before next =
    rw lower (record {
      relaxes = relaxes_lower a Keep vars old mid new before.relaxes (rw is at next);
      paths = λ e. absurd (let f : Lower ≡ Same = e in cc);
    })
