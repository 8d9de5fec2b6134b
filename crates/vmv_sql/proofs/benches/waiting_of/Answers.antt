use Rattle.std.proofs.Common.{◌≡◌, ◌<◌, ◌≤◌, ◌∷◌, [], length, arith, sym, subst, ap, List, ℕ}
use Rattle.std.specs.List.{AllByRecursion}
use Rattle.std.proofs.lemmas.List.{length-append}
use Rattle.vmv_keeper.specs.Formed.{Rises}
use Rattle.vmv_sql.proofs.Pushed.{Rises-push, below_next, upto_next}
use Rattle.vmv_sql.proofs.benches.waiting_of.Goals as goal

pub loop-row-preserved : goal.loop-row-preserved
loop-row-preserved c =
    let new = c.in_ok-push.ensures.ok in
    let n = c.in_ok-number.number in
    let lt : c.loop-row.last < n = omega arith in
    let inv = c.loop-row.invariant in
    record {
      count = omega (arith, ap length new, length-append c.loop-row.numbers (n ∷ []), inv.count);
      rising = subst (λ (x : List ℕ). Rises 1 x) (sym new) (Rises-push 1 c.loop-row.numbers n inv.rising (below_next c.loop-row.numbers c.loop-row.last n inv.upto lt) (omega arith));
      upto = subst (λ (x : List ℕ). AllByRecursion (λ m. m ≤ n) x) (sym new) (upto_next c.loop-row.numbers c.loop-row.last n inv.upto lt);
    }
