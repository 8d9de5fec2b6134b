use Rattle.std.proofs.Common.{◌≡◌, ◌∷◌, [], sym, subst, List}
use Rattle.std.specs.List.{AllByRecursion}
use Rattle.vmv_keeper.specs.declared.project.Bench.{Bench}
use Rattle.vmv_keeper.specs.Formed.{IsBench}
use Rattle.vmv_keeper.proofs.ListChanges.{All-push}
use Rattle.vmv_sql.proofs.Keys.{AreDistinct, UpTo, named, distinct_push, end_push}
use Rattle.vmv_sql.proofs.benches.benches.Goals as goal

pub loop-row-preserved : goal.loop-row-preserved
loop-row-preserved g c =
    let new = c.in_ok-push.ensures.ok in
    let bench = c.in_ok-bench_of.field-0 in
    let key = c.in_ok-key.key in
    let inv = c.loop-row.invariant in
    let is = c.in_ok-bench_of.ensures.named in
    record {
      mode = c.bench_of.ensures.mode;
      each = subst (λ (x : List Bench). AllByRecursion IsBench x) (sym new) (All-push IsBench c.loop-row.benches bench inv.each c.in_ok-bench_of.ensures.formed);
      distinct = subst (λ (x : List Bench). AreDistinct x) (sym new) (distinct_push c.loop-row.last c.loop-row.benches bench key inv.ends c.in_ok-key.ensures is inv.distinct);
      ends = subst (λ (x : List Bench). UpTo (named key) x) (sym new) (end_push c.loop-row.last c.loop-row.benches bench key inv.ends c.in_ok-key.ensures is);
    }
