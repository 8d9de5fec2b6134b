-- Changes of one queue among all.
use Rattle.std.proofs.Common.{◌≡◌, ◌<◌, ℕ, Bool, false, List, [], ◌∷◌, ◌++◌, length, Some, ap, arith, slice_set, slice_index_or, Ok, cond, leb}
use Rattle.std.specs.List.{position}
use borrow.Author.Tests.{lt-leb}
use Rattle.vmv_keeper.specs.declared.project.Bench.{Bench}
use Rattle.vmv_keeper.specs.Changes.{changed}
use Rattle.vmv_keeper.proofs.ListChanges.{changed_written}
use Rattle.vmv_desk.specs.Queues.{with_number}

pub changed_set : {X : Type 0} (test : X → Bool) (f : X → X) (xs : List X) (place : ℕ) (old new : X)
    → position test xs ≡ Some place → old ≡ slice_index_or xs place old → new ≡ f old → slice_set xs place new ≡ changed test f xs
changed_set test f xs place old new at read made = changed_written {E = ℕ} test f xs place old new (Ok tt) at read made

-- a number behind fewer than 32 others
pub with_number_below : (number : ℕ) (bench : Bench) → length bench.pending < 32 → with_number number bench ≡ record bench { pending = bench.pending ++ number ∷ [] }
with_number_below number bench few =
    let fewer : leb 32 (length bench.pending) ≡ false = lt-leb 32 (length bench.pending) (omega arith) in
    ap (λ (b : Bool). cond b bench (record bench { pending = bench.pending ++ number ∷ [] })) fewer
