-- The rows so far are those of the numbers so far.
use Rattle.std.proofs.Common.{◌≡◌, drop}
use Rattle.vmv_keeper.specs.Outside.{OfTold}
use Rattle.vmv_desk.specs.Asked.{rows_in, put_all}
use Rattle.vmv_desk.proofs.asking.pending_rows.Given as goal

abbrev pub invariant-loop-number : goal.invariant-loop-number
invariant-loop-number g l = record {
  kept : g.K.Keeper.told l.keeper ≡ g.K.Keeper.told l.initial.keeper;
  counted : g.K.Keeper.fault_count l.keeper ≡ g.K.Keeper.fault_count l.initial.keeper;
  seen : OfTold (g.K.Keeper.told l.initial.keeper) (λ t. rows_in l.owner l.project l.numbers t ≡ put_all l.rows (rows_in l.owner l.project (drop l.number-index l.numbers) t));
}
