-- What the entries of a revision are judged with may be lent to threads.
use base.Fml.{Lft}
use mir.Syntax.{Lifetime}
use denote.Ref.{NamedLft}
use denote.Slice.{ShrSlice}
use denote.Param.Send.{IsSync, sendable}
use denote.Param.SendFields.{declared_sync}
use Rattle.std.specs.contracts.option.Option.{the_row as OptionOf}
use Rattle.sqlite_items.proofs.items.Items.TheSendSync as items
use Rattle.vmv_lent.proofs.Snapshots.{snapshot_sync}
use Rattle.vmv_assumption.specs.contracts.assumed.Assumption as Assumption
use Rattle.vmv_assumption.proofs.assumed.Assumption.TheSendSync as assumption
use Rattle.vmv_proof.specs.contracts.proof.Shown as Shown
use Rattle.vmv_proof.proofs.proof.Shown.TheSendSync as shown
use Rattle.vmv_snapshot.proofs.code.ProcId.TheSendSync as proc_id
use Rattle.vmv_tree.proofs.ends.NameEnds.TheSendSync as name_ends
use Rattle.vmv_report.specs.contracts.proving.Judging as Judging

enough_sync : IsSync (OptionOf Assumption.the_row)
enough_sync = let a = assumption.the_sync in search sendable depth 12

shown_sync : (ℓ : Lifetime) (κ : Lft) → IsSync (OptionOf (ShrSlice ℓ κ Shown.the_row))
shown_sync ℓ κ = let s = shown.the_sync in search sendable depth 12

pub judging_sync : (n : NamedLft) → IsSync (Judging.the_row n)
judging_sync n =
    let base = snapshot_sync in
    let entries = proc_id.the_sync in
    let ends = items.the_sync _ name_ends.the_sync in
    let assumed = assumption.the_sync in
    let enough = enough_sync in
    let tables = shown.the_sync in
    declared_sync (Judging.the_type n) (
      search sendable depth 12,
      (
        search sendable depth 12,
        (
          search sendable depth 12,
          (
            search sendable depth 12,
            (
              search sendable depth 12,
              (
                search sendable depth 12,
                (search sendable depth 12, tt),
              ),
            ),
          ),
        ),
      ),
    )
