-- A snapshot may be lent and sent to threads.
use denote.Builtin.{u128}
use denote.Param.Send.{IsSend, IsSync, plain_send, plain_sync, recorded_send, recorded_sync, view_send, view_sync, sendable}
use denote.Param.SendFields.{declared_send, declared_sync, as_row_send, as_row_sync}
use Rattle.std.proofs.Crossing as heap
use Rattle.std.specs.contracts.alloc.Global as Heap
use Rattle.std.specs.contracts.hash.BuildHasherDefault as Hashes
use Rattle.std.specs.contracts.hash.FoldHasher as Hasher
use Rattle.std.specs.contracts.impls.GlobalAllocator.TheImpl.{ghosts}
use Rattle.std.specs.contracts.vec.Vec as Vec
use Rattle.indexmap.proofs.set.IndexSet.TheSendSync as index_set
use Rattle.sqlite_items.proofs.items.Items.TheSendSync as items
use Rattle.vmv_tree.proofs.name.Name.TheSendSync as name
use Rattle.vmv_tree.proofs.tree.Param.TheSendSync as param
use Rattle.vmv_tree.specs.contracts.name.Name as Name
use Rattle.vmv_snapshot.proofs.code.CodeOperand.TheSendSync as operand
use Rattle.vmv_snapshot.proofs.code.CodeTest.TheSendSync as test
use Rattle.vmv_snapshot.proofs.code.ProcId.TheSendSync as proc_id
use Rattle.vmv_snapshot.proofs.code.Simple.TheSendSync as simple
use Rattle.vmv_snapshot.proofs.code.Slot.TheSendSync as slot
use Rattle.vmv_snapshot.proofs.code.CodeStmt.TheLaws.TheKnot.{send-CodeStmt, sync-CodeStmt}
use Rattle.vmv_snapshot.specs.contracts.code.Code as Code
use Rattle.vmv_snapshot.specs.contracts.code.CodeStmt as CodeStmt
use Rattle.vmv_snapshot.specs.contracts.snapshot.Snapshot as Snapshot
use Rattle.vmv_snapshot.specs.contracts.snapshot.Snapshot.TheInside as Inside
use Rattle.vmv_snapshot.specs.contracts.tables.Proc as Proc
use Rattle.vmv_snapshot.specs.contracts.tables.Tables as Tables
use Rattle.vmv_lent.proofs.Programs.{program_send, program_sync}

pub code_stmt_send : IsSend CodeStmt.the_row
code_stmt_send =
    recorded_send (CodeStmt.the_field).row _ _ (CodeStmt.the_type).to_one
    (send-CodeStmt simple.the_field_send slot.the_field_send proc_id.the_field_send (items.the_send _ operand.the_send) test.the_field_send items.the_send operand.the_field_send (plain_send _ _ _ _ _) (plain_send _ _ _ _ _))

pub code_stmt_sync : IsSync CodeStmt.the_row
code_stmt_sync =
    recorded_sync (CodeStmt.the_field).row _ _ (CodeStmt.the_type).to_one
    (sync-CodeStmt simple.the_field_sync slot.the_field_sync proc_id.the_field_sync (items.the_sync _ operand.the_sync) test.the_field_sync items.the_sync operand.the_field_sync (plain_sync _ _ _ _ _) (plain_sync _ _ _ _ _))

pub code_send : IsSend Code.the_row
code_send = declared_send Code.the_type (plain_send _ _ _ _ _, (items.the_send _ code_stmt_send, (operand.the_send, tt)))

pub code_sync : IsSync Code.the_row
code_sync = declared_sync Code.the_type (plain_sync _ _ _ _ _, (items.the_sync _ code_stmt_sync, (operand.the_sync, tt)))

proc_send : IsSend Proc.the_row
proc_send = declared_send Proc.the_type (name.the_send, (plain_send _ _ _ _ _, (items.the_send _ param.the_send, (code_send, (plain_send _ _ _ _ _, tt)))))

proc_sync : IsSync Proc.the_row
proc_sync = declared_sync Proc.the_type (name.the_sync, (plain_sync _ _ _ _ _, (items.the_sync _ param.the_sync, (code_sync, (plain_sync _ _ _ _ _, tt)))))

hashes_send : IsSend (Hashes.the_row Hasher.the_row)
hashes_send = search sendable depth 20

hashes_sync : IsSync (Hashes.the_row Hasher.the_row)
hashes_sync = search sendable depth 20

tables_send : IsSend Tables.the_row
tables_send =
    let names = index_set.the_send Name.the_row (Hashes.the_row Hasher.the_row) Heap.the_row Hasher.the_row _ _ _ _ ghosts name.the_send hashes_send heap.send heap.frees in
    declared_send Tables.the_type (names, (names, (as_row_send (Vec.the_field Proc.the_row Heap.the_row ghosts) (heap.Vec-send Proc.the_row proc_send), tt)))

tables_sync : IsSync Tables.the_row
tables_sync =
    let names = index_set.the_sync Name.the_row (Hashes.the_row Hasher.the_row) Heap.the_row Hasher.the_row _ _ _ _ ghosts name.the_sync hashes_sync heap.sync in
    declared_sync Tables.the_type (names, (names, (as_row_sync (Vec.the_field Proc.the_row Heap.the_row ghosts) (heap.Vec-sync Proc.the_row proc_sync), tt)))

inside_send : IsSend Inside.the_row
inside_send = declared_send Inside.the_type (program_send, (tables_send, (as_row_send (Vec.the_field u128 Heap.the_row ghosts) (heap.Vec-send u128 (plain_send _ _ _ _ _)), tt)))

inside_sync : IsSync Inside.the_row
inside_sync = declared_sync Inside.the_type (program_sync, (tables_sync, (as_row_sync (Vec.the_field u128 Heap.the_row ghosts) (heap.Vec-sync u128 (plain_sync _ _ _ _ _)), tt)))

pub snapshot_send : IsSend Snapshot.the_row
snapshot_send = view_send Inside.the_row _ _ _ _ inside_send

pub snapshot_sync : IsSync Snapshot.the_row
snapshot_sync = view_sync Inside.the_row _ _ _ _ inside_sync
