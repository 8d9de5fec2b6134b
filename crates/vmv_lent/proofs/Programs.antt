-- A program may be lent and sent to threads. Its statements hold statements, so the law of theirs is that of the ring that ties them.
use denote.Param.Send.{IsSend, IsSync, plain_send, plain_sync, recorded_send, recorded_sync}
use denote.Param.SendFields.{declared_send, declared_sync, variants_send, variants_sync}
use Rattle.sqlite_items.proofs.items.Items.TheSendSync as items
use Rattle.vmv_tree.proofs.name.Name.TheSendSync as name
use Rattle.vmv_tree.proofs.tree.Op.TheSendSync as op
use Rattle.vmv_tree.proofs.tree.Operand.TheSendSync as operand
use Rattle.vmv_tree.proofs.tree.Param.TheSendSync as param
use Rattle.vmv_tree.proofs.tree.Test.TheSendSync as test
use Rattle.vmv_tree.proofs.tree.Stmt.TheLaws.TheKnot.{send-Stmt, sync-Stmt}
use Rattle.vmv_tree.specs.contracts.tree.Body as Body
use Rattle.vmv_tree.specs.contracts.tree.Item as Item
use Rattle.vmv_tree.specs.contracts.tree.Program as Program
use Rattle.vmv_tree.specs.contracts.tree.Stmt as Stmt

pub stmt_send : IsSend Stmt.the_row
stmt_send =
    recorded_send (Stmt.the_field).row _ _ (Stmt.the_type).to_one
    (send-Stmt name.the_send operand.the_field_send op.the_field_send (items.the_send _ operand.the_send) test.the_field_send items.the_send (plain_send _ _ _ _ _))

pub stmt_sync : IsSync Stmt.the_row
stmt_sync =
    recorded_sync (Stmt.the_field).row _ _ (Stmt.the_type).to_one
    (sync-Stmt name.the_sync operand.the_field_sync op.the_field_sync (items.the_sync _ operand.the_sync) test.the_field_sync items.the_sync (plain_sync _ _ _ _ _))

pub body_send : IsSend Body.the_row
body_send = declared_send Body.the_type (items.the_send _ name.the_send, (items.the_send _ stmt_send, (operand.the_send, tt)))

pub body_sync : IsSync Body.the_row
body_sync = declared_sync Body.the_type (items.the_sync _ name.the_sync, (items.the_sync _ stmt_sync, (operand.the_sync, tt)))

pub item_send : IsSend Item.the_row
item_send = variants_send Item.enum (
  (name.the_send, (plain_send _ _ _ _ _, tt)),
  ((name.the_send, (items.the_send _ name.the_send, (body_send, tt))), ((name.the_send, (items.the_send _ param.the_send, (body_send, tt))), tt)),
)

pub item_sync : IsSync Item.the_row
item_sync = variants_sync Item.enum (
  (name.the_sync, (plain_sync _ _ _ _ _, tt)),
  ((name.the_sync, (items.the_sync _ name.the_sync, (body_sync, tt))), ((name.the_sync, (items.the_sync _ param.the_sync, (body_sync, tt))), tt)),
)

pub program_send : IsSend Program.the_row
program_send = declared_send Program.the_type (items.the_send _ item_send, tt)

pub program_sync : IsSync Program.the_row
program_sync = declared_sync Program.the_type (items.the_sync _ item_sync, tt)
