use Rattle.std.proofs.Common.{◌≤◌, sym, subst, length}
use Rattle.vmv_text.proofs.Faulty.{left_short, read_fault, text_made}
use Rattle.vmv_text.proofs.read.read_items.Goals as goal

pub fault_at-requires-clause-within : goal.fault_at-requires-clause-within
fault_at-requires-clause-within c =
    subst (λ n. n ≤ length c.args.text.now) (sym c.left.ensures) (left_short c.args.text.now _ c.items.new.self c.new-cursor.ensures (rw c.in-Err-Syntax.field-0-is at c.in-Err-Syntax.ensures))

pub returns-in-Ok-clause-text : goal.returns-in-Ok-clause-text
returns-in-Ok-clause-text c =
    let k = c.in-Ok.ensures in
    (k.0, k.1, text_made c.args.text.now _ k.0 c.new-cursor.ensures c.requires.utf8 k.2)

pub returns-in-Err-Syntax-clause-fault : goal.returns-in-Err-Syntax-clause-fault
returns-in-Err-Syntax-clause-fault c =
    read_fault c.fault_at.result c.args.text.now _ c.items.new.self c.left.result c.new-cursor.ensures (rw c.in-Err-Syntax.field-0-is at c.in-Err-Syntax.ensures) c.left.ensures c.requires.short c.requires.utf8 c.fault_at.ensures
