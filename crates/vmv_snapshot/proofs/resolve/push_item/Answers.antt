use Rattle.std.proofs.Common.{subst}
use Rattle.std.specs.Prelude.{Result, Ok, Err, OnOk}
use Rattle.vmv_snapshot.proofs.resolve.push_item.Goals as goal

-- what is said where there is no failure
on_ok : {T E P Q : Type 0} → (r : Result T E) → (P → Q) → OnOk r P → OnOk r Q
on_ok (Ok x) f p = f p
on_ok (Err e) f p = tt

pub returns-in_ok-proc-in-Helper : goal.returns-in_ok-proc-in-Helper
returns-in_ok-proc-in-Helper c =
    rw c.in-Helper.is (on_ok c.push_proc.result (λ more. (c.in_ok-proc-in-Helper.proc, rw c.as_slice.ensures at c.in_ok-proc-in-Helper.ensures, more)) c.push_proc.ensures)

pub returns-in_ok-proc-in-Entry : goal.returns-in_ok-proc-in-Entry
returns-in_ok-proc-in-Entry c =
    rw c.in-Entry.is
    (on_ok c.push_proc-in-Entry.result (λ more. (c.in_ok-proc-in-Entry.proc, rw c.as_slice-in-Entry.ensures at c.in_ok-proc-in-Entry.ensures, more)) c.push_proc-in-Entry.ensures)
