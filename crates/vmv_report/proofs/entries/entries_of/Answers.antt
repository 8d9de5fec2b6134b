use Rattle.std.proofs.Common.{◌≡◌, ℕ, length, subst, arith}
use Rattle.vmv_snapshot.specs.Resolution.{procs_of}
use Rattle.vmv_report.specs.Work.{AreEntries}
use Rattle.vmv_report.proofs.Entered.{no_entries}
use Rattle.vmv_report.proofs.entries.entries_of.Goals as goal

pub loop-number-init : goal.loop-number-init
loop-number-init c = no_entries c.args.revision.now _ c.new-entries.ensures

pub returns : goal.returns
returns c =
    let end : c.loop-number.number ≡ length (procs_of c.args.revision.now) = omega (arith, c.proc_count-number-end.ensures) in
    subst (λ (n : ℕ). AreEntries c.args.revision.now n c.loop-number.entries) end c.loop-number.invariant
