use Rattle.std.proofs.Common.{◌≡◌, ◌+◌, length, sym, arith}
use Rattle.vmv_snapshot.specs.Resolution.{procs_of}
use Rattle.vmv_report.specs.Work.{review_of}
use Rattle.vmv_report.proofs.Gathering.{procs_done}
use Rattle.vmv_report.proofs.Counting.{none_counted}
use Rattle.vmv_report.proofs.Listing.{in_order}
use Rattle.vmv_report.proofs.Passing.{all_ahead}
use Rattle.vmv_report.proofs.rows.add_procs.Goals as goal

pub returns : goal.returns
returns c =
    let end : c.loop-number.number ≡ length (procs_of c.args.judging.now.revision.now) = omega (arith, c.proc_count-number-end.ensures) in
    let rows = procs_done (review_of c.args.judging.now) c.args.entry.0 c.loop-number.number c.loop-number.told.rows end c.loop-number.invariant.0.rows in
    record { rows = rows; witnesses = c.loop-number.invariant.0.witnesses; counted = sym (none_counted (review_of c.args.judging.now) (c.args.entry.0 + 1) c.loop-number.told.rows rows) }

pub loop-number-init : goal.loop-number-init
loop-number-init c =
    let program = c.args.judging.now.revision.now in
    let lists = in_order (review_of c.args.judging.now) c.args.entry.0 c.args.sites.now c.requires.sites in (
      c.requires.before,
      (
        all_ahead program c.requires.resolution c.args.entry.0 c.args.sites.now.always lists.0 _ c.as_slice.ensures,
        all_ahead program c.requires.resolution c.args.entry.0 c.args.sites.now.relative lists.1 _ c.as_slice-2.ensures,
      ),
    )
