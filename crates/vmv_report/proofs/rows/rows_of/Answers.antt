use Rattle.std.proofs.Common.{get_or, refl}
use Rattle.vmv_snapshot.specs.declared.code.ProcId.{ProcId}
use Rattle.vmv_report.specs.Work.{review_of}
use Rattle.vmv_report.proofs.Telling.{no_told}
use Rattle.vmv_report.proofs.Entered.{entry_at, sites_at, told_start, told_here, told_next, told_all}
use Rattle.vmv_report.proofs.rows.rows_of.Goals as goal

pub loop-place-init : goal.loop-place-init
loop-place-init c = told_start (review_of c.args.judging.now) c.args.judging.now.entries.now _ (no_told (review_of c.args.judging.now) _ c.new.ensures c.new-2.ensures refl)

pub returns-clause-rows : goal.returns-clause-rows
returns-clause-rows c = told_all (review_of c.args.judging.now) c.args.judging.now.entries.now c.requires.ready.entries c.loop-place.place c.loop-place.told c.loop-place-test.false c.loop-place.invariant

pub returns-clause-witnesses : goal.returns-clause-witnesses
returns-clause-witnesses c = c.loop-place.invariant.told_is.witnesses

pub add_procs-requires-clause-sites : goal.add_procs-requires-clause-sites
add_procs-requires-clause-sites c =
    sites_at (review_of c.args.judging.now) c.args.judging.now.entries.now c.args.sites.now c.loop-place.place (record { 0 = 0 }) c.index-sites-place.result c.requires.sites c.loop-place-test.true c.index-sites-place.is

pub add_procs-requires-clause-before : goal.add_procs-requires-clause-before
add_procs-requires-clause-before c =
    let entries = c.args.judging.now.entries.now in
    let zero : ProcId = record { 0 = 0 } in
    told_here (review_of c.args.judging.now) entries c.requires.ready.entries c.loop-place.place (get_or entries c.loop-place.place zero) c.loop-place.told (entry_at entries c.loop-place.place zero c.loop-place-test.true) c.loop-place.invariant

pub loop-place-preserved : goal.loop-place-preserved
loop-place-preserved c =
    let entries = c.args.judging.now.entries.now in
    let zero : ProcId = record { 0 = 0 } in
    told_next (review_of c.args.judging.now) entries c.requires.ready.entries c.loop-place.place (get_or entries c.loop-place.place zero) _ (entry_at entries c.loop-place.place zero c.loop-place-test.true) c.in_ok-add_procs.ensures
