use Rattle.std.proofs.Common.{◌+◌, refl, sym}
use Rattle.vmv_tree.specs.declared.site.NamedSite.{NamedSite}
use Rattle.vmv_report.specs.declared.class.Class.TheVariants.{Regression, Alarm}
use Rattle.vmv_report.specs.declared.row.ReportRow.{ReportRow}
use Rattle.vmv_report.specs.declared.told.Told.{Told}
use Rattle.vmv_report.specs.Rows.{named_site}
use Rattle.vmv_report.specs.Work.{review_of}
use Rattle.vmv_report.proofs.Naming.{named_read}
use Rattle.vmv_report.proofs.Telling.{one_told, one_more_run, neither, run_is, stays, next_is, none_is, on_ok, runs_found}
use Rattle.vmv_report.proofs.rows.add_unproved.Goals as goal

pub returns-in_ok-push-in-Some : goal.returns-in_ok-push-in-Some
returns-in_ok-push-in-Some c =
    let row : ReportRow = record { entry = c.args.entry; site = c.args.site; class = Regression } in
    let new : Told = record { rows = c.push-in-Some.new.self; witnesses = c.push.new.self; regressions = c.args.told.now.regressions + 1 } in
    let site : NamedSite = named_site c.args.judging.now.revision.now c.args.site in
    let no = neither (review_of c.args.judging.now) c.args.sites.now row c.requires.sites c.requires.unproved in
    let run = run_is c.args.judging.now.revision.now c.args.judging.now.enough.now c.args.sites.now.found c.args.told.now.rows row c.in_ok-run-in-Some.run'
    (runs_found (review_of c.args.judging.now) c.args.entry.0 c.args.sites.now site c.requires.sites c.requires.unproved)
    (next_is c.requires.before.counted c.as_slice.ensures (sym (named_read c.args.judging.now.revision.now c.args.site c.proc_name-proc.result c.proc_name-proc.ensures))
    (sym c.in_ok-run-in-Some.ensures) c.in-Some.ensures.some) in
    on_ok c.push-in-Some.result c.push-in-Some.ensures.ok
    (λ grown. one_more_run (review_of c.args.judging.now) c.args.entry.0 c.args.site.proc.0 c.args.site.index row c.in_ok-run-in-Some.run' c.args.told.now new grown c.in_ok-push-in-Some.ensures.ok refl refl c.requires.place
    (no.0, no.1, run.0) refl run.1 c.requires.before)

pub returns-in-None : goal.returns-in-None
returns-in-None c =
    let row : ReportRow = record { entry = c.args.entry; site = c.args.site; class = Alarm } in
    let new : Told = record { rows = c.push-in-None.new.self; witnesses = c.args.told.now.witnesses; regressions = c.args.told.now.regressions } in
    let site : NamedSite = named_site c.args.judging.now.revision.now c.args.site in
    let no = neither (review_of c.args.judging.now) c.args.sites.now row c.requires.sites c.requires.unproved in
    let stay = stays c.args.judging.now.revision.now c.args.judging.now.enough.now c.args.sites.now.found c.args.told.now.rows row
    (runs_found (review_of c.args.judging.now) c.args.entry.0 c.args.sites.now site c.requires.sites c.requires.unproved)
    (none_is c.requires.before.counted c.as_slice.ensures (sym (named_read c.args.judging.now.revision.now c.args.site c.proc_name-proc.result c.proc_name-proc.ensures)) c.in-None.ensures.none) in
    on_ok c.push-in-None.result c.push-in-None.ensures.ok
    (λ grown. one_told (review_of c.args.judging.now) c.args.entry.0 c.args.site.proc.0 c.args.site.index row c.args.told.now new grown refl refl refl c.requires.place (no.0, no.1, stay) refl c.requires.before)
