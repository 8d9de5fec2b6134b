use Rattle.std.proofs.Common.{Some, None, refl, sym, subst}
use Rattle.vmv_tree.specs.declared.site.NamedSite.{NamedSite}
use Rattle.vmv_report.specs.declared.row.ReportRow.{ReportRow}
use Rattle.vmv_report.specs.declared.told.Told.{Told}
use Rattle.vmv_report.specs.Work.{review_of, IsInBoth}
use Rattle.vmv_report.proofs.Listing.{in_order}
use Rattle.vmv_report.proofs.Naming.{named_read}
use Rattle.vmv_report.proofs.Passing.{told_by, next_is_listed, passed_on}
use Rattle.vmv_report.proofs.Telling.{one_told, class_right, told_other, on_ok}
use Rattle.vmv_report.proofs.rows.add_row.Goals as goal

pub returns-in-Some-clause-told : goal.returns-in-Some-clause-told
returns-in-Some-clause-told c =
    let program = c.args.judging.now.revision.now in
    let row : ReportRow = record { entry = c.args.entry; site = c.args.site; class = c.in-Some.class } in
    let new : Told = record { rows = c.push.new.self; witnesses = c.args.told.now.witnesses; regressions = c.args.told.now.regressions } in
    let site : NamedSite = record { proc = c.proc_name-proc.result; index = c.args.site.index } in
    let named = named_read program c.args.site c.proc_name-proc.result c.proc_name-proc.ensures in
    let lists = in_order (review_of c.args.judging.now) c.args.entry.0 c.args.sites.now c.requires.sites in
    let always = next_is_listed program c.requires.resolution c.args.entry.0 c.args.sites.now.always lists.0 c.args.site.proc.0 c.args.ahead.now.always.now site c.proc_name-proc.ensures c.requires.ahead.0 in
    let relative = next_is_listed program c.requires.resolution c.args.entry.0 c.args.sites.now.relative lists.1 c.args.site.proc.0 c.args.ahead.now.relative.now site c.proc_name-proc.ensures c.requires.ahead.1 in
    let class = told_by (Some c.in-Some.class) always relative c.in-Some.ensures.class in
    on_ok c.push.result c.push.ensures.ok
    (λ grown. one_told (review_of c.args.judging.now) c.args.entry.0 c.args.site.proc.0 c.args.site.index row c.args.told.now new grown refl refl refl c.requires.place
    (class_right (review_of c.args.judging.now) c.args.told.now.rows c.args.sites.now site row c.requires.sites named class)
    (told_other c.args.sites.now site c.in-Some.class class) c.requires.before)

pub returns-in-Some-clause-ahead : goal.returns-in-Some-clause-ahead
returns-in-Some-clause-ahead c =
    let program = c.args.judging.now.revision.now in
    let site : NamedSite = record { proc = c.proc_name-proc.result; index = c.args.site.index } in
    let lists = in_order (review_of c.args.judging.now) c.args.entry.0 c.args.sites.now c.requires.sites in (
      passed_on program c.requires.resolution c.args.entry.0 c.args.sites.now.always lists.0 c.args.site.proc.0 c.args.ahead.now.always.now _ site c.proc_name-proc.ensures c.in-Some.ensures.always c.requires.ahead.0,
      passed_on program c.requires.resolution c.args.entry.0 c.args.sites.now.relative lists.1 c.args.site.proc.0 c.args.ahead.now.relative.now _ site c.proc_name-proc.ensures c.in-Some.ensures.relative c.requires.ahead.1,
    )

pub returns-in-None-clause-ahead : goal.returns-in-None-clause-ahead
returns-in-None-clause-ahead c =
    let program = c.args.judging.now.revision.now in
    let site : NamedSite = record { proc = c.proc_name-proc.result; index = c.args.site.index } in
    let lists = in_order (review_of c.args.judging.now) c.args.entry.0 c.args.sites.now c.requires.sites in (
      passed_on program c.requires.resolution c.args.entry.0 c.args.sites.now.always lists.0 c.args.site.proc.0 c.args.ahead.now.always.now _ site c.proc_name-proc.ensures c.in-None.ensures.always c.requires.ahead.0,
      passed_on program c.requires.resolution c.args.entry.0 c.args.sites.now.relative lists.1 c.args.site.proc.0 c.args.ahead.now.relative.now _ site c.proc_name-proc.ensures c.in-None.ensures.relative c.requires.ahead.1,
    )

pub add_unproved-requires-clause-unproved : goal.add_unproved-requires-clause-unproved
add_unproved-requires-clause-unproved c =
    let program = c.args.judging.now.revision.now in
    let site : NamedSite = record { proc = c.proc_name-proc.result; index = c.args.site.index } in
    let named = named_read program c.args.site c.proc_name-proc.result c.proc_name-proc.ensures in
    let lists = in_order (review_of c.args.judging.now) c.args.entry.0 c.args.sites.now c.requires.sites in
    let always = next_is_listed program c.requires.resolution c.args.entry.0 c.args.sites.now.always lists.0 c.args.site.proc.0 c.args.ahead.now.always.now site c.proc_name-proc.ensures c.requires.ahead.0 in
    let relative = next_is_listed program c.requires.resolution c.args.entry.0 c.args.sites.now.relative lists.1 c.args.site.proc.0 c.args.ahead.now.relative.now site c.proc_name-proc.ensures c.requires.ahead.1 in
    let both : IsInBoth c.args.sites.now site = told_by None always relative c.in-None.ensures.class in
    subst (λ (x : NamedSite). IsInBoth c.args.sites.now x) (sym named) both
