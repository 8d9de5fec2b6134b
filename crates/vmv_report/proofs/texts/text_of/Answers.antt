use Rattle.vmv_report.proofs.Reporting.{report_rows_inside, report_shown_inside}
use Rattle.vmv_report.proofs.texts.text_of.Goals as goal

pub vacuous_text-requires : goal.vacuous_text-requires
vacuous_text-requires c = report_shown_inside c.args.base.now c.args.revision.now c.args.report.now _ c.requires c.in-Some.is

pub reviewed_text-requires : goal.reviewed_text-requires
reviewed_text-requires c = report_rows_inside c.args.base.now c.args.revision.now c.args.report.now c.requires c.in-None.is
