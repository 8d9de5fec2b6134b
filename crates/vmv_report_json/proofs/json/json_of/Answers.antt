use Rattle.std.proofs.Common.{ap, ◌∙◌}
use Rattle.serde_json.specs.Written.{has_float}
use Rattle.vmv_report_json.proofs.Inside.{report_inside}
use Rattle.vmv_report_json.proofs.Whole.{report_whole}
use Rattle.vmv_report_json.proofs.json.json_of.Goals as goal

pub report_value-requires : goal.report_value-requires
report_value-requires c = report_inside c.args.base.now c.args.revision.now c.args.report.now c.requires

pub written-requires : goal.written-requires
written-requires c = ap has_float c.in_ok-value.ensures ∙ report_whole c.args.report.now c.args.revision.now
