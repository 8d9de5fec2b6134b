use Rattle.std.proofs.Common.{ap, ◌∙◌}
use Rattle.serde_json.specs.Written.{has_float}
use Rattle.vmv_request.proofs.Whole.{history_whole}
use Rattle.vmv_request.proofs.replies.history_body.Goals as goal

pub written-requires : goal.written-requires
written-requires c = ap has_float c.in_ok-value.ensures ∙ history_whole c.args.rows.now
