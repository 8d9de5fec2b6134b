use Rattle.std.proofs.Common.{◌≡◌, ◌++◌, ap, ◌∙◌}
use Rattle.std.specs.Prelude.{codes}
use Rattle.std.specs.Fmt.{decimal}
use Rattle.std.specs.Vec.{vec_items}
use Rattle.vmv_request.proofs.Joining.{report_joined}
use Rattle.vmv_request.proofs.replies.report_body.Goals as goal

pub returns : goal.returns
returns c =
    c.from_vec.ensures ∙ c.in_ok-extend_from_slice-2.ensures.items
    ∙ ap (λ l. l ++ codes "}") (c.in_ok-extend_from_slice.ensures.items
    ∙ ap (λ l. l ++ c.bytes.result.now) (ap vec_items c.into_bytes-body.ensures.value ∙ c.in_ok-front.ensures.ok)
    ∙ ap (λ l. (codes "{\"against\":" ++ (decimal c.args.against ++ codes ",\"ok\":true,\"report\":")) ++ l) c.bytes.ensures)
    ∙ report_joined (decimal c.args.against) c.args.json.now
