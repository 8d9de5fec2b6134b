use Rattle.std.proofs.Common.{Some, refl, ap, ◌∙◌}
use Rattle.vmv_report.specs.Rows.{verdict_of}
use Rattle.vmv_report.proofs.judging.review.Goals as goal

pub returns : goal.returns
returns g c = record {
  conditions = ap Some c.in_ok-conditions.ensures;
  enough_is = c.in_ok-sufficient.ensures;
  rows = c.in_ok-rows.ensures.rows;
  verdict = c.verdict_of.ensures ∙ ap verdict_of c.as_slice.ensures;
  witnesses = c.in_ok-rows.ensures.witnesses;
  shown_by = refl;
}
