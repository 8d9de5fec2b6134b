use Rattle.std.proofs.Common.{ℕ, List, ◌++◌, ap, ◌∙◌}
use Rattle.vmv_witness.specs.declared.witness.Witness.{Witness}
use Rattle.vmv_report.specs.declared.row.ReportRow.{ReportRow}
use Rattle.vmv_report.specs.Texts.{verdict_line, necessary_lines, sufficient_lines, rows_lines, witnesses_lines}
use Rattle.vmv_report.proofs.Reporting.{put_five}
use Rattle.vmv_report.proofs.texts.reviewed_text.Goals as goal

pub returns : goal.returns
returns c =
    let rows : List ReportRow → List ℕ = λ rs. c.push_sufficient.new.out.items ++ rows_lines c.args.revision.now rs in
    let witnesses : List Witness → List ℕ = λ ws. c.push_rows.new.out.items ++ witnesses_lines ws in
    put_five (verdict_line c.args.report.now.verdict) (necessary_lines c.args.report.now.conditions) (sufficient_lines c.args.report.now.enough) (rows_lines c.args.revision.now c.args.report.now.rows)
    (witnesses_lines c.args.report.now.witnesses) (c.in_ok-out.ensures.items ∙ c.verdict_line.ensures) c.in_ok-push_necessary.ensures c.in_ok-push_sufficient.ensures
    (c.in_ok-push_rows.ensures ∙ ap rows c.as_slice.ensures) (c.in_ok-push_witnesses.ensures ∙ ap witnesses c.as_slice-2.ensures)
