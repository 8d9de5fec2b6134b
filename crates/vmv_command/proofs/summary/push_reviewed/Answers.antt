use Rattle.std.proofs.Common.{◌≡◌, ◌∙◌, ◌++◌, ap, Some, List, ℕ}
use Rattle.std.proofs.lemmas.Result.{on_ok_weaker}
use Rattle.vmv_report.specs.Texts.{verdict_line, necessary_lines, counts_line}
use Rattle.vmv_command.proofs.Sampling.{four_behind, written}
use Rattle.vmv_command.proofs.summary.push_reviewed.Goals as goal

pub returns : goal.returns
returns c =
    let first : c.extend_from_slice.new.self.items ≡ c.args.out.now.items ++ verdict_line c.args.report.now.verdict =
    c.in_ok-extend_from_slice.ensures.items ∙ ap (λ (t : List ℕ). c.args.out.now.items ++ t) c.verdict_line.ensures in
    on_ok_weaker c.extend_from_slice-3.result
    (λ last.
    four_behind c.args.out.now.items (verdict_line c.args.report.now.verdict) (necessary_lines (Some c.args.held.now)) _ _ _ _ _ _ first c.in_ok-push_held.ensures
    (c.in_ok-extend_from_slice-2.ensures.items ∙ ap (λ (t : List ℕ). c.push_held.new.out.items ++ t) (c.as_bytes.ensures.value ∙ c.in_ok-exclusions.ensures))
    (last ∙ ap (λ (t : List ℕ). c.extend_from_slice-2.new.self.items ++ t) (c.as_bytes-2.ensures.value ∙ (c.in_ok-counts.ensures ∙ ap counts_line c.as_slice.ensures))))
    (written c.extend_from_slice-3.result c.extend_from_slice-3.new.self.items (c.extend_from_slice-2.new.self.items ++ c.as_bytes-2.result.now) c.extend_from_slice-2.new.self.items
    c.extend_from_slice-3.ensures.items)
