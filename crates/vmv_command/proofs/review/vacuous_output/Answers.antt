use Rattle.std.proofs.Common.{inl, ap, ◌∙◌}
use Rattle.vmv_snapshot.specs.Resolution.{Resolution}
use Rattle.vmv_report.specs.Texts.{report_text}
use Rattle.vmv_command.proofs.Reviewing.{vacuous_four}
use Rattle.vmv_command.proofs.review.vacuous_output.Goals as goal

pub returns : goal.returns
returns g c =
    let four = vacuous_four c.baselines_are_unique.ensures c.args.found.now c.args.revision.now c.in_ok-report.report c.base-base.ensures.found c.in_ok-report.ensures c.requires.vacuous in
    let text = c.in_ok-text.ensures ∙ ap (λ (b : Resolution). report_text c.in_ok-report.report b c.args.revision.now) c.base-base.ensures.base in
    (c.in_ok-report.report, c.in_ok-report.ensures, inl (four, (text, c.status_of.ensures.same)))
