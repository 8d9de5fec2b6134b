use Rattle.std.proofs.Common.{inl, inr, ap, ap₂, ◌++◌, ◌∙◌, List, ℕ}
use Rattle.vmv_snapshot.specs.Resolution.{Resolution}
use Rattle.vmv_report.specs.Texts.{report_text}
use Rattle.vmv_command.proofs.review.judged_output.Goals as goal

pub returns : goal.returns
returns c =
    let text = c.in_ok-text.ensures
    ∙ ap₂ (λ (a b : List ℕ). a ++ b) (c.in_ok-report_text.ensures ∙ ap (λ (b : Resolution). report_text c.args.judged.now.report b c.args.revision.now) c.base-base.ensures.base) c.in_ok-proof_text.ensures in
    (c.args.judged.now.report, c.requires.report, inr (c.args.judged.now.proof, c.requires.proof, inl (c.requires.within, text, c.status_of.ensures.same)))
