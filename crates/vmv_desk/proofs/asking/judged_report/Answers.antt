-- The report is what the judge says.
use Rattle.vmv_desk_rules.proofs.HeardLemmas.{by_comparing}
use Rattle.std.proofs.Common.{ap, sym, ◌∙◌}
use Rattle.vmv_desk_rules.specs.Step.{report_of}
use Rattle.vmv_desk.proofs.SaidLemmas.{each_ok}
use Rattle.vmv_desk.proofs.asking.judged_report.Goals as goal

pub returns-clause-reply : goal.returns-clause-reply
returns-clause-reply g c =
    let judge = c.args.judge.now in
    let I = g.J.Judge.inspected judge in
    let C = g.J.Judge.compared judge in
    each_ok c.report.result _ _ c.report.ensures.reply
    (λ reply h. by_comparing I C _ c.args.root.now c.args.text.now c.in_ok-said.said c.in_ok-said.ensures (λ M e. h ∙ ap (report_of c.args.against) (sym e)))
