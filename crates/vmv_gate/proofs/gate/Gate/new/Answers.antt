-- The type keeps two laws of reports.
use Rattle.std.proofs.Common.{ap}
use Rattle.vmv_report.specs.declared.report.Report.{Report}
use Rattle.vmv_report_json.specs.Json.{report_json}
use Rattle.vmv_gate.proofs.gate.Gate.new.Goals as goal

pub invariant_of-result : goal.invariant_of-result
invariant_of-result g c =
    record {
      some = c.requires.some;
      few = c.requires.few;
      one_report = λ base revision one other is a b.
          let same = c.reports_are_unique.ensures base revision one other is a b in (ap (λ (r : Report). r.verdict) same, ap (λ (r : Report). report_json r revision) same);
      true_verdicts = c.correct_verdicts_hold.ensures;
    }
