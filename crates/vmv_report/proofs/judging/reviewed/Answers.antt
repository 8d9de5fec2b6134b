use Rattle.std.proofs.Common.{List, Option, length, sym, subst, ◌∙◌}
use Rattle.vmv_snapshot.specs.declared.code.ProcId.{ProcId}
use Rattle.vmv_snapshot.specs.Resolution.{procs_of}
use Rattle.vmv_tree.specs.declared.name.Name.{Name}
use Rattle.vmv_cond.specs.declared.cond.Cond.{Cond}
use Rattle.vmv_report.specs.Reports.{IsReviewed}
use Rattle.vmv_report.specs.Work.{AreEntries}
use Rattle.vmv_report.proofs.Reporting.{reviewed_report, sufficing}
use Rattle.vmv_report.proofs.Sufficing.{answers_everywhere}
use Rattle.vmv_report.proofs.judging.reviewed.Goals as goal

pub review-requires-clause-ready : goal.review-requires-clause-ready
review-requires-clause-ready g c = λ κs within.
    let is = sufficing c.args.baseline.now _ _ c.enough.ensures.found c.requires.needed.1 in
    record {
      is_resolution = c.program.ensures.resolution;
      whole = λ i name. c.in_ok-whole.ensures.conds name i;
      nonempty = λ held e. answers_everywhere c.args.baseline.now.base c.args.revision.now held (is.names held (sym c.enough.ensures.enough ∙ e)) (is.nonempty held (sym c.enough.ensures.enough ∙ e));
      shown = c.requires.shown;
      entries = subst (λ (es : List ProcId). AreEntries c.args.revision.now (length (procs_of c.args.revision.now)) es) (sym c.as_slice.ensures) c.in_ok-entries.ensures;
    }

pub returns : goal.returns
returns g c =
    reviewed_report c.args.baseline.now c.args.revision.now c.in_ok-report.report _ _ c.enough.ensures.found c.requires.needed.1 c.args.ends.now c.requires.ends
    (subst (λ (o : Option (List (Name × Cond))). IsReviewed c.args.revision.now c.args.ends.now c.args.needed.now o c.in_ok-report.report) c.enough.ensures.enough c.in_ok-report.ensures)
