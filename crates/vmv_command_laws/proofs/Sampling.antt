-- The sample of a number has one output.
use Rattle.std.proofs.Common.{◌≡◌, ℕ, ◌≤◌, ◌%◌, List, length, codes, sym, ap₂, subst, arith, ◌∙◌}
use Rattle.vmv_tree.specs.Tree.{Item}
use Rattle.vmv_snapshot.specs.Resolution.{Resolution}
use Rattle.vmv_report.specs.declared.report.Report.{Report}
use Rattle.vmv_report.specs.Baselines.{Based}
use Rattle.vmv_report.specs.Reports.{IsReport}
use Rattle.vmv_command.specs.Faults.{OnProgram}
use Rattle.vmv_command.specs.Samples.{sample_lines, sample_source, SamplesPrograms, Samples}
use Rattle.vmv_command.specs.Command.{text_most}
use Rattle.vmv_command_laws.proofs.Determined.{OfTexts, OfReviews}
use Rattle.vmv_command_laws.proofs.Files.{IsOne, program_once}

module _ (laws : OfReviews) where
  programs_sampled_once : (number : ℕ) (base revision : List Item) → IsOne (SamplesPrograms number base revision)
  programs_sampled_once number base revision p q s t h g =
      let bases : h.found.base ≡ g.found.base = laws.resolutions h.found.base g.found.base h.base_is.resolution g.base_is.resolution (h.base_is.tree ∙ sym g.base_is.tree) in
      let same : h.found ≡ g.found = laws.baselines h.found g.found bases h.is_baseline g.is_baseline in
      let revisions : h.revision_code ≡ g.revision_code =
      laws.resolutions h.revision_code g.revision_code h.revision_is.resolution g.revision_is.resolution (h.revision_is.tree ∙ sym g.revision_is.tree) in
      let there = subst (λ (it : Based). IsReport it.base h.revision_code h.report) same h.report_is in
      let own : IsReport g.found.base g.revision_code h.report = subst (λ (r : Resolution). IsReport g.found.base r h.report) revisions there in
      let reports : h.report ≡ g.report = laws.reports g.found.base g.revision_code h.report g.report g.base_is.resolution own g.report_is in
      (h.text ∙ (ap₂ (λ (it : Based) (r : Report). sample_lines number it r) same reports ∙ sym g.text), h.fine ∙ sym g.fine)

  -- its texts are short enough to be read
  pub sampled_once : OfTexts → ((more : ℕ) → more ≤ 2 → length (sample_source more) ≤ text_most) → (number : ℕ) → IsOne (Samples number)
  sampled_once texts short number =
      program_once texts (codes "base") (sample_source 0) (λ B. OnProgram (codes "revision") (sample_source (number % 3)) (SamplesPrograms number B)) (short 0 (omega arith))
      (λ B source. program_once texts (codes "revision") (sample_source (number % 3)) (SamplesPrograms number B) (short (number % 3) (omega arith))
      (λ R source'. programs_sampled_once number B R))
