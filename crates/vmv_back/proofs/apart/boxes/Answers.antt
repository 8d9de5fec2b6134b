use Rattle.std.proofs.Common.{length, ap, ◌∙◌, arith}
use Rattle.vmv_snapshot.specs.View.{block_of, code_of}
use Rattle.vmv_back.specs.Facts.{slots_of}
use Rattle.vmv_back.specs.Boxes.{boxes_inside, is_fixed, is_nonempty, full_box, same_box}
use Rattle.vmv_back.specs.Kept.{keep, with_boxes}
use Rattle.vmv_back.proofs.Params.{entry_params}
use Rattle.vmv_back.proofs.Whole.{boxes_kept}
use Rattle.vmv_back.proofs.apart.boxes.Goals as goal

pub full_box-full-requires : goal.full_box-full-requires
full_box-full-requires c =
    let good = entry_params _ c.program.ensures.resolution.valid _ _ c.requires c.params-params.ensures in
    omega (arith, good.0, ap length c.as_slice.ensures)

pub keep_inside-requires-clause-nonempty : goal.keep_inside-requires-clause-nonempty
keep_inside-requires-clause-nonempty c =
    let good = entry_params _ c.program.ensures.resolution.valid _ _ c.requires c.params-params.ensures in
    ap is_nonempty (c.full_box-full.ensures ∙ ap full_box c.as_slice.ensures) ∙ good.1

pub returns : goal.returns
returns c =
    let good = entry_params _ c.program.ensures.resolution.valid _ _ c.requires c.params-params.ensures in
    record {
      params = c.params-params.result.now;
      code = c.code-code.result.now;
      takes = c.params-params.ensures;
      does = c.code-code.ensures.kept;
      boxes_are =
          boxes_kept c.params-params.result.now (code_of c.code-code.result.now) c.fixed-slots.result c.full_box-full.result c.keep.new.boxes c.keep_inside.new.boxes
          (c.full_box-full.ensures ∙ ap full_box c.as_slice.ensures) good.1
          (λ x. c.fixed-slots.ensures x ∙ (λ i. is_fixed (c.len.ensures i) (block_of (c.as_slice-2.ensures i)) x))
          (c.in_ok-keep.ensures ∙ ap (λ b. keep 16 same_box b c.full_box-full.result) c.new-boxes.ensures)
          (c.in_ok-keep_inside.ensures ∙ (λ i. with_boxes c.keep.new.boxes (boxes_inside (slots_of c.fixed-slots.result) c.full_box-full.result (block_of (c.as_slice-3.ensures i)))));
    }
