use Rattle.std.proofs.Common.{◌<◌, length, get_or, arith}
use Rattle.std.proofs.lemmas.Option.{slice_get-get_or}
use Rattle.vmv_need.specs.declared.cut.Cut.{Cut}
use Rattle.vmv_proving.proofs.Recorded.{there_at}
use Rattle.vmv_proving.proofs.Frozen.{frozen_more}
use Rattle.vmv_proving.proofs.exclusions.Excluding.cut_on.Goals as goal

pub loop-place-preserved : goal.loop-place-preserved
loop-place-preserved c =
    let self = c.args.self.now in
    let inside : c.loop-place.place < length self.cuts.now = omega (arith, c.loop-place-test.true, c.requires.to) in
    let cut : Cut = get_or self.cuts.now c.loop-place.place c.index-self-place.result in
    let at = slice_get-get_or self.cuts.now c.loop-place.place c.index-self-place.result inside in
    frozen_more self.base.now self.ends.now self.cuts.now c.requires.ready.recorded c.requires.ready.is_resolution c.loop-place.place cut _ _ c.cut-held.result (there_at self.cuts.now c.loop-place.place cut at) at c.loop-place.invariant
    c.cut-held.ensures.names c.cut-held.ensures.held c.cut-held.ensures.conds
