use Rattle.std.proofs.Common.{take, refl}
use Rattle.vmv_snapshot.specs.View.{block_of}
use Rattle.vmv_demands.specs.Back.{over_all, results}
use Rattle.vmv_demands.specs.Leads.{insides}
use Rattle.vmv_demands.proofs.Found.{no_wanted, next_wanted, all_wanted}
use Rattle.vmv_demands.proofs.Standing.{on_slice, no_stands, next_stands}
use Rattle.vmv_demands.proofs.kept.first_wanted.Goals as goal

pub loop-i-init : goal.loop-i-init
loop-i-init c = (no_wanted _ _ _ c.as_slice-block.result.now _ c.new-kept.ensures, no_stands _ c.as_slice-block.result.now _ c.new-sources.ensures)

pub loop-i-preserved : goal.loop-i-preserved
loop-i-preserved c =
    let r = results c.args.snapshot.now.codes c.args.proc.0 in
    let stands = c.loop-i.invariant.1 in (
      next_wanted r (insides c.args.snapshot.now.codes c.args.proc.0) c.args.proc c.as_slice-block.result.now _ c.loop-i.i _ _ _ c.loop-i-test.true c.index-block-i.is refl c.loop-i.invariant.0 (c.in_ok-keep_wanted.ensures _ (on_slice _ _ _ c.as_slice.ensures stands)),
      next_stands r c.as_slice-block.result.now c.loop-i.i _ _ c.loop-i-test.true c.index-block-i-in-loop-i.is (c.in_ok-step.ensures (over_all r (block_of (take c.loop-i.i c.as_slice-block.result.now))) stands),
    )

pub returns : goal.returns
returns c = all_wanted c.args.snapshot.now.codes c.args.proc _ c.as_slice-block.result.now _ _ c.code.ensures.kept c.as_slice-block.ensures c.loop-i-test.false c.loop-i.invariant.0
