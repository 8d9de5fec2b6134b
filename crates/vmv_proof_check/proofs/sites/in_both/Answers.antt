use Rattle.vmv_proof_check.proofs.Founding.{both_more, both_none, both_all}
use Rattle.vmv_proof_check.proofs.sites.in_both.Goals as goal

pub loop-site-init : goal.loop-site-init
loop-site-init c = both_none c.args.sites.now c.args.others.now c.new-both.result c.new-both.ensures

pub loop-site-preserved : goal.loop-site-preserved
loop-site-preserved c =
    both_more c.args.sites.now c.args.others.now c.loop-site.both c.keep.new.both c.loop-site.site-index c.site-item.result c.loop-site-test.true c.site-item.is c.loop-site.invariant c.in_ok-keep.ensures

pub returns : goal.returns
returns c = both_all c.args.sites.now c.args.others.now c.loop-site.both c.loop-site.site-index c.loop-site-test.false c.loop-site.invariant
