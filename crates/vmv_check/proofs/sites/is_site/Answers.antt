use Rattle.std.proofs.Common.{arith}
use Rattle.vmv_tree.specs.Run.{name_of}
use Rattle.vmv_snapshot.specs.Resolution.{procs_of}
use Rattle.vmv_check.proofs.Orders.{map_within, site_is, site_last, site_reached}
use Rattle.vmv_check.proofs.sites.is_site.Goals as goal

pub returns-then-site-site_count : goal.returns-then-site-site_count
returns-then-site-site_count c = (
  λ t. absurd (cc),
  λ x.
      let h = site_last c.args.snapshot.now c.args.from.0 c.in-Some.proc.0 c.site_count.result c.args.site.now c.requires.resolution c.in-Some.ensures.named c.site_count.ensures x in
      let g = c.if-site-site_count.true in
      absurd (omega (arith, h, g)),
)

pub reaches-requires-clause-to : goal.reaches-requires-clause-to
reaches-requires-clause-to c = map_within name_of (procs_of c.args.snapshot.now) c.in-Some.proc.0 c.args.site.now.proc c.in-Some.ensures.named

pub returns : goal.returns
returns c = (
  λ t. (c.in-Some.proc.0, site_is c.args.snapshot.now c.args.from.0 c.in-Some.proc.0 c.site_count.result c.args.site.now c.in-Some.ensures.named c.site_count.ensures (omega arith) (omega arith) (c.reaches.ensures.0 t)),
  λ x. c.reaches.ensures.1 (site_reached c.args.snapshot.now c.args.from.0 c.in-Some.proc.0 c.args.site.now c.requires.resolution c.in-Some.ensures.named x),
)
