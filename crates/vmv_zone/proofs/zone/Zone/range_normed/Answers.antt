use Rattle.std.proofs.Common.{arith, rules}
use Rattle.std.proofs.lemmas.Int.{ints}
use Rattle.vmv_zone.proofs.Normed.{norm_itself}
use Rattle.vmv_zone.proofs.Reading.{range_of, no_range}
use Rattle.vmv_zone.proofs.zone.Zone.range_normed.Goals as goal

pub returns-then-self : goal.returns-then-self
returns-then-self c = no_range c.args.self.now c.args.self.now c.args.of c.of.result _ _ _ (norm_itself c.args.self.now c.requires.normal) (search rules) c.of.ensures (omega (arith, ints))

pub returns : goal.returns
returns c = range_of c.args.self.now c.args.self.now c.args.of c.of-2.result c.ends-ends.result.lo c.ends-ends.result.hi _ _ c.nonzero-marked.result
    (norm_itself c.args.self.now c.requires.normal) (search rules) c.of-2.ensures c.ends-ends.ensures.lo c.ends-ends.ensures.hi c.nonzero-marked.ensures (omega (arith, ints)) (omega (arith, ints))
