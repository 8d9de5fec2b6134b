use Rattle.std.proofs.Common.{arith, refl}
use Rattle.std.proofs.lemmas.Int.{ints}
use Rattle.vmv_zone.proofs.Values.{quotient_of, no_quotient}
use Rattle.vmv_zone.proofs.zone.Zone.divide.Goals as goal

pub returns-in-None : goal.returns-in-None
returns-in-None c = no_quotient c.args.self.now c.empty.new.self c.args.self.now c.args.fresh c.args.left c.args.right _ _ _ _ c.empty.ensures.vars c.empty.ensures.bottom
    (c.in-None.ensures.none refl) c.ends-x.ensures.lo c.ends-x.ensures.hi c.ends-y.ensures.lo c.ends-y.ensures.hi

pub returns-in-Some : goal.returns-in-Some
returns-in-Some c = quotient_of c.args.self.now c.args.fresh c.args.left c.args.right c.in-Some.all.lo c.in-Some.all.hi _ _ _ _ _ _
    c.make_nonzero.ensures c.span.ensures c.in-Some.ensures.some (omega (arith, ints)) (omega (arith, ints))
    c.ends-x.ensures.lo c.ends-x.ensures.hi c.ends-y.ensures.lo c.ends-y.ensures.hi
