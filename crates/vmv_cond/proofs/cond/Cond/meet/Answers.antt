use Rattle.std.proofs.Common.{arith, refl, FitsSigned, w64, rules}
use Rattle.std.proofs.lemmas.Int.{ints, to_z-of_z}
use Rattle.vmv_cond.proofs.Ranges.{iff_through, in_range_meet}
use Rattle.vmv_cond.proofs.cond.Cond.meet.Goals as goal

pub returns : goal.returns
returns c = λ w.
    let a : FitsSigned w64 c.args.self.lo = search rules in
    let b : FitsSigned w64 c.args.self.hi = search rules in
    let d : FitsSigned w64 c.args.other.lo = search rules in
    let e : FitsSigned w64 c.args.other.hi = search rules in
    iff_through (c.of.ensures w) (in_range_meet _ _ _ _ _ _ _ _ _ w
    (grind (arith, ints, to_z-of_z, c.max.ensures.value)) (grind (arith, ints, to_z-of_z, c.min.ensures.value)) refl)
