use Rattle.std.proofs.Common.{FitsSigned, w64, rules}
use Rattle.vmv_demands.proofs.Standing.{moved_given}
use Rattle.vmv_demands.proofs.sources.given_moved.Goals as goal

pub returns : goal.returns
returns c = λ before stands want w.
    let lo : FitsSigned w64 c.args.shift.lo = search rules in
    let hi : FitsSigned w64 c.args.shift.hi = search rules in
    moved_given before c.args.sources.now stands c.args.args.now c.args.slot c.moved.result want c.args.shift c.given.result lo hi (c.given.ensures before stands) (c.moved.ensures want w)
