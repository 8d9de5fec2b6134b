use Rattle.std.proofs.Common.{FitsSigned, w64, rules}
use Rattle.std.specs.Int.{w128}
use Rattle.vmv_back.proofs.Narrowing.{narrow_is}
use Rattle.vmv_back.proofs.fact.Fact.narrow.Goals as goal

pub returns : goal.returns
returns c =
    let lo : FitsSigned w64 c.args.range.0 = search rules in
    let hi : FitsSigned w64 c.args.range.1 = search rules in
    let least : FitsSigned w128 c.narrow_lo-least.result = search rules in
    let greatest : FitsSigned w128 c.narrow_hi-greatest.result = search rules in
    narrow_is _ _ _ _ _ lo hi least greatest c.narrow_lo-least.ensures.within c.narrow_hi-greatest.ensures.within c.narrow_lo-least.ensures.value c.narrow_hi-greatest.ensures.value
    c.if-least-greatest.false
