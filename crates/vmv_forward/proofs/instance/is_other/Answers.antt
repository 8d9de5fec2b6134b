use Rattle.std.proofs.Common.{◌≡◌, sym, arith, ◌∙◌}
use Rattle.std.proofs.lemmas.Int.{ints}
use Rattle.vmv_cond.proofs.Same.{same_fields}
use Rattle.vmv_forward.proofs.instance.is_other.Goals as goal

pub returns-then-agree : goal.returns-then-agree
returns-then-agree c =
    let lo : c.args.one.lo ≡ c.args.other.lo = grind (arith, ints, c.lo.ensures, c.lo-2.ensures, c.if-lo.false) in
    let hi : c.args.one.hi ≡ c.args.other.hi = grind (arith, ints, c.hi.ensures, c.hi-2.ensures, c.if-hi.false) in
    λ f. same_fields c.args.one c.args.other lo hi (sym c.zero_out.ensures.value ∙ (c.agree.ensures c.if-agree.true ∙ c.zero_out-2.ensures.value))
