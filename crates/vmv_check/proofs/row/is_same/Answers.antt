use Rattle.std.proofs.Common.{◌≡◌, ap, arith, sym, ◌∙◌}
use Rattle.std.proofs.lemmas.Int.{ints}
use Rattle.vmv_cond.specs.declared.cond.Cond.{Cond}
use Rattle.vmv_check.proofs.Conds.{same_cond}
use Rattle.vmv_check.proofs.row.is_same.Goals as goal

pub returns : goal.returns
returns c =
    let lo : c.args.one.lo ≡ c.args.other.lo = grind (arith, ints, c.lo.ensures, c.lo-2.ensures, c.if-lo.false) in
    let hi : c.args.one.hi ≡ c.args.other.hi = grind (arith, ints, c.hi.ensures, c.hi-2.ensures, c.if-hi.false) in (
      λ t. same_cond c.args.one c.args.other lo hi (sym c.zero_out.ensures.value ∙ (c.agree.ensures.0 t ∙ c.zero_out-2.ensures.value)),
      λ e. c.agree.ensures.1 (c.zero_out.ensures.value ∙ (ap (λ (x : Cond). x.zero_out) e ∙ sym c.zero_out-2.ensures.value)),
    )
