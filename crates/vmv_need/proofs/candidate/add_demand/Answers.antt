use Rattle.std.proofs.Common.{◌≡◌, ◌^◌, ◌-◌, ℤ, pos, negsuc, int_lt, FitsSigned, to_z, of_z, w64, ap, ◌∙◌, rules}
use Rattle.std.proofs.lemmas.Int.{to_z-of_z}
use Rattle.vmv_need.proofs.Pieces.{demand_added}
use Rattle.vmv_need.proofs.candidate.add_demand.Goals as goal

pub returns : goal.returns
returns c =
    let a : FitsSigned w64 c.lo.result = search rules in
    let b : FitsSigned w64 c.hi.result = search rules in
    let low : to_z w64 (of_z w64 c.lo.result) ≡ c.args.demand.now.cond.lo = to_z-of_z w64 c.lo.result a ∙ c.lo.ensures in
    let high : to_z w64 (of_z w64 c.hi.result) ≡ c.args.demand.now.cond.hi = to_z-of_z w64 c.hi.result b ∙ c.hi.ensures in
    let d : FitsSigned w64 c.lo-2.result = search rules in
    let e : FitsSigned w64 c.hi-2.result = search rules in
    let low_again : to_z w64 (of_z w64 c.lo-2.result) ≡ c.args.demand.now.cond.lo = to_z-of_z w64 c.lo-2.result d ∙ c.lo-2.ensures in
    let high_again : to_z w64 (of_z w64 c.hi-2.result) ≡ c.args.demand.now.cond.hi = to_z-of_z w64 c.hi-2.result e ∙ c.hi-2.ensures in
    demand_added c.args.entry c.args.within.now c.args.demand.now _ _ _ _ _ _ _ _ _ (ap (λ (n : ℤ). int_lt (negsuc (2 ^ 63 - 1)) n) low_again) (ap (λ (n : ℤ). int_lt n (pos (2 ^ 63 - 1))) high_again)
    c.leaves_out_zero.ensures low high
    c.in_ok-add_where.ensures c.in_ok-add_where-2.ensures c.in_ok-add_where-3.ensures
