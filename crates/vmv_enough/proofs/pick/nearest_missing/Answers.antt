use Rattle.std.proofs.Common.{◌≡◌, ℤ, true, FitsSigned, w64, rules, sym, ap, subst, ◌∙◌}
use Rattle.std.proofs.lemmas.Bool.{false≢true}
use Rattle.vmv_cond.specs.declared.cond.Piece.TheVariants.{Below, Above}
use Rattle.vmv_enough.specs.Probes.{Misses}
use Rattle.vmv_enough.proofs.Picked.{NearestIn, nearest_in, nearer_is, nearer_some, nearer_none, inside_along}
use Rattle.vmv_enough.proofs.Words.{back}
use Rattle.vmv_enough.proofs.pick.nearest_missing.Goals as goal

pub returns-clause-some : goal.returns-clause-some
returns-clause-some c =
    let cond = c.args.cond in
    let demand = c.args.demand.now in
    let low : FitsSigned w64 c.lo.result = search rules in
    let high : FitsSigned w64 c.hi.result = search rules in
    let below = inside_along cond _ (Below demand.cond.lo) c.within.result (ap (λ (z : ℤ). Below z) (back c.lo.result low ∙ c.lo.ensures)) c.within.ensures in
    let above = inside_along cond _ (Above demand.cond.hi) c.within-2.result (ap (λ (z : ℤ). Above z) (back c.hi.result high ∙ c.hi.ensures)) c.within-2.ensures in
    let near = nearest_in c.within.result c.nearest-below.result c.nearest-below.ensures.none c.nearest-below.ensures.held c.nearest-below.ensures.tie c.nearest-below.ensures.nearest in
    let far = nearest_in c.within-2.result c.nearest-above.result c.nearest-above.ensures.none c.nearest-above.ensures.held c.nearest-above.ensures.tie c.nearest-above.ensures.nearest in
    let told = nearer_is cond demand c.within.result c.within-2.result c.nearest-below.result c.nearest-above.result below above (λ h. false≢true (subst (λ b. b ≡ true) c.if-misses_at_zero.false (c.misses_at_zero.ensures.1 h))) near far in
    nearer_some (Misses cond demand) c.nearer.result (subst (λ o. NearestIn (Misses cond demand) o) (sym c.nearer.ensures) told)

pub returns-clause-none : goal.returns-clause-none
returns-clause-none c =
    let cond = c.args.cond in
    let demand = c.args.demand.now in
    let low : FitsSigned w64 c.lo.result = search rules in
    let high : FitsSigned w64 c.hi.result = search rules in
    let below = inside_along cond _ (Below demand.cond.lo) c.within.result (ap (λ (z : ℤ). Below z) (back c.lo.result low ∙ c.lo.ensures)) c.within.ensures in
    let above = inside_along cond _ (Above demand.cond.hi) c.within-2.result (ap (λ (z : ℤ). Above z) (back c.hi.result high ∙ c.hi.ensures)) c.within-2.ensures in
    let near = nearest_in c.within.result c.nearest-below.result c.nearest-below.ensures.none c.nearest-below.ensures.held c.nearest-below.ensures.tie c.nearest-below.ensures.nearest in
    let far = nearest_in c.within-2.result c.nearest-above.result c.nearest-above.ensures.none c.nearest-above.ensures.held c.nearest-above.ensures.tie c.nearest-above.ensures.nearest in
    let told = nearer_is cond demand c.within.result c.within-2.result c.nearest-below.result c.nearest-above.result below above (λ h. false≢true (subst (λ b. b ≡ true) c.if-misses_at_zero.false (c.misses_at_zero.ensures.1 h))) near far in
    nearer_none (Misses cond demand) c.nearer.result (subst (λ o. NearestIn (Misses cond demand) o) (sym c.nearer.ensures) told)
