use Rattle.std.proofs.Common.{◌≡◌, ◌∙◌, true, Some, inl, inr, refl, sym, subst, slice_get, slice_set}
use Rattle.vmv_zone.specs.declared.zone.Zone.{Zone}
use Rattle.vmv_zone.specs.Zone.{IsBelow, IsJoin}
use Rattle.vmv_zone.specs.Round.{IsRounded}
use Rattle.vmv_check.proofs.Lists.{at_place, some_same}
use Rattle.vmv_pass.specs.Moves.{lists}
use Rattle.vmv_pass.proofs.Zips.{set_here}
use Rattle.vmv_pass.proofs.keep.raise_keep.Goals as goal

pub returns-then-below-clause-keeps : goal.returns-then-below-clause-keeps
returns-then-below-clause-keeps g c inputs flags kept at =
    let there : slice_get c.args.keeps.now c.args.k ≡ Some c.index-keeps-k.result = at_place c.args.keeps.now c.args.k c.index-keeps-k.result c.requires.inside c.index-keeps-k.is in
    (c.index-keeps-k.result, there, inl (subst (IsBelow c.args.seen.now) (sym c.index-keeps-k.is) (c.if-below.ensures.0 refl), some_same (sym at ∙ there), refl))

pub returns-clause-keeps : goal.returns-clause-keeps
returns-clause-keeps g c inputs flags kept at =
    let there : slice_get c.args.keeps.now c.args.k ≡ Some c.index-keeps-k.result = at_place c.args.keeps.now c.args.k c.index-keeps-k.result c.requires.inside c.index-keeps-k.is in
    let there' : slice_get c.args.keeps.now c.args.k ≡ Some c.index-keeps-k-2.result = at_place c.args.keeps.now c.args.k c.index-keeps-k-2.result c.requires.inside c.index-keeps-k-2.is in
    let same : c.raise_state.new.kept ≡ kept = set_here c.args.keeps.now c.args.k c.raise_state.new.kept kept c.requires.inside at in
    let raised = c.raise_state.ensures.raised in (
      c.index-keeps-k-2.result,
      there',
      inr (
        λ b. let t = c.if-below.ensures.1 (subst (IsBelow c.args.seen.now) (some_same (sym there' ∙ there) ∙ c.index-keeps-k.is) b) in absurd (cc),
        (
          raised.0,
          subst (λ (z : Zone). IsJoin z c.args.seen.now raised.0) (sym c.index-keeps-k-2.is) raised.1,
          subst (IsRounded c.args.at.now.thresholds.now raised.0) same raised.2,
          λ i. lists (slice_set c.args.keeps.now c.args.k (same i)) inputs flags true true (c.tick.ensures i),
        ),
      ),
    )
