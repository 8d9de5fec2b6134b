use Rattle.std.proofs.Common.{◌≡◌, refl}
use Rattle.vmv_tree.specs.declared.site.NamedSite.{NamedSite}
use Rattle.vmv_check.proofs.Lists.{upto_more, upto_end}
use Rattle.vmv_proof_check.proofs.sites.is_among.Goals as goal

pub loop-other-preserved : goal.loop-other-preserved
loop-other-preserved c =
    upto_more (λ (x : NamedSite). x ≡ c.args.site.now → ⊥) c.args.sites.now c.loop-other.other-index c.other-item.result c.loop-other-test.true c.other-item.is c.loop-other.invariant
    (λ e. let t = c.if-is_same.ensures.1 e in absurd (cc))

pub returns : goal.returns
returns c = (
  λ t. absurd (cc),
  λ there. absurd (upto_end (λ (x : NamedSite). x ≡ c.args.site.now → ⊥) c.args.sites.now c.loop-other.other-index c.loop-other-test.false c.loop-other.invariant c.args.site.now there refl),
)
