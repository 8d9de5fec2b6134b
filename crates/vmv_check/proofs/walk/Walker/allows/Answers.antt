use Rattle.std.proofs.Common.{refl, sym, subst}
use Rattle.std.specs.List.{Contains}
use Rattle.vmv_check.specs.Walker.{walk_of, IsAllowedSite}
use Rattle.vmv_check.proofs.Lists.{upto_more, upto_end}
use Rattle.vmv_check.proofs.Match.{allowed_of}
use Rattle.vmv_check.proofs.walk.Walker.allows.Goals as goal

pub loop-site-preserved : goal.loop-site-preserved
loop-site-preserved c =
    upto_more (IsAllowedSite (walk_of c.args.self.now) c.args.callee.0 c.args.args.now) c.as_slice-site-items.result.now c.loop-site.site-index c.site-item.result c.loop-site-test.true c.site-item.is c.loop-site.invariant
    (c.if-not-is_allowed.ensures.0 refl)

pub returns : goal.returns
returns c = (
  λ t. allowed_of (walk_of c.args.self.now) c.args.callee.0 c.args.args.now c.args.one.now c.requires.one
      (λ site there. upto_end (IsAllowedSite (walk_of c.args.self.now) c.args.callee.0 c.args.args.now) c.as_slice-site-items.result.now c.loop-site.site-index c.loop-site-test.false c.loop-site.invariant site
      (subst (λ xs. Contains xs site) (sym c.as_slice-site-items.ensures) there)),
  λ h. refl,
)
