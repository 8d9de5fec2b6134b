use Rattle.std.proofs.Common.{◌≡◌, true, sym, subst, ◌∙◌}
use Rattle.std.specs.List.{Contains}
use Rattle.vmv_snapshot.specs.Resolves.{Scope}
use Rattle.vmv_snapshot.proofs.Helpers.{named_in, in_names}
use Rattle.vmv_snapshot.proofs.resolver.Resolver.is_outside.Goals as goal

pub returns : goal.returns
returns c = (
  λ h. subst (λ (s : Scope). Contains s.outsides c.args.callee.now) c.self.view_is
      (named_in c.self.inside.tables.now.outsides.keys c.args.callee.now (sym c.contains.ensures ∙ h)),
  λ h. c.contains.ensures
      ∙ in_names c.self.inside.tables.now.outsides.keys c.args.callee.now (subst (λ (s : Scope). Contains s.outsides c.args.callee.now) (sym c.self.view_is) h),
)
