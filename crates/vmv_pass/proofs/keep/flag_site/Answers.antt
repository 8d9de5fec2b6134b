use Rattle.std.proofs.Common.{refl, sym, subst, arith}
use Rattle.vmv_step.specs.Agree.{HasSite}
use Rattle.vmv_pass.proofs.keep.flag_site.Goals as goal

pub overflow_sub-unproved : goal.overflow_sub-unproved
overflow_sub-unproved c = (c.requires c.in-Arith.site (subst (λ s. HasSite s c.in-Arith.site) (sym c.in-Arith.is) refl)).0

pub bounds-unproved-site : goal.bounds-unproved-site
bounds-unproved-site c = let h = c.requires c.in-Arith.site (subst (λ s. HasSite s c.in-Arith.site) (sym c.in-Arith.is) refl) in omega (arith, h.0, h.1)

pub overflow_sub-unproved-in-Assert : goal.overflow_sub-unproved-in-Assert
overflow_sub-unproved-in-Assert c = (c.requires c.in-Assert.site (subst (λ s. HasSite s c.in-Assert.site) (sym c.in-Assert.is) refl)).0

pub bounds-unproved-site-in-Assert : goal.bounds-unproved-site-in-Assert
bounds-unproved-site-in-Assert c = let h = c.requires c.in-Assert.site (subst (λ s. HasSite s c.in-Assert.site) (sym c.in-Assert.is) refl) in omega (arith, h.0, h.1)
