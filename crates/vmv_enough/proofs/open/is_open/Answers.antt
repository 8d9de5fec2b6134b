use Rattle.std.proofs.Common.{◌↔◌, IsTrue, subst}
use Rattle.vmv_enough.specs.OpenBy.{Narrows}
use Rattle.vmv_enough.proofs.open.is_open.Goals as goal

pub returns-then-has_site : goal.returns-then-has_site
returns-then-has_site c =
    let narrows = subst (λ x. IsTrue c.is_narrower.result ↔ Narrows x c.args.demand.now.cond) c.get.ensures c.is_narrower.ensures in
    ((λ t. (c.has_site.ensures.0 c.if-has_site.true, narrows.0 t)), (λ h. narrows.1 h.1))
