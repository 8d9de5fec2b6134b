use Rattle.std.proofs.Common.{◌≡◌}
use Rattle.std.proofs.lemmas.Bool.{false≢true}
use Rattle.vmv_witness.specs.declared.witness.Witness.{Witness}
use Rattle.vmv_enough.proofs.Lists.{before_in}
use Rattle.vmv_enough.proofs.Searched.{site_found}
use Rattle.vmv_enough.proofs.search.is_found.Goals as goal

pub returns : goal.returns
returns c = (
  (λ t. absurd (false≢true t)),
  (λ there.
      let u = site_found c.args.found.now c.args.site.now there in
      absurd (before_in (λ (w : Witness). w.site ≡ c.args.site.now → ⊥) c.args.found.now c.loop-w.w-index c.loop-w-test.false c.loop-w.invariant u.0 u.1 u.2)),
)
