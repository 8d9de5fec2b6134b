use Rattle.std.proofs.Common.{◌≡◌}
use Rattle.vmv_witness.specs.declared.witness.Witness.{Witness}
use Rattle.vmv_check.proofs.Lists.{upto_more, upto_end}
use Rattle.vmv_report.proofs.told.found_at.Goals as goal

pub loop-w-preserved : goal.loop-w-preserved
loop-w-preserved c =
    upto_more (λ (w : Witness). w.site ≡ c.args.site.now → ⊥) c.args.found.now c.loop-w.w-index _ c.loop-w-test.true c.w-item.is c.loop-w.invariant
    (λ e. let t = c.if-is_same.ensures.1 e in absurd (cc))

pub returns-clause-none : goal.returns-clause-none
returns-clause-none c = λ w there. upto_end (λ (v : Witness). v.site ≡ c.args.site.now → ⊥) c.args.found.now c.loop-w.w-index c.loop-w-test.false c.loop-w.invariant w there
