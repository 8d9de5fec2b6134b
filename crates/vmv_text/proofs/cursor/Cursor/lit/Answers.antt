use Rattle.vmv_text.proofs.Steps.{carried}
use Rattle.vmv_text.proofs.Single.{lit-signed, lit-unsigned}
use Rattle.vmv_text.specs.Grammar.{IsLit}
use Rattle.vmv_text.specs.Reading.{Any, IsSmall, IsNegative}
use Rattle.std.proofs.Common.{ℤ}
use Rattle.vmv_text.proofs.cursor.Cursor.lit.Goals as goal

pub returns-then-takes : goal.returns-then-takes
returns-then-takes c = carried IsLit IsNegative Any (λ (z : ℤ). z) c.negative.result _ _ _ (lit-signed c.if-takes.ensures.tests.0 _ _ c.if-takes.ensures.tests.1) c.negative.ensures

pub returns-else-takes : goal.returns-else-takes
returns-else-takes c = carried IsLit IsSmall Any (λ (z : ℤ). z) c.small.result _ _ _ (lit-unsigned _ _ c.if-takes.ensures.tests) c.small.ensures
