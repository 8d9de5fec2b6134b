use Rattle.std.proofs.Common.{◌≡◌}
use Rattle.vmv_witness.specs.declared.witness.Witness.{Witness}
use Rattle.vmv_enough.proofs.Lists.{Before}
use Rattle.vmv_enough.proofs.search.is_found.Given as goal

abbrev pub invariant-loop-w : goal.invariant-loop-w
invariant-loop-w l = Before (λ (w : Witness). w.site ≡ l.site → ⊥) l.found l.w-index
