use Rattle.std.proofs.Common.{◌≡◌, map, take}
use Rattle.vmv_tree.specs.declared.tree.Param.{Param}
use Rattle.vmv_witness.specs.declared.witness.ParamValue.{ParamValue}
use Rattle.vmv_enough.proofs.attempt.values_of.Given as goal

abbrev pub invariant-loop-i : goal.invariant-loop-i
invariant-loop-i l =
    (map (λ (v : ParamValue). v.name) l.values ≡ map (λ (p : Param). p.name) (take l.i l.params)) × (map (λ (v : ParamValue). v.value) l.values ≡ take l.i l.words)
