use Rattle.std.proofs.Common.{◌≡◌, ◌++◌, drop, map}
use Rattle.vmv_witness.specs.Text.{text_of, param_lines, param_pair}
use Rattle.vmv_witness.proofs.write.push_params.Given as goal

abbrev pub invariant-loop-param : goal.invariant-loop-param
invariant-loop-param l =
    l.out.items ++ text_of (param_lines (map param_pair (drop l.param-index l.params))) ≡ l.fn.out.items ++ text_of (param_lines (map param_pair l.params))
