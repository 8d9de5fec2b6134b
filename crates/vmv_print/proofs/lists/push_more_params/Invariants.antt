use Rattle.std.proofs.Common.{◌≡◌, ◌++◌, drop}
use Rattle.std.specs.Prelude.{All}
use Rattle.vmv_print.specs.Canonical.{after_commas, param_text}
use Rattle.vmv_print.specs.Written.{IsWrittenParam}
use Rattle.vmv_print.proofs.lists.push_more_params.Given as goal

abbrev pub invariant-loop-param : goal.invariant-loop-param
invariant-loop-param l = record {
  text : l.out.items ++ after_commas param_text (drop l.param-index l.params) ≡ l.fn.out.items ++ after_commas param_text l.params;
  written : All IsWrittenParam (drop l.param-index l.params) → All IsWrittenParam l.params;
}
