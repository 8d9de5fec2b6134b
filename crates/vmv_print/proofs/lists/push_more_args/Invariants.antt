use Rattle.std.proofs.Common.{◌≡◌, ◌++◌, drop}
use Rattle.std.specs.Prelude.{All}
use Rattle.vmv_print.specs.Canonical.{after_commas, operand_text}
use Rattle.vmv_print.specs.Written.{IsWrittenOperand}
use Rattle.vmv_print.proofs.lists.push_more_args.Given as goal

abbrev pub invariant-loop-arg : goal.invariant-loop-arg
invariant-loop-arg l = record {
  text : l.out.items ++ after_commas operand_text (drop l.arg-index l.args) ≡ l.fn.out.items ++ after_commas operand_text l.args;
  written : All IsWrittenOperand (drop l.arg-index l.args) → All IsWrittenOperand l.args;
}
