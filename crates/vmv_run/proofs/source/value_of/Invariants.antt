use Rattle.std.proofs.Common.{◌≡◌, drop}
use Rattle.vmv_run.specs.Constant.{word_of}
use Rattle.vmv_run.proofs.source.value_of.Given as goal

abbrev pub invariant-loop-i : goal.invariant-loop-i
invariant-loop-i l = word_of l.names l.values l.name ≡ word_of (drop l.i l.names) (drop l.i l.values) l.name
