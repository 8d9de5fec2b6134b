-- The verdict is given by the rows that are left.
use Rattle.std.proofs.Common.{◌≡◌, drop}
use Rattle.vmv_keeper.specs.JudgeTable.{judged_in}
use Rattle.vmv_keeper.proofs.memory_judge.judged_in.Given as goal

abbrev pub invariant-loop-row : goal.invariant-loop-row
invariant-loop-row l = judged_in (drop l.row-index l.verdicts) l.base l.revision ≡ judged_in l.verdicts l.base l.revision
