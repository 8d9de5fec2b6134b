-- What is said of the text is said by the rows that are left.
use Rattle.std.proofs.Common.{◌≡◌, drop}
use Rattle.vmv_keeper.specs.JudgeTable.{said_of}
use Rattle.vmv_keeper.proofs.memory_judge.said_of.Given as goal

abbrev pub invariant-loop-row : goal.invariant-loop-row
invariant-loop-row l = said_of (drop l.row-index l.texts) l.text ≡ said_of l.texts l.text
