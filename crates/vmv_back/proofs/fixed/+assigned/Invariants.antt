use Rattle.std.proofs.Common.{drop}
use Rattle.vmv_back.proofs.Slots.{Rests}
use Rattle.vmv_back.proofs.fixed.+assigned.Given as goal

abbrev pub invariant-take_out_block-loop-stmt : goal.invariant-take_out_block-loop-stmt
invariant-take_out_block-loop-stmt l = Rests l.slots l.initial.slots (drop l.stmt-index l.block) l.block
