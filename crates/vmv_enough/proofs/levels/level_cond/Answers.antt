use Rattle.std.proofs.Common.{◌^◌, arith}
use Rattle.std.proofs.lemmas.Int.{ints}
use Rattle.vmv_enough.proofs.Levelled.{level_size, shifted, level_words}
use Rattle.vmv_enough.proofs.levels.level_cond.Goals as goal

pub overflow_sub-size : goal.overflow_sub-size
overflow_sub-size c =
    let size = level_size c.args.level c.requires in
    let is = shifted (2 ^ c.args.level) size in
    rw is (omega (arith, ints, size))

pub overflow_sub-size-2 : goal.overflow_sub-size-2
overflow_sub-size-2 c =
    let size = level_size c.args.level c.requires in
    let is = shifted (2 ^ c.args.level) size in
    rw is (omega (arith, ints, size))

pub returns : goal.returns
returns c =
    let size = level_size c.args.level c.requires in
    let is = shifted (2 ^ c.args.level) size in
    level_words _ _ (2 ^ c.args.level) c.of.result (omega (arith, ints, is)) (omega (arith, ints, is)) c.of.ensures
