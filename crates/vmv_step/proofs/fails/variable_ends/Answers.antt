use Rattle.std.proofs.Common.{arith}
use Rattle.std.proofs.lemmas.Int.{ints}
use Rattle.vmv_zone.proofs.Words.{variable_words}
use Rattle.vmv_step.proofs.fails.variable_ends.Goals as goal

pub overflow_cast-result : goal.overflow_cast-result
overflow_cast-result c = let w = variable_words c.args.before.now c.args.y c.requires.normal c.requires.variable c.requires.y in omega (arith, ints, w.0, w.1)

pub overflow_cast-result-2 : goal.overflow_cast-result-2
overflow_cast-result-2 c = let w = variable_words c.args.before.now c.args.y c.requires.normal c.requires.variable c.requires.y in omega (arith, ints, w.0, w.1)

pub returns-clause-lo : goal.returns-clause-lo
returns-clause-lo c = let w = variable_words c.args.before.now c.args.y c.requires.normal c.requires.variable c.requires.y in omega (arith, ints, w.0, w.1)

pub returns-clause-hi : goal.returns-clause-hi
returns-clause-hi c = let w = variable_words c.args.before.now c.args.y c.requires.normal c.requires.variable c.requires.y in omega (arith, ints, w.0, w.1)
