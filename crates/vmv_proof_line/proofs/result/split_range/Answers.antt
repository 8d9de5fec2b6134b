use Rattle.std.proofs.Common.{codes}
use Rattle.std.specs.Prelude.{None}
use Rattle.std.proofs.lemmas.Bool.Decides.{Decides-eqb}
use Rattle.std.proofs.lemmas.Slice.Eq.{strip_prefix_is}
use Rattle.vmv_proof_line.proofs.Reaches.{one_dot}
use Rattle.vmv_proof_line.proofs.result.split_range.Goals as goal

pub returns-in-None-clause-none : goal.returns-in-None-clause-none
returns-in-None-clause-none c =
    one_dot c.args.word.now c.in-Some.lo.now c.in-Some.rest.now c.in-Some.ensures.some
    (strip_prefix_is Decides-eqb c.in-Some.rest.now (codes ".") None c.in-None.ensures.cases)
