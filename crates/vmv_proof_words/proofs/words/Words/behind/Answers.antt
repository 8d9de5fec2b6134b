use Rattle.std.proofs.Common.{rules}
use Rattle.std.specs.Prelude.{Some, None}
use Rattle.std.proofs.lemmas.Bool.Decides.{Decides-eqb}
use Rattle.std.proofs.lemmas.Slice.Eq.{strip_prefix_is}
use Rattle.vmv_proof_words.proofs.Splitting.{not_first, behind_empty, behind_space, not_behind_other}
use Rattle.vmv_proof_words.proofs.words.Words.behind.Goals as goal

pub returns-in_default-clause-none : goal.returns-in_default-clause-none
returns-in_default-clause-none c =
    not_first c.args.line.now c.args.word.now (strip_prefix_is Decides-eqb c.args.line.now c.args.word.now None c.in_default.ensures.cases)

pub returns-in-empty-clause-some : goal.returns-in-empty-clause-some
returns-in-empty-clause-some c =
    behind_empty c.args.line.now c.args.word.now c.in-Some.left.now
    (strip_prefix_is Decides-eqb c.args.line.now c.args.word.now (Some c.in-Some.left) c.in-Some.ensures.cases) c.requires c.in-empty.len_below

pub returns-in-32-clause-some : goal.returns-in-32-clause-some
returns-in-32-clause-some c =
    behind_space c.args.line.now c.args.word.now c.in-Some.left.now
    (strip_prefix_is Decides-eqb c.args.line.now c.args.word.now (Some c.in-Some.left) c.in-Some.ensures.cases) c.requires c.in-32.len_at_least (search rules)

pub returns-in_default-left-clause-none : goal.returns-in_default-left-clause-none
returns-in_default-left-clause-none c =
    not_behind_other c.args.line.now c.args.word.now c.in-Some.left.now
    (strip_prefix_is Decides-eqb c.args.line.now c.args.word.now (Some c.in-Some.left) c.in-Some.ensures.cases) c.in_default-left.len_at_least (search rules)
