use Rattle.std.proofs.Common.{refl, subst}
use Rattle.std.specs.Prelude.{Some, None}
use Rattle.std.proofs.lemmas.Bool.Decides.{Decides-eqb}
use Rattle.std.proofs.lemmas.Slice.Eq.{strip_prefix_is}
use Rattle.vmv_witness.specs.Reading.{SplitsAt}
use Rattle.vmv_witness.proofs.Parts.{no_word, with_word}
use Rattle.vmv_witness.proofs.lines.Lines.take_behind.Goals as goal

pub returns-in_default-strip_prefix-clause-none : goal.returns-in_default-strip_prefix-clause-none
returns-in_default-strip_prefix-clause-none c =
    let split = subst (λ t. SplitsAt 10 t c.in-Some.line.now c.in-Some.left.now) c.self.view_is c.in-Some.ensures.some in (
      refl,
      no_word c.args.word.now c.args.self.now c.in-Some.line.now c.in-Some.left.now c.requires split.1
          (strip_prefix_is Decides-eqb c.in-Some.line.now c.args.word.now None c.in_default-strip_prefix.ensures.cases),
    )

pub returns-clause-some : goal.returns-clause-some
returns-clause-some c =
    let split = subst (λ t. SplitsAt 10 t c.in-Some.line.now c.in-Some.left.now) c.self.view_is c.in-Some.ensures.some in
    with_word c.args.word.now c.in-Some-strip_prefix.bytes.now c.args.self.now c.in-Some.line.now c.in-Some.left.now split
    (strip_prefix_is Decides-eqb c.in-Some.line.now c.args.word.now (Some c.in-Some-strip_prefix.bytes) c.in-Some-strip_prefix.ensures.cases)
