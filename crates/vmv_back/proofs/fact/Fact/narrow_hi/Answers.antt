use Rattle.std.proofs.Common.{FitsSigned, w64, ◌∙◌, rules}
use Rattle.std.specs.Int.{w128}
use Rattle.std.proofs.lemmas.Int.{to_z-of_z}
use Rattle.vmv_back.proofs.Narrowing.{below_word}
use Rattle.vmv_back.proofs.fact.Fact.narrow_hi.Goals as goal

pub returns-in-Less-clause-value : goal.returns-in-Less-clause-value
returns-in-Less-clause-value c =
    let fits : FitsSigned w128 c.min.result = search rules in
    let wide : FitsSigned w128 c.from-word.result = search rules in
    let hi : FitsSigned w64 c.args.range.1 = search rules in
    let word : FitsSigned w64 c.args.self.word = search rules in
    to_z-of_z w128 c.min.result fits
    ∙ below_word c.min.result _ _ c.args.self.word c.args.self.rel c.args.range hi word c.in-Less.is c.from-greatest.ensures (to_z-of_z w128 c.from-word.result wide ∙ c.from-word.ensures) c.min.ensures.value
