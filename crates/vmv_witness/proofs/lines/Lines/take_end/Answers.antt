use Rattle.std.proofs.Common.{inr, refl, ◌∙◌, sym, ap, subst, ◌++◌, ◌∷◌}
use Rattle.std.specs.Prelude.{codes, Err}
use Rattle.std.proofs.lemmas.Bool.{false≢true}
use Rattle.vmv_witness.specs.Reading.{TakesEnd}
use Rattle.vmv_witness.proofs.Parts.{some_of}
use Rattle.vmv_witness.proofs.lines.Lines.take_end.Goals as goal

pub returns : goal.returns
returns c =
    let some = some_of c.take_line.new.self (λ e. false≢true (sym c.if-is_at_end.false ∙ c.is_at_end.ensures.1 e)) in
    subst (λ f. TakesEnd c.args.line c.args.self.now (Err f)) (sym c.at-2.ensures)
    (inr (some.0, some.1, refl, c.if-not-take_line.ensures.some ∙ ap (λ t. codes "end" ++ 10 ∷ t) some.2))
