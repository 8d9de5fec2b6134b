use Rattle.std.proofs.Common.{◌∷◌, [], ap, ◌∙◌, refl, inr}
use Rattle.std.specs.Prelude.{codes}
use Rattle.std.proofs.lemmas.Bool.Decides.{Decides-eqb}
use Rattle.std.proofs.lemmas.Slice.Eq.{slice_eq-Decides}
use Rattle.vmv_proof_line.proofs.Heads.{below_taken, above_taken}
use Rattle.vmv_proof_line.proofs.exclude.takes_piece_loosely.Goals as goal

pub returns-then-eq : goal.returns-then-eq
returns-then-eq c = (
  codes "zero" ∷ [],
  inr (inr refl),
  c.in-Some.ensures.some ∙ ap (λ w. w ∷ c.next_word.new.self) ((slice_eq-Decides Decides-eqb _ _ _ c.eq.ensures).0 c.if-eq.true ∙ c.as_slice.ensures),
)

pub returns-then-eq-2 : goal.returns-then-eq-2
returns-then-eq-2 c =
    below_taken c.args.words.now c.next_word.new.self c.takes_number.new.words c.in-Some.word.now c.takes_number.result c.in-Some.ensures.some
    ((slice_eq-Decides Decides-eqb _ _ _ c.eq-2.ensures).0 c.if-eq-2.true ∙ c.as_slice-2.ensures) c.takes_number.ensures.yes c.takes_number.ensures.no

pub returns-then-eq-3 : goal.returns-then-eq-3
returns-then-eq-3 c =
    above_taken c.args.words.now c.next_word.new.self c.takes_number-then-eq-3.new.words c.in-Some.word.now c.takes_number-then-eq-3.result c.in-Some.ensures.some
    ((slice_eq-Decides Decides-eqb _ _ _ c.eq-3.ensures).0 c.if-eq-3.true ∙ c.as_slice-3.ensures) c.takes_number-then-eq-3.ensures.yes c.takes_number-then-eq-3.ensures.no
