use Rattle.std.proofs.Common.{◌∷◌, [], refl}
use Rattle.std.specs.Prelude.{codes}
use Rattle.std.proofs.lemmas.Bool.{false≢true}
use Rattle.vmv_proof_line.proofs.Fields.{row_loose_words, row_loosely, behind}
use Rattle.vmv_proof_line.proofs.rows.is_row_loosely.Goals as goal

pub returns-in_default : goal.returns-in_default
returns-in_default c = (
  λ t. absurd (false≢true t),
  λ h. absurd (c.in_default.ensures.none (h.0 ∷ h.1 ∷ []) (row_loose_words c.args.line.now h.0 h.1 h.2 h.3 h.4)),
)

pub returns-in_default-next_name : goal.returns-in_default-next_name
returns-in_default-next_name c = (
  λ t. absurd (false≢true t),
  λ h. absurd (c.in_default-next_name.ensures h.0 h.0 (h.1 ∷ []) (h.2, refl)
      (behind c.args.line.now (codes "row") c.in-Some.words (h.0 ∷ h.1 ∷ []) c.in-Some.ensures.some (row_loose_words c.args.line.now h.0 h.1 h.2 h.3 h.4))),
)

pub returns : goal.returns
returns c =
    let taken = c.in-Some-next_name.ensures in
    row_loosely c.args.line.now c.in-Some.words c.next_name.new.self taken.0 c.in-Some-next_name.field-0 c.is_last_number.result c.in-Some.ensures.some taken.1 taken.2 c.is_last_number.ensures
