-- The canonical line of a part that some line tells tells it too.
use Rattle.std.proofs.Common.{inl, inr, ℕ, List, [], ◌∷◌, ◌++◌, map, refl, ap}
use Rattle.std.specs.Prelude.{codes, if◌then◌else◌}
use Rattle.std.specs.Fmt.{decimal}
use Rattle.std.specs.List.{AllZip}
use Rattle.vmv_zone.specs.declared.zone.Zone.{Zone}
use Rattle.vmv_zone.specs.Zone.{vars_of}
use Rattle.vmv_proof.specs.declared.proof.Proof.{Proof}
use Rattle.vmv_proof_text.specs.Parts.{Part, opening_part, exclusions_part, exclude_part, box_part, table_part, row_part, input_part, keep_part, result_part, left_part, entries_part, plain_part, given_part, end_part, parts_of_proof}
use Rattle.vmv_proof_text.specs.States.{bounds_below_top, marked_variables}
use Rattle.vmv_proof_text.specs.Text.{told_state, state_text, line_of, proof_text}
use Rattle.vmv_proof_text.specs.Lines.{IsLine, IsState}
use Rattle.vmv_proof_text.specs.Faults.{Line, IsProofText}
use Rattle.vmv_proof_read.proofs.Namings.{bounds_naming}

state_written : (z : Zone) (bytes : List ℕ) → IsState z bytes → IsState z (state_text z)
state_written z bytes (few, inl (b, e)) =
    (few, inl (b, ap (λ t. if t then codes " bottom " ++ decimal (vars_of z) else told_state (vars_of z) (bounds_below_top z) (marked_variables z)) b))
state_written z bytes (few, inr h) = (
  few,
  inr
      (record {
        not_bottom = h.not_bottom;
        bounds = bounds_below_top z;
        naming = bounds_naming z h.bounds h.naming;
        same = ap (λ t. if t then codes " bottom " ++ decimal (vars_of z) else told_state (vars_of z) (bounds_below_top z) (marked_variables z)) h.not_bottom;
      }),
)

line_written : (part : Part) (line : Line) → IsLine part line → IsLine part (line_of part)
line_written opening_part line h = refl
line_written (exclusions_part n) line h = (h.0, refl)
line_written (exclude_part e n p u) line h = (h.0, h.1, h.2, h.3, refl)
line_written (box_part rs) line h = (h.0, h.1, refl)
line_written (table_part n) line h = (h.0, refl)
line_written (row_part p n) line h = (h.0, h.1, refl)
line_written (input_part z) line (bytes, e, h) = (state_text z, refl, state_written z bytes h)
line_written (keep_part z) line (bytes, e, h) = (state_text z, refl, state_written z bytes h)
line_written (result_part r) line h = (h.0, refl)
line_written (left_part ss) line h = (h.0, h.1, refl)
line_written (entries_part n) line h = (h.0, refl)
line_written (plain_part e) line h = (h.0, refl)
line_written (given_part e) line h = (h.0, refl)
line_written end_part line h = refl

lines_written : (parts : List Part) (lines : List Line) → AllZip IsLine parts lines → AllZip IsLine parts (map line_of parts)
lines_written [] [] t = tt
lines_written [] (line ∷ lines) t = absurd t
lines_written (part ∷ parts) [] t = absurd t
lines_written (part ∷ parts) (line ∷ lines) t = (line_written part line t.0, lines_written parts lines t.1)

pub proof_written : (text : List ℕ) (p : Proof) → IsProofText text p → IsProofText (proof_text p) p
proof_written text p h = record { lines = map line_of (parts_of_proof p); told = lines_written (parts_of_proof p) h.lines h.told; same = refl }
