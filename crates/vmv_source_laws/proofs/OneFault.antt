-- A text has one fault.
use Rattle.std.proofs.Common.{◌≡◌, ◌≢◌, ℕ, List, refl, sym, ap, subst, arith, ◌∙◌}
use Rattle.vmv_tree.specs.declared.defect.Defect.{Defect as Cause}
use Rattle.vmv_tree.specs.Tree.{Item}
use Rattle.vmv_tree.specs.Valid.{FirstDefect}
use Rattle.vmv_text.specs.Mentioned.{HasMention}
use Rattle.vmv_text.proofs.OneTree.{text_once}
use Rattle.vmv_text.proofs.OnePlace.{has_fault_once}
use Rattle.vmv_text.proofs.ValidFronts.{valid_once, not_valid}
use Rattle.vmv_source.specs.declared.fault.TextFault.{TextFault}
use Rattle.vmv_source.specs.declared.fault.TextFault.TheVariants.{NotUtf8, Syntax, Defect, Memory, TooLong}
use Rattle.vmv_source.specs.Faults.{HasDefectAt, IsTextFault}
use Rattle.vmv_source_laws.proofs.Limits.{first_once}
use Rattle.vmv_source_laws.proofs.Mentions.{mention_once}

-- the place and the cause of the first defect of a text
defect_once : (text : List ℕ) (line column line' column' : ℕ) (d e : Cause) → HasDefectAt text line column d → HasDefectAt text line' column' e → (line ≡ line') × (column ≡ column') × (d ≡ e)
defect_once text line column line' column' d e h g =
    let program = text_once text h.program g.program h.is_text g.is_text in
    let first = subst (λ (p : List Item). FirstDefect p h.mention d) program h.first in
    let same = first_once g.program h.mention g.mention d e first g.first in
    let place = mention_once text g.mention line column line' column' (subst (λ (m : ℕ). HasMention text m line column) same.0 h.place) g.place in
    (place.0, place.1, same.1)

pub fault_once : (text : List ℕ) (one other : TextFault) → IsTextFault text one → IsTextFault text other → one ≢ Memory → other ≢ Memory → one ≡ other
fault_once text Memory other h g told told' = absurd (told refl)
fault_once text (TooLong found) Memory h g told told' = absurd (told' refl)
fault_once text (NotUtf8 at) Memory h g told told' = absurd (told' refl)
fault_once text (Syntax line column) Memory h g told told' = absurd (told' refl)
fault_once text (Defect line column d) Memory h g told told' = absurd (told' refl)
fault_once text (TooLong found) (TooLong found') h g told told' = ap TooLong (h.1 ∙ sym g.1)
fault_once text (TooLong found) (NotUtf8 at) h g told told' = absurd (let a = h.0 in let b = g.0 in omega (arith, a, b))
fault_once text (TooLong found) (Syntax line column) h g told told' = absurd (let a = h.0 in let b = g.0 in omega (arith, a, b))
fault_once text (TooLong found) (Defect line column d) h g told told' = absurd (let a = h.0 in let b = g.0 in omega (arith, a, b))
fault_once text (NotUtf8 at) (TooLong found) h g told told' = absurd (let a = h.0 in let b = g.0 in omega (arith, a, b))
fault_once text (NotUtf8 at) (NotUtf8 at') h g told told' = ap NotUtf8 (valid_once text at at' h.1 g.1)
fault_once text (NotUtf8 at) (Syntax line column) h g told told' = absurd (not_valid text at g.1 h.1)
fault_once text (NotUtf8 at) (Defect line column d) h g told told' = absurd (not_valid text at g.1.is_text.utf8 h.1)
fault_once text (Syntax line column) (TooLong found) h g told told' = absurd (let a = h.0 in let b = g.0 in omega (arith, a, b))
fault_once text (Syntax line column) (NotUtf8 at) h g told told' = absurd (not_valid text at h.1 g.1)
fault_once text (Syntax line column) (Syntax line' column') h g told told' =
    let place = has_fault_once text line column line' column' h.2 g.2 in
    λ i. Syntax (place.0 i) (place.1 i)
fault_once text (Syntax line column) (Defect line' column' d) h g told told' = absurd (h.2.fault.no_program g.1.program g.1.is_text.grammar)
fault_once text (Defect line column d) (TooLong found) h g told told' = absurd (let a = h.0 in let b = g.0 in omega (arith, a, b))
fault_once text (Defect line column d) (NotUtf8 at) h g told told' = absurd (not_valid text at h.1.is_text.utf8 g.1)
fault_once text (Defect line column d) (Syntax line' column') h g told told' = absurd (g.2.fault.no_program h.1.program h.1.is_text.grammar)
fault_once text (Defect line column d) (Defect line' column' e) h g told told' =
    let same = defect_once text line column line' column' d e h.1 g.1 in
    λ i. Defect (same.0 i) (same.1 i) (same.2 i)
