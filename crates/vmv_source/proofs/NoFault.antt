-- A text of a valid program has no fault.
use Rattle.std.proofs.Common.{◌≡◌, ℕ, ◌≤◌, List, length, refl, sym, subst, arith}
use Rattle.vmv_tree.specs.Tree.{Item}
use Rattle.vmv_tree.specs.Valid.{Valid}
use Rattle.vmv_text.specs.Grammar.{IsText}
use Rattle.vmv_text.proofs.OneTree.{text_once}
use Rattle.vmv_text.proofs.ValidFronts.{not_valid}
use Rattle.vmv_source.specs.declared.fault.TextFault.{TextFault}
use Rattle.vmv_source.specs.declared.fault.TextFault.TheVariants.{NotUtf8, Syntax, Defect, Memory, TooLong}
use Rattle.vmv_source.specs.Faults.{IsTextFault}

pub no_fault : (bytes : List ℕ) (p : List Item) (why : TextFault) → length bytes ≤ 1048576 → IsText bytes p → Valid p → IsTextFault bytes why → why ≡ Memory
no_fault bytes p (TooLong found) short text valid h = let long = h.0 in absurd (omega arith)
no_fault bytes p (NotUtf8 at) short text valid h = absurd (not_valid bytes at text.utf8 h.1)
no_fault bytes p (Syntax line column) short text valid h = absurd (h.2.fault.no_program p text.grammar)
no_fault bytes p (Defect line column defect) short text valid h =
    let same = text_once bytes h.1.program p h.1.is_text text in
    absurd (subst Valid (sym same) valid h.1.mention defect h.1.first.there)
no_fault bytes p Memory short text valid h = refl
