-- Why a text has no snapshot.
use Rattle.std.specs.Prelude.{ℕ, ◌≤◌, List, length, ⊤}
use Rattle.vmv_tree.specs.declared.defect.Defect.{Defect}
use Rattle.vmv_tree.specs.Tree.{Item}
use Rattle.vmv_tree.specs.Valid.{FirstDefect}
use Rattle.vmv_text.specs.declared.fault.ReadFault.TheVariants as reading
use Rattle.vmv_text.specs.Grammar.{IsText}
use Rattle.vmv_text.specs.Faults.{IsReadFault}
use Rattle.vmv_text.specs.Mentioned.{HasMention}
use Rattle.vmv_source.specs.declared.fault.TextFault.{TextFault}
use Rattle.vmv_source.specs.declared.fault.TextFault.TheVariants as fault

-- the text is that of a program whose first defect is this one, at a mention that stands at this line and column
pub record HasDefectAt (text : List ℕ) (line column : ℕ) (defect : Defect) : Type 0 where
  pub program : List Item
  pub mention : ℕ
  pub is_text : IsText text program
  pub first : FirstDefect program mention defect
  pub place : HasMention text mention line column

-- The text isn't read, for this reason; or it is that of a program that isn't valid. Want of memory says nothing.
abbrev pub IsTextFault : List ℕ → TextFault → Type 0
IsTextFault text (fault.TooLong found) = IsReadFault text (reading.TooLong found)
IsTextFault text (fault.NotUtf8 at) = IsReadFault text (reading.NotUtf8 at)
IsTextFault text (fault.Syntax line column) = IsReadFault text (reading.Syntax line column)
IsTextFault text (fault.Defect line column defect) = (length text ≤ 1048576) × HasDefectAt text line column defect
IsTextFault text fault.Memory = ⊤
