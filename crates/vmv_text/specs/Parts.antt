-- Bodies, items and programs as they were read: their trees, or what is told of those whose blocks stand too deep.
use Rattle.std.specs.Prelude.{◌≡◌, ◌+◌, min, Bool, true, false, List}
use Rattle.vmv_tree.specs.declared.deep.ItemCounts.{ItemCounts}
use Rattle.vmv_tree.specs.Tree.{Block, Body, Item}
use Rattle.vmv_tree.specs.View.{item_of, program_of}
use Rattle.vmv_tree.specs.Deep.{IsDeep, IsDeepProgram}
use Rattle.vmv_text.specs.declared.item_part.BodyPart.{BodyPart}
use Rattle.vmv_text.specs.declared.item_part.ItemPart.{ItemPart}
use Rattle.vmv_text.specs.declared.item_part.ItemPart.TheVariants as item
use Rattle.vmv_text.specs.declared.item_part.Parsed.{Parsed}
use Rattle.vmv_text.specs.declared.item_part.Parsed.TheVariants as parsed
use Rattle.vmv_text.specs.Sizes.{IsBlockPart}

-- no tree has more than 8 blocks in one another
abbrev pub IsBodyPart : BodyPart → Body → Type 0
IsBodyPart part x = (b : Block) × IsBlockPart 9 part.block b × (x ≡ record { vars = part.vars; block = b; output = part.result })

abbrev pub IsItemPart : ItemPart → Item → Type 0
IsItemPart (item.Tree i) x = item_of i ≡ x
IsItemPart (item.Deep deep) x = IsDeep deep x

-- the program that was read
abbrev pub IsParsed : Parsed → List Item → Type 0
IsParsed (parsed.Whole program) items = program_of program ≡ items
IsParsed (parsed.Deep told) items = IsDeepProgram told items

-- the counts with one more helper, or entry
abbrev pub with_procedure : ItemCounts → Bool → ItemCounts
with_procedure counts true = record counts { entries = min (counts.entries + 1) 1000000000 }
with_procedure counts false = record counts { helpers = min (counts.helpers + 1) 1000000000 }
