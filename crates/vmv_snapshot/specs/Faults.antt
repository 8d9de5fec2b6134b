-- Why a program has no snapshot.
use Rattle.std.specs.Prelude.{List, ⊤}
use Rattle.vmv_tree.specs.Tree.{Item}
use Rattle.vmv_tree.specs.Valid.{FirstDefect}
use Rattle.vmv_snapshot.specs.declared.fault.NewFault.{NewFault}
use Rattle.vmv_snapshot.specs.declared.fault.NewFault.TheVariants.{Defect, Memory}

-- a defect is told where it is the program's first; of memory nothing is said
abbrev pub IsWhy : List Item → NewFault → Type 0
IsWhy program (Defect mention defect) = FirstDefect program mention defect
IsWhy program Memory = ⊤
