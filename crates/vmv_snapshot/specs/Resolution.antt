-- What a snapshot is: a valid program with the code of its procedures.
use Rattle.std.specs.Prelude.{◌≡◌, ◌↔◌, ℕ, ◌<◌, Some, List, length, map, slice_get, slice_index}
use Rattle.vmv_tree.specs.declared.tree.Program.{Program}
use Rattle.vmv_tree.specs.Tree.{Item}
use Rattle.vmv_tree.specs.View.{program_of}
use Rattle.vmv_tree.specs.Valid.{Valid}
use Rattle.vmv_snapshot.specs.declared.code.Code.{Code}
use Rattle.vmv_snapshot.specs.declared.tables.Tables.{Tables}
use Rattle.vmv_snapshot.specs.View.{code_of}
use Rattle.vmv_snapshot.specs.Procs.{procs}
use Rattle.vmv_snapshot.specs.Resolves.{IsCode}
use Rattle.vmv_snapshot.specs.Reaches.{Reaches}
use Rattle.vmv_snapshot.specs.Tables.{AreTables}
use Rattle.vmv_snapshot.specs.Rows.{IsIn}

-- a program, and the code of each of its procedures by their numbers
pub record Resolution : Type 0 where
  pub program : Program
  pub codes : List Code

abbrev pub tree_of : Resolution → List Item
tree_of s = program_of s.program

abbrev pub procs_of : Resolution → List Item
procs_of s = procs (tree_of s)

-- the program is valid, and each code is that of the procedure of its number
pub record IsResolution (s : Resolution) : Type 0 where
  pub valid : Valid (tree_of s)
  pub count : length s.codes ≡ length (procs_of s)
  pub resolves : (n : ℕ) (code : Code) → slice_get s.codes n ≡ Some code → IsCode (tree_of s) n (code_of code)

-- what a snapshot holds beside its program is what the program has
pub record IsKept (program : Program) (tables : Tables) (reach : List ℕ) : Type 0 where
  pub valid : Valid (program_of program)
  pub resolved : AreTables (program_of program) tables
  pub rows : length reach ≡ length tables.procs.items
  pub reached : (p n : ℕ) → p < length tables.procs.items → IsIn (slice_index reach p) n ↔ Reaches (program_of program) p n
