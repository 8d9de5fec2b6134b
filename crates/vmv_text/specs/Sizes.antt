-- How large statements are, where no tree of them is made. Numbers above 1,000,000,000 are told as that.
use Rattle.std.specs.Prelude.{◌≡◌, ℕ, ◌+◌, ◌≤◌, min, max, List, length}
use Rattle.vmv_tree.specs.Tree.{Stmt, copy, compute, call, assert, choose, repeat, Block, [], ◌⨾◌}
use Rattle.vmv_tree.specs.View.{stmt_of, block_of}
use Rattle.vmv_tree.specs.Limits.{indexes_of, block_indexes, statements, block_statements, nesting, block_nesting}
use Rattle.vmv_text.specs.declared.sizes.Sizes.{Sizes}
use Rattle.vmv_text.specs.declared.part.BlockPart.{BlockPart}
use Rattle.vmv_text.specs.declared.part.BlockPart.TheVariants as block
use Rattle.vmv_text.specs.declared.part.StmtPart.{StmtPart}
use Rattle.vmv_text.specs.declared.part.StmtPart.TheVariants as stmt

-- these numbers
pub record AreSizes (sizes : Sizes) (loops statements nesting : ℕ) : Type 0 where
  pub loops_are : sizes.loops ≡ min loops 1000000000
  pub statements_are : sizes.statements ≡ min statements 1000000000
  pub nesting_is : sizes.nesting ≡ min nesting 1000000000

abbrev pub HasSizes : Sizes → Block → Type 0
HasSizes sizes b = AreSizes sizes (length (block_indexes b)) (block_statements b) (block_nesting b)

abbrev pub HasStmtSizes : Sizes → Stmt → Type 0
HasStmtSizes sizes s = AreSizes sizes (length (indexes_of s)) (statements s) (nesting s)

-- a block as it was read: its tree; or its sizes, where its blocks stand so deep in one another
abbrev pub IsBlockPart : (least : ℕ) → BlockPart → Block → Type 0
IsBlockPart least (block.Tree b) x = block_of b ≡ x
IsBlockPart least (block.Deep sizes) x = HasSizes sizes x × (least ≤ block_nesting x)

abbrev pub IsStmtPart : (least : ℕ) → StmtPart → Stmt → Type 0
IsStmtPart least (stmt.Tree s) x = stmt_of s ≡ x
IsStmtPart least (stmt.Deep sizes) x = HasStmtSizes sizes x × (least ≤ nesting x)

-- Sizes that are put together. Private contracts alone cite what stands below.
abbrev pub capped_sum : ℕ → ℕ → ℕ
capped_sum a b = min (a + b) 1000000000

abbrev pub none : Sizes
none = record { loops = 0; statements = 0; nesting = 0 }

abbrev pub simple : Sizes
simple = record { loops = 0; statements = 1; nesting = 0 }

abbrev pub beside : Sizes → Sizes → Sizes
beside a b = record { loops = capped_sum a.loops b.loops; statements = capped_sum a.statements b.statements; nesting = max a.nesting b.nesting }

abbrev pub choosing : Sizes → Sizes
choosing a = record { loops = a.loops; statements = capped_sum 1 a.statements; nesting = capped_sum 1 a.nesting }

abbrev pub repeating : Sizes → Sizes
repeating a = record { loops = capped_sum 1 a.loops; statements = capped_sum 1 a.statements; nesting = capped_sum 1 a.nesting }

abbrev mutual
  pub sized : Stmt → Sizes
  sized (copy to from) = simple
  sized (compute to op left right) = simple
  sized (call to callee args) = simple
  sized (assert test) = simple
  sized (choose test first second) = choosing (beside (sized_after none first) (sized_after none second))
  sized (repeat index bound most body) = repeating (sized_after none body)

  -- with those before
  pub sized_after : Sizes → Block → Sizes
  sized_after before [] = before
  sized_after before (s ⨾ rest) = sized_after (beside before (sized s)) rest
