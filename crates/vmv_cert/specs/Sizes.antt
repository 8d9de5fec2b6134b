-- How many statements and loops stand in resolved statements.
use Rattle.std.specs.Prelude.{ℕ, ◌+◌}
use Rattle.vmv_snapshot.specs.Code.{Stmt, plain, help, branch, loop, Block, [], ◌⨾◌}

-- statements, those inside others counted
abbrev mutual
  pub statements : Stmt → ℕ
  statements (plain simple) = 1
  statements (help to callee args) = 1
  statements (branch test first second) = 1 + block_statements first + block_statements second
  statements (loop index slot bound most site body) = 1 + block_statements body

  pub block_statements : Block → ℕ
  block_statements [] = 0
  block_statements (s ⨾ rest) = statements s + block_statements rest

-- loops, those inside others counted
abbrev mutual
  pub loops : Stmt → ℕ
  loops (plain simple) = 0
  loops (help to callee args) = 0
  loops (branch test first second) = block_loops first + block_loops second
  loops (loop index slot bound most site body) = 1 + block_loops body

  pub block_loops : Block → ℕ
  block_loops [] = 0
  block_loops (s ⨾ rest) = loops s + block_loops rest
