-- The calls of helpers in resolved statements, in text order.
use Rattle.std.specs.Prelude.{List, [], ◌∷◌, ◌++◌}
use Rattle.vmv_snapshot.specs.declared.code.ProcId.{ProcId}
use Rattle.vmv_snapshot.specs.Code.{Stmt, plain, help, branch, loop, Block, [], ◌⨾◌}

-- the helpers that are called, each call counted, those inside other statements too
abbrev mutual
  pub callees : Stmt → List ProcId
  callees (plain simple) = []
  callees (help to callee args) = callee ∷ []
  callees (branch test first second) = block_callees first ++ block_callees second
  callees (loop index slot bound most site body) = block_callees body

  pub block_callees : Block → List ProcId
  block_callees [] = []
  block_callees (s ⨾ rest) = callees s ++ block_callees rest
