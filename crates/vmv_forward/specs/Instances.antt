-- The loops of an entry, once for each path of calls that leads to them.
use Rattle.std.specs.Prelude.{ℕ, zero, suc, ◌+◌, List, [], ◌∷◌, sum_by}
use Rattle.vmv_snapshot.specs.declared.code.Code.{Code}
use Rattle.vmv_snapshot.specs.declared.code.ProcId.{ProcId}
use Rattle.vmv_snapshot.specs.Code.{Block, []}
use Rattle.vmv_snapshot.specs.View.{code_of}
use Rattle.vmv_cert.specs.Sizes.{block_loops}
use Rattle.vmv_pass.specs.Callees.{block_callees}

-- the statements of the procedure of this number; there are none where there is no such procedure
abbrev pub block_at : List Code → ℕ → Block
block_at [] n = []
block_at (code ∷ codes) zero = (code_of code).block
block_at (code ∷ codes) (suc n) = block_at codes n

-- the loops of a procedure and of those that it calls, on paths of fewer calls than so many
abbrev pub instances_within : ℕ → List Code → ℕ → ℕ
instances_within zero codes n = 0
instances_within (suc most) codes n = block_loops (block_at codes n) + sum_by (λ (callee : ProcId). instances_within most codes callee.0) (block_callees (block_at codes n))

-- the loops of a procedure and of those that it calls; each calls procedures of lower numbers alone
abbrev pub instances : List Code → ℕ → ℕ
instances codes n = instances_within (suc n) codes n
