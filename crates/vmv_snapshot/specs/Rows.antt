-- Sets of procedures as bits, and which procedures resolved statements call.
use Rattle.std.specs.Prelude.{◌≡◌, ◌⊎◌, ◌↔◌, ℕ, ◌<◌, Some, List, length, slice_get, slice_index}
use Rattle.std.specs.Int.{bit_at}
use Rattle.vmv_snapshot.specs.declared.tables.Proc.{Proc}
use Rattle.vmv_snapshot.specs.Code.{Stmt, plain, help, branch, loop, Block, [], ◌⨾◌}
use Rattle.vmv_snapshot.specs.View.{code_of}

-- the number is in the set
abbrev pub IsIn : ℕ → ℕ → Type 0
IsIn set n = bit_at set n ≡ 1

-- some call in it is of the helper of this number
abbrev mutual
  pub Helps : Stmt → ℕ → Type 0
  Helps (plain simple) n = ⊥
  Helps (help to callee args) n = callee.0 ≡ n
  Helps (branch test first second) n = BlockHelps first n ⊎ BlockHelps second n
  Helps (loop index slot bound most site body) n = BlockHelps body n

  pub BlockHelps : Block → ℕ → Type 0
  BlockHelps [] n = ⊥
  BlockHelps (s ⨾ rest) n = Helps s n ⊎ BlockHelps rest n

-- a called helper's row has it
abbrev pub IsReached : List ℕ → (ℕ → Type 0) → ℕ → Type 0
IsReached rows Called n = (callee : ℕ) × Called callee × IsIn (slice_index rows callee) n

-- a procedure's row has the procedure itself, and what the rows of its callees have, which stand before it
pub record AreRows (procs : List Proc) (rows : List ℕ) : Type 0 where
  pub count : length rows ≡ length procs
  pub reached : (p : ℕ) (proc : Proc) → slice_get procs p ≡ Some proc → (n : ℕ)
      → IsIn (slice_index rows p) n ↔ ((n ≡ p) ⊎ ((callee : ℕ) × (callee < p) × BlockHelps (code_of proc.code).block callee × IsIn (slice_index rows callee) n))
