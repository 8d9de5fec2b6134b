-- How large resolved statements are: a bound on the recursion over them.
use Rattle.std.proofs.Common.{◌≡◌, ℕ, zero, suc, ◌+◌, ◌*◌, ◌<◌, ◌≤◌, Some, List, [], ◌∷◌, length, drop, get_or, slice_get, refl, ap, arith, ◌∙◌, add-one, drop-cons}
use Rattle.vmv_snapshot.specs.declared.code.Slot.{Slot}
use Rattle.vmv_snapshot.specs.declared.code.ProcId.{ProcId}
use Rattle.vmv_snapshot.specs.declared.code.CodeOperand.{CodeOperand}
use Rattle.vmv_snapshot.specs.declared.code.CodeTest.{CodeTest}
use Rattle.vmv_snapshot.specs.declared.code.Simple.{Simple}
use Rattle.vmv_snapshot.specs.declared.code.CodeStmt.{CodeStmt, Plain, Help, If, Repeat}
use Rattle.vmv_snapshot.specs.declared.code.CodeRepeat.{CodeRepeat}
use Rattle.vmv_snapshot.specs.declared.code.Code.{Code}
use Rattle.vmv_snapshot.specs.Code.{Stmt, plain, help, branch, loop, Block, [], ◌⨾◌}
use Rattle.vmv_snapshot.specs.View.{stmt_of, block_of, stmt_of-plain, stmt_of-help, stmt_of-if, stmt_of-repeat}

-- how many statements there are
abbrev mutual
  pub size : Stmt → ℕ
  size (plain simple) = 1
  size (help to callee args) = 1
  size (branch test first second) = 1 + block_size first + block_size second
  size (loop index slot bound most site body) = 1 + block_size body

  pub block_size : Block → ℕ
  block_size [] = 0
  block_size (s ⨾ rest) = size s + block_size rest

-- a block from its i-th statement on
pub from_item : (block : List CodeStmt) (i : ℕ) (s : CodeStmt) → i < length block → s ≡ get_or block i s → block_of (drop i block) ≡ stmt_of s ⨾ block_of (drop (i + 1) block)
from_item block i s h is = let tail : drop i block ≡ s ∷ drop (i + 1) block = rw (add-one, drop-cons block i s, ← is) refl in ap block_of tail

-- a statement's tree, by its form
pub is_plain : (s : CodeStmt) (simple : Simple) → s ≡ Plain simple → stmt_of s ≡ plain simple
is_plain s simple is = ap stmt_of is ∙ stmt_of-plain simple

pub is_help : (s : CodeStmt) (to : Slot) (callee : ProcId) (args : List CodeOperand) → s ≡ Help to callee args → stmt_of s ≡ help to callee args
is_help s to callee args is = ap stmt_of is ∙ stmt_of-help to callee args

pub is_if : (s : CodeStmt) (test : CodeTest) (first second : List CodeStmt) → s ≡ If test first second → stmt_of s ≡ branch test (block_of first) (block_of second)
is_if s test first second is = ap stmt_of is ∙ stmt_of-if test first second

abbrev pub loop_of : CodeRepeat → Stmt
loop_of r = loop r.index r.slot r.bound r.cap r.site (block_of r.body)

pub is_repeat : (s : CodeStmt) (r : CodeRepeat) → s ≡ Repeat r → stmt_of s ≡ loop_of r
is_repeat s r is = ap stmt_of is ∙ stmt_of-repeat r.index r.slot r.bound r.cap r.site r.body

-- the bound falls with each call
pub falls_first : (t : ℕ) (s : CodeStmt) (test : CodeTest) (first second one : List CodeStmt) → s ≡ If test first second → one ≡ first → 3 * size (stmt_of s) ≡ t → 3 * block_size (block_of one) + 2 < t
falls_first t s test first second one is a d =
    let e : size (stmt_of s) ≡ 1 + block_size (block_of first) + block_size (block_of second) = ap size (is_if s test first second is) in
    let f : block_size (block_of one) ≡ block_size (block_of first) = ap (λ (b : List CodeStmt). block_size (block_of b)) a in
    omega arith

pub falls_second : (t : ℕ) (s : CodeStmt) (test : CodeTest) (first second one : List CodeStmt) → s ≡ If test first second → one ≡ second → 3 * size (stmt_of s) ≡ t → 3 * block_size (block_of one) + 2 < t
falls_second t s test first second one is a d =
    let e : size (stmt_of s) ≡ 1 + block_size (block_of first) + block_size (block_of second) = ap size (is_if s test first second is) in
    let f : block_size (block_of one) ≡ block_size (block_of second) = ap (λ (b : List CodeStmt). block_size (block_of b)) a in
    omega arith

pub falls_repeat : (t : ℕ) (s : CodeStmt) (r : CodeRepeat) (one : List CodeStmt) → s ≡ Repeat r → one ≡ r.body → 3 * size (stmt_of s) ≡ t → 3 * block_size (block_of one) + 2 < t
falls_repeat t s r one is a d =
    let e : size (stmt_of s) ≡ 1 + block_size (block_of r.body) = ap size (is_repeat s r is) in
    let f : block_size (block_of one) ≡ block_size (block_of r.body) = ap (λ (b : List CodeStmt). block_size (block_of b)) a in
    omega arith

-- a statement of a block isn't larger than the block
item_size : (block : List CodeStmt) (i : ℕ) (s : CodeStmt) → i < length block → s ≡ get_or block i s → size (stmt_of s) ≤ block_size (block_of block)
item_size [] i s h is = absurd (omega arith)
item_size (b ∷ block) zero s h is = let e : size (stmt_of s) ≡ size (stmt_of b) = ap (λ (x : CodeStmt). size (stmt_of x)) is in omega arith
item_size (b ∷ block) (suc i) s h is = let k = item_size block i s (omega (arith, h)) is in omega arith

pub falls_item : (t : ℕ) (block : List CodeStmt) (i : ℕ) (s : CodeStmt) → i < length block → s ≡ get_or block i s → 3 * block_size (block_of block) + 1 ≡ t → 3 * size (stmt_of s) < t
falls_item t block i s h is d = let k = item_size block i s h is in omega arith
