-- How many loops stand in statements, part by part.
use Rattle.std.proofs.Common.{◌≡◌, ℕ, ◌+◌, ◌*◌, ◌<◌, ◌≤◌, List, [], length, drop, get_or, ap, arith}
use Rattle.std.proofs.lemmas.List.{drop_all}
use Rattle.vmv_snapshot.specs.declared.code.CodeTest.{CodeTest}
use Rattle.vmv_snapshot.specs.declared.code.CodeStmt.{CodeStmt, If, Repeat}
use Rattle.vmv_snapshot.specs.declared.code.CodeRepeat.{CodeRepeat}
use Rattle.vmv_snapshot.specs.Code.{Stmt, plain, help, branch, loop, Block, [], ◌⨾◌}
use Rattle.vmv_snapshot.specs.View.{stmt_of, block_of}
use Rattle.vmv_cert.specs.Sizes.{statements, block_statements, loops, block_loops}
use Rattle.vmv_check.proofs.Walking.{from_item, is_if, is_repeat}

mutual
  loops_few : (s : Stmt) → loops s ≤ statements s
  loops_few (plain simple) = omega arith
  loops_few (help to callee args) = omega arith
  loops_few (branch test first second) = let a = block_loops_few first in let b = block_loops_few second in omega arith
  loops_few (loop index slot bound most site body) = let a = block_loops_few body in omega arith

  pub block_loops_few : (b : Block) → block_loops b ≤ block_statements b
  block_loops_few [] = omega arith
  block_loops_few (s ⨾ rest) = let a = loops_few s in let b = block_loops_few rest in omega arith

pub first_part : (t : ℕ) (s : CodeStmt) (test : CodeTest) (first second one : List CodeStmt) → s ≡ If test first second → one ≡ first → 2 * statements (stmt_of s) ≡ t → statements (stmt_of s) ≤ 2000 →
    (2 * block_statements (block_of one) + 1 < t) × (block_statements (block_of one) ≤ 2000)
first_part t s test first second one is a d few =
    let e : statements (stmt_of s) ≡ 1 + block_statements (block_of first) + block_statements (block_of second) = ap statements (is_if s test first second is) in
    let f : block_statements (block_of one) ≡ block_statements (block_of first) = ap (λ (b : List CodeStmt). block_statements (block_of b)) a in
    (omega arith, omega arith)

pub second_part : (t : ℕ) (s : CodeStmt) (test : CodeTest) (first second two : List CodeStmt) → s ≡ If test first second → two ≡ second → 2 * statements (stmt_of s) ≡ t → statements (stmt_of s) ≤ 2000 →
    (2 * block_statements (block_of two) + 1 < t) × (block_statements (block_of two) ≤ 2000)
second_part t s test first second two is a d few =
    let e : statements (stmt_of s) ≡ 1 + block_statements (block_of first) + block_statements (block_of second) = ap statements (is_if s test first second is) in
    let f : block_statements (block_of two) ≡ block_statements (block_of second) = ap (λ (b : List CodeStmt). block_statements (block_of b)) a in
    (omega arith, omega arith)

pub body_part : (t : ℕ) (s : CodeStmt) (r : CodeRepeat) (body : List CodeStmt) → s ≡ Repeat r → body ≡ r.body → 2 * statements (stmt_of s) ≡ t → statements (stmt_of s) ≤ 2000 →
    (2 * block_statements (block_of body) + 1 < t) × (block_statements (block_of body) ≤ 2000)
body_part t s r body is a d few =
    let e : statements (stmt_of s) ≡ 1 + block_statements (block_of r.body) = ap statements (is_repeat s r is) in
    let f : block_statements (block_of body) ≡ block_statements (block_of r.body) = ap (λ (b : List CodeStmt). block_statements (block_of b)) a in
    (omega arith, omega arith)

pub if_count : (s : CodeStmt) (test : CodeTest) (first second one two : List CodeStmt) → s ≡ If test first second → one ≡ first → two ≡ second → statements (stmt_of s) ≤ 2000 →
    (block_loops (block_of one) + block_loops (block_of two) ≡ loops (stmt_of s)) × (block_loops (block_of one) + block_loops (block_of two) ≤ 2000)
if_count s test first second one two is a b few =
    let e : loops (stmt_of s) ≡ block_loops (block_of first) + block_loops (block_of second) = ap loops (is_if s test first second is) in
    let f : block_loops (block_of one) ≡ block_loops (block_of first) = ap (λ (b : List CodeStmt). block_loops (block_of b)) a in
    let g : block_loops (block_of two) ≡ block_loops (block_of second) = ap (λ (b : List CodeStmt). block_loops (block_of b)) b in
    let h = loops_few (stmt_of s) in
    (omega arith, omega arith)

pub repeat_count : (s : CodeStmt) (r : CodeRepeat) (body : List CodeStmt) → s ≡ Repeat r → body ≡ r.body → statements (stmt_of s) ≤ 2000 →
    (1 + block_loops (block_of body) ≡ loops (stmt_of s)) × (1 + block_loops (block_of body) ≤ 2000)
repeat_count s r body is a few =
    let e : loops (stmt_of s) ≡ 1 + block_loops (block_of r.body) = ap loops (is_repeat s r is) in
    let f : block_loops (block_of body) ≡ block_loops (block_of r.body) = ap (λ (b : List CodeStmt). block_loops (block_of b)) a in
    let h = loops_few (stmt_of s) in
    (omega arith, omega arith)

-- what is counted before the i-th statement
pub record Counted (block : List CodeStmt) (i count : ℕ) : Type 0 where
  pub left : count + block_loops (block_of (drop i block)) ≡ block_loops (block_of block)
  pub inside : block_statements (block_of (drop i block)) ≤ block_statements (block_of block)

pub counted_start : (block : List CodeStmt) → Counted block 0 0
counted_start block = record { left = omega arith; inside = omega arith }

pub counted_item : (block : List CodeStmt) (i count t : ℕ) (s : CodeStmt) → i < length block → s ≡ get_or block i s → Counted block i count → 2 * block_statements (block_of block) + 1 ≡ t →
    block_statements (block_of block) ≤ 2000 → (2 * statements (stmt_of s) < t) × (statements (stmt_of s) ≤ 2000)
counted_item block i count t s h is c d few =
    let b : block_statements (block_of (drop i block)) ≡ statements (stmt_of s) + block_statements (block_of (drop (i + 1) block)) = ap block_statements (from_item block i s h is) in
    let z = c.inside in
    (omega arith, omega arith)

pub counted_more : (block : List CodeStmt) (i count : ℕ) (s : CodeStmt) → i < length block → s ≡ get_or block i s → Counted block i count → Counted block (i + 1) (count + loops (stmt_of s))
counted_more block i count s h is c =
    let e = from_item block i s h is in
    let a : block_loops (block_of (drop i block)) ≡ loops (stmt_of s) + block_loops (block_of (drop (i + 1) block)) = ap block_loops e in
    let b : block_statements (block_of (drop i block)) ≡ statements (stmt_of s) + block_statements (block_of (drop (i + 1) block)) = ap block_statements e in
    let y = c.left in
    let z = c.inside in
    record { left = omega arith; inside = omega arith }

pub counted_few : (block : List CodeStmt) (i count : ℕ) → Counted block i count → block_statements (block_of block) ≤ 2000 → count ≤ 2000
counted_few block i count c few = let y = c.left in let h = block_loops_few (block_of block) in omega arith

pub counted_end : (block : List CodeStmt) (i count : ℕ) → length block ≤ i → Counted block i count → count ≡ block_loops (block_of block)
counted_end block i count h c =
    let a : block_loops (block_of (drop i block)) ≡ 0 = ap (λ (b : List CodeStmt). block_loops (block_of b)) (drop_all i block h) in
    let y = c.left in
    omega arith
