-- What the proofs of walks rewrite by: the tree of a statement, and lists put together.
use Rattle.std.proofs.Common.{◌≡◌, ◌+◌, ◌≤◌, ℕ, ap, List, ℤ, Result, Ok, Err, arith, append_assoc}
use Rattle.std.specs.Prelude.{IfOk}
use Rattle.std.proofs.lemmas.List.{append-nil}
use Rattle.vmv_tree.specs.declared.name.Name.{Name}
use Rattle.vmv_tree.specs.declared.tree.Operand.{Operand}
use Rattle.vmv_tree.specs.declared.tree.Test.{Test}
use Rattle.vmv_tree.specs.declared.tree.Stmt.{Stmt, If, Repeat}
use Rattle.vmv_valid.specs.declared.stop.Stop.{Stop}
use Rattle.vmv_tree.specs.Limits.{statements, block_statements}
use Rattle.vmv_tree.specs.View.{stmt_of, block_of, stmt_of-set, stmt_of-arith, stmt_of-call, stmt_of-assert, stmt_of-if, stmt_of-repeat}

-- the statements of an `if`, and of a loop
pub statements-if : (test : Test) (first second : List Stmt)
    → statements (stmt_of (If test first second)) ≡ 1 + block_statements (block_of first) + block_statements (block_of second)
statements-if test first second = ap statements (stmt_of-if test first second)

pub statements-repeat : (index : Name) (bound : Operand) (cap : ℤ) (body : List Stmt)
    → statements (stmt_of (Repeat index bound cap body)) ≡ 1 + block_statements (block_of body)
statements-repeat index bound cap body = ap statements (stmt_of-repeat index bound cap body)

pub ruleset walking = (stmt_of-set, stmt_of-arith, stmt_of-call, stmt_of-assert, stmt_of-if, stmt_of-repeat, append-nil, append_assoc, statements-if, statements-repeat)

pub same_statements : (a b : List Stmt) → a ≡ b → block_statements (block_of a) ≡ block_statements (block_of b)
same_statements a b e = ap (λ (x : List Stmt). block_statements (block_of x)) e

-- a walk that ends before x ends before what is behind x
pub ends_before : (r : Result ℕ Stop) (x y : ℕ) → x ≤ y → IfOk r (λ n. n ≤ x) → IfOk r (λ n. n ≤ y)
ends_before (Ok n) x y below h = omega (arith, h)
ends_before (Err e) x y below h = h

pub ends_before_and : (r : Result ℕ Stop) (x y : ℕ) (P : Type 0) → x ≤ y → P → IfOk r (λ n. n ≤ x) → IfOk r (λ n. (n ≤ y) × P)
ends_before_and (Ok n) x y P below p h = (omega (arith, h), p)
ends_before_and (Err e) x y P below p h = h
