-- Which slots the statements of a resolved procedure assign.
use Rattle.std.specs.Prelude.{ℕ, ◌==◌, Bool, false, ◌||◌}
use Rattle.vmv_snapshot.specs.declared.code.Simple.{Simple}
use Rattle.vmv_snapshot.specs.declared.code.Simple.TheVariants.{Set, Arith, Ask, Assert}
use Rattle.vmv_snapshot.specs.Code.{Stmt, plain, help, branch, loop, Block, [], ◌⨾◌}

-- the statement assigns slot x
abbrev pub simple_assigns : ℕ → Simple → Bool
simple_assigns x (Set to from) = to.0 == x
simple_assigns x (Arith to op left right site) = to.0 == x
simple_assigns x (Ask to callee args) = to.0 == x
simple_assigns x (Assert test site) = false

-- the statement assigns slot x, itself or inside; a loop assigns its index
unfoldable mutual
  pub assigns : ℕ → Stmt → Bool
  assigns x (plain simple) = simple_assigns x simple
  assigns x (help to callee args) = to.0 == x
  assigns x (branch test first second) = block_assigns x first || block_assigns x second
  assigns x (loop index slot bound most site body) = index.0 == x || block_assigns x body

  pub block_assigns : ℕ → Block → Bool
  block_assigns x [] = false
  block_assigns x (s ⨾ rest) = assigns x s || block_assigns x rest
