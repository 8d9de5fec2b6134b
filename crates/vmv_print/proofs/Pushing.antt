-- What the proofs of the writers rewrite by: the tree of a statement, and lists put together.
use Rattle.std.proofs.Common.{◌≡◌, ℕ, ◌<◌, List, [], ◌∷◌, ◌++◌, length, refl, arith, append_assoc}
use Rattle.std.specs.Prelude.{codes}
use Rattle.std.proofs.lemmas.List.{append-nil}
use Rattle.vmv_tree.specs.declared.tree.Stmt.{Stmt}
use Rattle.vmv_tree.specs.View.{block_of, stmt_of-set, stmt_of-arith, stmt_of-call, stmt_of-assert, stmt_of-if, stmt_of-repeat}
use Rattle.vmv_print.specs.Canonical.{line, else_line}

pub ruleset pushing = (stmt_of-set, stmt_of-arith, stmt_of-call, stmt_of-assert, stmt_of-if, stmt_of-repeat, append-nil, append_assoc)

-- the line between the parts of an `if`, by the length of the second
pub else_line-none : (indent : List ℕ) (second : List Stmt) → length second ≡ 0 → else_line indent (block_of second) ≡ []
else_line-none indent [] h = refl
else_line-none indent (s ∷ second) h = absurd (omega arith)

pub else_line-some : (indent : List ℕ) (second : List Stmt) → 0 < length second → else_line indent (block_of second) ≡ line indent (codes "} else {")
else_line-some indent [] h = absurd (omega arith)
else_line-some indent (s ∷ second) h = refl

pub ruleset else_shown = (else_line-none, else_line-some, append-nil, append_assoc)
