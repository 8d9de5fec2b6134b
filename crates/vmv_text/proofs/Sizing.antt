-- How large trees are, and what is read without one.
use Rattle.std.proofs.Common.{◌≡◌, ℕ, ◌+◌, ◌≤◌, min, max, ℤ, List, [], ◌∷◌, ◌++◌, length, refl, sym, ◌∙◌, ap, subst, arith, length-append}
use Rattle.vmv_tree.specs.declared.name.Name.{Name}
use Rattle.vmv_tree.specs.declared.tree.Operand.{Operand}
use Rattle.vmv_tree.specs.declared.tree.Test.{Test}
use Rattle.vmv_tree.specs.declared.tree.Stmt.{Stmt as CodeStmt}
use Rattle.vmv_tree.specs.Tree.{Stmt, copy, compute, call, assert, choose, repeat, Block, [], ◌⨾◌}
use Rattle.vmv_tree.specs.View.{stmt_of, block_of}
use Rattle.vmv_tree.specs.Limits.{indexes_of, block_indexes, statements, block_statements, nesting, block_nesting}
use Rattle.vmv_text.specs.declared.sizes.Sizes.{Sizes}
use Rattle.vmv_text.specs.declared.part.BlockPart.{BlockPart}
use Rattle.vmv_text.specs.declared.part.BlockPart.TheVariants as block
use Rattle.vmv_text.specs.declared.part.StmtPart.{StmtPart}
use Rattle.vmv_text.specs.declared.part.StmtPart.TheVariants as stmt
use Rattle.vmv_text.specs.Reading.{before}
use Rattle.vmv_text.specs.Sizes.{AreSizes, HasSizes, HasStmtSizes, IsBlockPart, IsStmtPart, none, simple, beside, choosing, repeating, sized, sized_after}

beside_right : {a b : Sizes} {l s n l' s' n' : ℕ} → AreSizes a l s n → AreSizes b l' s' n' → AreSizes (beside a b) (l + l') (s + s') (max n n')
beside_right p q = record {
  loops_are = omega (arith, p.loops_are, q.loops_are);
  statements_are = omega (arith, p.statements_are, q.statements_are);
  nesting_is = omega (arith, p.nesting_is, q.nesting_is);
}

-- an `if` of two blocks, and a loop over one
pub choose_right : {all : Sizes} (test : Test) (x y : Block) → AreSizes all (length (block_indexes x) + length (block_indexes y)) (1 + (block_statements x + block_statements y)) (1 + max (block_nesting x) (block_nesting y)) → HasStmtSizes all (choose test x y)
choose_right test x y h = record {
  loops_are = omega (arith, h.loops_are, length-append (block_indexes x) (block_indexes y));
  statements_are = omega (arith, h.statements_are);
  nesting_is = h.nesting_is;
}

pub repeat_right : {all : Sizes} (index : Name) (bound : Operand) (most : ℤ) (x : Block) → AreSizes all (1 + length (block_indexes x)) (1 + block_statements x) (1 + block_nesting x) → HasStmtSizes all (repeat index bound most x)
repeat_right index bound most x h = record { loops_are = omega (arith, h.loops_are); statements_are = h.statements_are; nesting_is = h.nesting_is }

choosing_right : {a : Sizes} {l s n : ℕ} → AreSizes a l s n → AreSizes (choosing a) l (1 + s) (1 + n)
choosing_right p = record { loops_are = p.loops_are; statements_are = omega (arith, p.statements_are); nesting_is = omega (arith, p.nesting_is) }

repeating_right : {a : Sizes} {l s n : ℕ} → AreSizes a l s n → AreSizes (repeating a) (1 + l) (1 + s) (1 + n)
repeating_right p = record { loops_are = omega (arith, p.loops_are); statements_are = omega (arith, p.statements_are); nesting_is = omega (arith, p.nesting_is) }

none_right : AreSizes none 0 0 0
none_right = record { loops_are = refl; statements_are = refl; nesting_is = refl }

from_none : {a : Sizes} {l s n : ℕ} → AreSizes a (0 + l) (0 + s) (max 0 n) → AreSizes a l s n
from_none p = record { loops_are = omega (arith, p.loops_are); statements_are = omega (arith, p.statements_are); nesting_is = omega (arith, p.nesting_is) }

mutual
  sized_right : (s : Stmt) → HasStmtSizes (sized s) s
  sized_right (copy to from) = record { loops_are = refl; statements_are = refl; nesting_is = refl }
  sized_right (compute to op left right) = record { loops_are = refl; statements_are = refl; nesting_is = refl }
  sized_right (call to callee args) = record { loops_are = refl; statements_are = refl; nesting_is = refl }
  sized_right (assert test) = record { loops_are = refl; statements_are = refl; nesting_is = refl }
  sized_right (choose test first second) =
      choose_right test first second (choosing_right (beside_right (from_none (after_right none 0 0 0 none_right first)) (from_none (after_right none 0 0 0 none_right second))))
  sized_right (repeat index bound most body) =
      repeat_right index bound most body (repeating_right (from_none (after_right none 0 0 0 none_right body)))

  after_right : (sizes : Sizes) (l s n : ℕ) → AreSizes sizes l s n → (b : Block) → AreSizes (sized_after sizes b) (l + length (block_indexes b)) (s + block_statements b) (max n (block_nesting b))
  after_right sizes l s n h [] = record { loops_are = omega (arith, h.loops_are); statements_are = omega (arith, h.statements_are); nesting_is = omega (arith, h.nesting_is) }
  after_right sizes l s n h (x ⨾ rest) =
      let all = after_right (beside sizes (sized x)) (l + length (indexes_of x)) (s + statements x) (max n (nesting x)) (beside_right h (sized_right x)) rest in
      record {
        loops_are = omega (arith, all.loops_are, length-append (indexes_of x) (block_indexes rest));
        statements_are = omega (arith, all.statements_are);
        nesting_is = omega (arith, all.nesting_is);
      }

pub stmt_sized : (sizes : Sizes) (s : Stmt) → sizes ≡ sized s → HasStmtSizes sizes s
stmt_sized sizes s e = subst (λ (x : Sizes). HasStmtSizes x s) (sym e) (sized_right s)

pub block_sized : (sizes : Sizes) (b : Block) → sizes ≡ sized_after none b → HasSizes sizes b
block_sized sizes b e = subst (λ (x : Sizes). HasSizes x b) (sym e) (from_none (after_right none 0 0 0 none_right b))

-- a statement behind others
joined_indexes : (x : Block) (s : Stmt) → length (block_indexes (before x (s ⨾ []))) ≡ length (block_indexes x) + length (indexes_of s)
joined_indexes [] s = omega (arith, length-append (indexes_of s) [])
joined_indexes (y ⨾ x) s =
    omega (arith, joined_indexes x s, length-append (indexes_of y) (block_indexes (before x (s ⨾ []))), length-append (indexes_of y) (block_indexes x))

joined_statements : (x : Block) (s : Stmt) → block_statements (before x (s ⨾ [])) ≡ block_statements x + statements s
joined_statements [] s = omega arith
joined_statements (y ⨾ x) s = omega (arith, joined_statements x s)

pub joined_nesting : (x : Block) (s : Stmt) → block_nesting (before x (s ⨾ [])) ≡ max (block_nesting x) (nesting s)
joined_nesting [] s = omega arith
joined_nesting (y ⨾ x) s = omega (arith, joined_nesting x s)

pub joined_sizes : {all : Sizes} (x : Block) (s : Stmt) → AreSizes all (length (block_indexes x) + length (indexes_of s)) (block_statements x + statements s) (max (block_nesting x) (nesting s)) → HasSizes all (before x (s ⨾ []))
joined_sizes x s h = record {
  loops_are = omega (arith, h.loops_are, joined_indexes x s);
  statements_are = omega (arith, h.statements_are, joined_statements x s);
  nesting_is = omega (arith, h.nesting_is, joined_nesting x s);
}

pub joined_tree : (xs : List CodeStmt) (s : CodeStmt) → block_of (xs ++ s ∷ []) ≡ before (block_of xs) (stmt_of s ⨾ [])
joined_tree [] s = refl
joined_tree (x ∷ xs) s = ap (λ b. stmt_of x ⨾ b) (joined_tree xs s)

-- a block or statement as it was read, where it is a tree
pub block_tree : (least : ℕ) (part : BlockPart) (list : List CodeStmt) (x : Block) → part ≡ block.Tree list → IsBlockPart least part x → block_of list ≡ x
block_tree least part list x e h = subst (λ (p : BlockPart). IsBlockPart least p x) e h

pub stmt_tree : (least : ℕ) (part : StmtPart) (s : CodeStmt) (x : Stmt) → part ≡ stmt.Tree s → IsStmtPart least part x → stmt_of s ≡ x
stmt_tree least part s x e h = subst (λ (p : StmtPart). IsStmtPart least p x) e h

pub block_deep : (least : ℕ) (part : BlockPart) (sizes : Sizes) (x : Block) → part ≡ block.Deep sizes → IsBlockPart least part x → HasSizes sizes x × (least ≤ block_nesting x)
block_deep least part sizes x e h = subst (λ (p : BlockPart). IsBlockPart least p x) e h

pub stmt_deep : (least : ℕ) (part : StmtPart) (sizes : Sizes) (x : Stmt) → part ≡ stmt.Deep sizes → IsStmtPart least part x → HasStmtSizes sizes x × (least ≤ nesting x)
stmt_deep least part sizes x e h = subst (λ (p : StmtPart). IsStmtPart least p x) e h

pub block_tree_sizes : (sizes : Sizes) (least : ℕ) (part : BlockPart) (list slice : List CodeStmt) (x : Block) → part ≡ block.Tree list → IsBlockPart least part x → slice ≡ list → sizes ≡ sized_after none (block_of slice) → HasSizes sizes x
block_tree_sizes sizes least part list slice x e h same told =
    subst (λ (b : Block). HasSizes sizes b) (ap block_of same ∙ block_tree least part list x e h) (block_sized sizes (block_of slice) told)
