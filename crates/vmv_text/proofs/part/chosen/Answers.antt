use Rattle.std.proofs.Common.{◌≡◌, ◌+◌, ◌≤◌, max, ap, ◌∙◌, arith}
use Rattle.vmv_tree.specs.Tree.{choose}
use Rattle.vmv_tree.specs.View.{block_of, stmt_of-if}
use Rattle.vmv_tree.specs.Limits.{block_nesting}
use Rattle.vmv_text.proofs.Sizing.{block_tree, block_deep, block_tree_sizes, choose_right}
use Rattle.vmv_text.proofs.part.chosen.Goals as goal

pub returns-in-Tree-second : goal.returns-in-Tree-second
returns-in-Tree-second c = λ least x y h k.
    let one = block_tree least c.args.first c.in-Tree.first x c.in-Tree.is h in
    let two = block_tree least c.args.second c.in-Tree-second.second y c.in-Tree-second.is k in
    stmt_of-if _ _ _ ∙ (ap (λ b. choose c.args.test b (block_of c.in-Tree-second.second)) one ∙ ap (λ b. choose c.args.test x b) two)

pub returns-in-Deep-second : goal.returns-in-Deep-second
returns-in-Deep-second c = λ least x y h k.
    let one = block_tree_sizes c.block_sizes.result least c.args.first c.in-Tree.first c.as_slice.result.now x c.in-Tree.is h c.as_slice.ensures c.block_sizes.ensures in
    let two = block_deep least c.args.second c.in-Deep-second.sizes y c.in-Deep-second.is k in
    let low : least ≤ block_nesting y = two.1 in
    let more : least + 1 ≤ 1 + max (block_nesting x) (block_nesting y) = omega (arith, low) in
    (choose_right c.args.test x y (c.choosing.ensures.sizes _ _ _ (c.beside.ensures.sizes _ _ _ _ _ _ one two.0)), more)
