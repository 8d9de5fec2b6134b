use Rattle.std.proofs.Common.{◌≡◌, ◌≤◌, max, ap, ◌∙◌, arith}
use Rattle.vmv_tree.specs.Tree.{[], ◌⨾◌}
use Rattle.vmv_tree.specs.View.{stmt_of, block_of}
use Rattle.vmv_tree.specs.Limits.{block_nesting, nesting}
use Rattle.vmv_text.specs.Reading.{before}
use Rattle.vmv_text.specs.Sizes.{HasSizes, HasStmtSizes}
use Rattle.vmv_text.proofs.Sizing.{block_tree, stmt_tree, block_deep, stmt_deep, block_tree_sizes, joined_tree, joined_sizes, joined_nesting}
use Rattle.vmv_text.proofs.part.BlockPart.with.Goals as goal

pub returns-in_ok-push-in-Tree-stmt : goal.returns-in_ok-push-in-Tree-stmt
returns-in_ok-push-in-Tree-stmt c = λ least x s h k.
    let one = block_tree least c.args.self c.in-Tree.block x c.in-Tree.is h in
    let two = stmt_tree least c.args.stmt c.in-Tree-stmt.stmt s c.in-Tree-stmt.is k in
    ap block_of c.in_ok-push-in-Tree-stmt.ensures.ok
    ∙ (joined_tree c.in-Tree.block c.in-Tree-stmt.stmt
    ∙ (ap (λ b. before b (stmt_of c.in-Tree-stmt.stmt ⨾ [])) one ∙ ap (λ t. before x (t ⨾ [])) two))

pub returns-in-Deep-stmt : goal.returns-in-Deep-stmt
returns-in-Deep-stmt c = λ least x s h k.
    let one = block_tree_sizes c.block_sizes.result least c.args.self c.in-Tree.block c.as_slice.result.now x c.in-Tree.is h c.as_slice.ensures c.block_sizes.ensures in
    let two = stmt_deep least c.args.stmt c.in-Deep-stmt.sizes s c.in-Deep-stmt.is k in
    let low : least ≤ nesting s = two.1 in
    let more : least ≤ block_nesting (before x (s ⨾ [])) = omega (arith, low, joined_nesting x s) in
    (joined_sizes x s (c.beside.ensures.sizes _ _ _ _ _ _ one two.0), more)

pub returns-in-Deep : goal.returns-in-Deep
returns-in-Deep c = λ least x s h k.
    let one = block_deep least c.args.self c.in-Deep.sizes x c.in-Deep.is h in
    let two = c.sizes.ensures least s k in
    let low : least ≤ block_nesting x = one.1 in
    let more : least ≤ block_nesting (before x (s ⨾ [])) = omega (arith, low, joined_nesting x s) in
    (joined_sizes x s (c.beside-in-Deep.ensures.sizes _ _ _ _ _ _ one.0 two), more)
