use Rattle.std.proofs.Common.{◌≡◌, ◌+◌, ◌≤◌, ℕ, sym, ap, ◌∙◌, subst, to_z, of_z, w64, rules, arith}
use Rattle.vmv_tree.specs.Tree.{Block, repeat}
use Rattle.vmv_tree.specs.View.{block_of, stmt_of-repeat}
use Rattle.vmv_tree.specs.Limits.{block_nesting}
use Rattle.vmv_text.specs.declared.part.BlockPart.{BlockPart}
use Rattle.vmv_text.specs.declared.part.BlockPart.TheVariants as block
use Rattle.vmv_text.specs.Sizes.{HasSizes, IsBlockPart}
use Rattle.vmv_text.proofs.Sizing.{repeat_right}
use Rattle.vmv_text.proofs.part.repeated.Goals as goal

pub returns-in-Tree : goal.returns-in-Tree
returns-in-Tree c = λ least x h.
    let cap : to_z w64 (of_z w64 c.args.turns.1.1) ≡ c.args.turns.1.1 = search rules in
    let tree : block_of c.in-Tree.body ≡ x = subst (λ (b : BlockPart). IsBlockPart least b x) c.in-Tree.is h in
    stmt_of-repeat _ _ _ _ ∙ (ap (λ z. repeat c.args.turns.0 c.args.turns.1.0 z (block_of c.in-Tree.body)) cap ∙ ap (λ b. repeat c.args.turns.0 c.args.turns.1.0 c.args.turns.1.1 b) tree)

pub returns-in-Deep : goal.returns-in-Deep
returns-in-Deep c = λ least x h.
    let deep : HasSizes c.in-Deep.sizes x × (least ≤ block_nesting x) = subst (λ (b : BlockPart). IsBlockPart least b x) c.in-Deep.is h in
    let low : least ≤ block_nesting x = deep.1 in
    (repeat_right c.args.turns.0 c.args.turns.1.0 c.args.turns.1.1 x (c.repeating.ensures.sizes _ _ _ deep.0), omega arith)
