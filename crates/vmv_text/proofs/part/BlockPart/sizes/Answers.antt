use Rattle.vmv_text.proofs.Sizing.{block_tree_sizes}
use Rattle.vmv_text.proofs.part.BlockPart.sizes.Goals as goal

pub returns-in-Tree : goal.returns-in-Tree
returns-in-Tree c =
    λ least x h. block_tree_sizes c.block_sizes.result least c.args.self.now c.in-Tree.block c.as_slice.result.now x c.in-Tree.is h c.as_slice.ensures c.block_sizes.ensures
