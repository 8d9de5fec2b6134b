use Rattle.std.proofs.Common.{subst}
use Rattle.vmv_tree.specs.View.{stmt_of}
use Rattle.vmv_tree.specs.Tree.{Stmt}
use Rattle.vmv_text.specs.Sizes.{HasStmtSizes}
use Rattle.vmv_text.proofs.Sizing.{stmt_tree, stmt_sized}
use Rattle.vmv_text.proofs.part.StmtPart.sizes.Goals as goal

pub returns-in-Tree : goal.returns-in-Tree
returns-in-Tree c =
    λ least x h. subst (λ (s : Stmt). HasStmtSizes c.stmt_sizes.result s) (stmt_tree least c.args.self.now c.in-Tree.stmt x c.in-Tree.is h) (stmt_sized c.stmt_sizes.result (stmt_of c.in-Tree.stmt) c.stmt_sizes.ensures)
