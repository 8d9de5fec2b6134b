use Rattle.std.proofs.Common.{◌≡◌, ◌++◌, ◌∷◌, [], subst}
use Rattle.vmv_tree.specs.Tree.{Item}
use Rattle.vmv_tree.specs.View.{item_of}
use Rattle.vmv_tree.specs.Deep.{HasCounts, IsDeep}
use Rattle.vmv_text.specs.declared.item_part.ItemPart.{ItemPart}
use Rattle.vmv_text.specs.Parts.{IsItemPart}
use Rattle.vmv_text.proofs.Counting.{one_deep}
use Rattle.vmv_text.proofs.item_part.with_item.Goals as goal

pub returns-in-Deep : goal.returns-in-Deep
returns-in-Deep c = λ items x h k.
    let deep : IsDeep c.in-Deep.deep x = subst (λ (p : ItemPart). IsItemPart p x) c.in-Deep.is k in
    one_deep c.args.counts.now c.with_procedure.result items c.in-Deep.deep x c.with_procedure.ensures h deep

pub returns-in-Tree : goal.returns-in-Tree
returns-in-Tree c = λ items x h k.
    let tree : item_of c.in-Tree.item ≡ x = subst (λ (p : ItemPart). IsItemPart p x) c.in-Tree.is k in
    subst (λ (y : Item). HasCounts c.with_tree.result (items ++ y ∷ [])) tree (c.with_tree.ensures items h)
