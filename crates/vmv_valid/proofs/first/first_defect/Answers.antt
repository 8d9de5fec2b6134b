use Rattle.std.proofs.Common.{◌≡◌, List, [], true, false, refl, sym, ap, ◌∙◌}
use Rattle.vmv_tree.specs.declared.deep.ItemCounts.{ItemCounts}
use Rattle.vmv_tree.specs.declared.tree.Item.{Item}
use Rattle.vmv_tree.specs.Valid.{Valid}
use Rattle.vmv_tree.specs.View.{items_of, program_of}
use Rattle.vmv_valid.specs.Walks.{walk_items, item_counts}
use Rattle.vmv_valid.proofs.PlacedItems.{walked_valid, walked_first, first_invalid, own_counts}
use Rattle.vmv_valid.proofs.first.first_defect.Goals as goal

-- the walk over a program, where these are its items, and these their counts
walk_of : (counts : ItemCounts) (items all : List Item) → items ≡ all → counts ≡ item_counts (items_of items) → walk_items (item_counts (items_of all)) [] 0 (items_of all) ≡ walk_items counts [] 0 (items_of items)
walk_of counts items all e f =
    ap (λ (x : List Item). walk_items (item_counts (items_of x)) [] 0 (items_of x)) (sym e) ∙ ap (λ (n : ItemCounts). walk_items n [] 0 (items_of items)) (sym f)

pub returns-in-Ok-clause-valid : goal.returns-in-Ok-clause-valid
returns-in-Ok-clause-valid c =
    let program = program_of c.args.program.now in
    let valid = walked_valid (item_counts program) program c.in-Ok.field-0 (own_counts program)
    (walk_of c.item_counts.result c.as_slice-items.result.now c.args.program.now.items c.as_slice-items.ensures c.item_counts.ensures ∙ c.in-Ok.ensures) in
    (λ (none : false ≡ false). valid, λ (v : Valid (program_of c.args.program.now)). refl)

pub returns-in-Err-Found-clause-valid : goal.returns-in-Err-Found-clause-valid
returns-in-Err-Found-clause-valid c =
    let program = program_of c.args.program.now in
    let told = rw c.in-Err-Found.field-0-is at c.in-Err-Found.ensures in
    let first = walked_first (item_counts program) program c.in-Err-Found.found (own_counts program)
    (walk_of c.item_counts.result c.as_slice-items.result.now c.args.program.now.items c.as_slice-items.ensures c.item_counts.ensures ∙ told) in
    (λ (none : true ≡ false). absurd (cc), λ (v : Valid (program_of c.args.program.now)). absurd (first_invalid (program_of c.args.program.now) c.in-Err-Found.found.mention c.in-Err-Found.found.defect first v))

pub returns-in-Err-Found-clause-first : goal.returns-in-Err-Found-clause-first
returns-in-Err-Found-clause-first c =
    let program = program_of c.args.program.now in
    let told = rw c.in-Err-Found.field-0-is at c.in-Err-Found.ensures in
    walked_first (item_counts program) program c.in-Err-Found.found (own_counts program)
    (walk_of c.item_counts.result c.as_slice-items.result.now c.args.program.now.items c.as_slice-items.ensures c.item_counts.ensures ∙ told)
