use Rattle.std.proofs.Common.{List, ◌++◌, not, sym, ◌∙◌, ap}
use Rattle.std.proofs.lemmas.Result.{err_from_is_err_and}
use Rattle.vmv_tree.specs.declared.deep.ItemCounts.{ItemCounts}
use Rattle.vmv_tree.specs.Tree.{Item}
use Rattle.vmv_tree.specs.Deep.{HasCounts}
use Rattle.vmv_text.proofs.Faulty.{none_first, some_first}
use Rattle.vmv_text.proofs.Items.{below_start, below_more, below_end, listing_failed}
use Rattle.vmv_text.proofs.cursor.Cursor.items_below.Goals as goal

pub loop-alloc-init : goal.loop-alloc-init
loop-alloc-init c = below_start _ _

pub returns-then-is_none : goal.returns-then-is_none
returns-then-is_none c =
    below_end _ _ _ _ c.loop-alloc.invariant (sym c.peek.ensures ∙ none_first c.peek.result.now (c.is_none.ensures ∙ ap not c.if-is_none.true))

pub returns-in_err-item : goal.returns-in_err-item
returns-in_err-item c =
    let p = err_from_is_err_and c.from_residual.result c.from_residual.ensures.1 in
    rw (p.1, p.2)
    (listing_failed (λ (w : ItemCounts) (items : List Item). (above : List Item) → HasCounts c.args.counts above → HasCounts w (above ++ items)) c.in_err-item.field-0.0 _ _ _ c.item.new.self c.loop-alloc.invariant.listing
    (λ h. some_first c.peek.result.now (c.is_none.ensures ∙ ap not c.if-is_none.false) (c.peek.ensures ∙ h)) c.in_err-item.ensures.reads)

pub loop-alloc-preserved : goal.loop-alloc-preserved
loop-alloc-preserved c =
    below_more _ _ _ _ c.in_ok-item.item _ _ c.loop-alloc.invariant
    (λ h. some_first c.peek.result.now (c.is_none.ensures ∙ ap not c.if-is_none.false) (c.peek.ensures ∙ h)) c.in_ok-item.ensures.reads c.with_item-all.ensures

pub loop-alloc-preserved-in_ok-item : goal.loop-alloc-preserved-in_ok-item
loop-alloc-preserved-in_ok-item c =
    below_more _ _ _ _ c.in_ok-item.item _ _ c.loop-alloc.invariant
    (λ h. some_first c.peek.result.now (c.is_none.ensures ∙ ap not c.if-is_none.false) (c.peek.ensures ∙ h)) c.in_ok-item.ensures.reads c.with_item-all.ensures

pub loop-alloc-preserved-in_ok-item-2 : goal.loop-alloc-preserved-in_ok-item-2
loop-alloc-preserved-in_ok-item-2 c =
    below_more _ _ _ _ c.in_ok-item.item _ _ c.loop-alloc.invariant
    (λ h. some_first c.peek.result.now (c.is_none.ensures ∙ ap not c.if-is_none.false) (c.peek.ensures ∙ h)) c.in_ok-item.ensures.reads c.with_item-all.ensures

pub loop-alloc-preserved-in_ok-item-3 : goal.loop-alloc-preserved-in_ok-item-3
loop-alloc-preserved-in_ok-item-3 c =
    below_more _ _ _ _ c.in_ok-item.item _ _ c.loop-alloc.invariant
    (λ h. some_first c.peek.result.now (c.is_none.ensures ∙ ap not c.if-is_none.false) (c.peek.ensures ∙ h)) c.in_ok-item.ensures.reads c.with_item-all.ensures
