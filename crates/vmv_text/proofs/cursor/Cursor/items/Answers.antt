use Rattle.std.proofs.Common.{not, sym, refl, ◌∙◌, ap}
use Rattle.std.proofs.lemmas.Result.{err_from_is_err_and}
use Rattle.vmv_tree.specs.View.{items_of}
use Rattle.vmv_text.specs.Parts.{IsParsed}
use Rattle.vmv_text.proofs.Faulty.{none_first, some_first}
use Rattle.vmv_text.proofs.Items.{listed_start, listed_tree, listed_told, told_stopped, listing_end, listing_failed}
use Rattle.vmv_text.proofs.cursor.Cursor.items.Goals as goal

pub loop-alloc-init : goal.loop-alloc-init
loop-alloc-init c = listed_start _ _ _ c.new-items.ensures c.no_items-counts.ensures

pub returns-then-is_none : goal.returns-then-is_none
returns-then-is_none c = (
  items_of c.loop-alloc.items,
  refl,
  listing_end _ _ _ c.loop-alloc.invariant.listing (sym c.peek.ensures ∙ none_first c.peek.result.now (c.is_none.ensures ∙ ap not c.if-is_none.true)),
)

pub returns-in_err-part : goal.returns-in_err-part
returns-in_err-part c =
    let p = err_from_is_err_and c.from_residual.result c.from_residual.ensures.1 in
    rw (p.1, p.2)
    (listing_failed IsParsed c.in_err-part.field-0.0 _ _ _ c.item.new.self c.loop-alloc.invariant.listing
    (λ h. some_first c.peek.result.now (c.is_none.ensures ∙ ap not c.if-is_none.false) (c.peek.ensures ∙ h)) c.in_err-part.ensures.reads)

pub loop-alloc-preserved : goal.loop-alloc-preserved
loop-alloc-preserved c =
    rw c.in_ok-push-in-Tree.ensures.ok
    (listed_tree _ c.loop-alloc.items c.in-Tree.item _ _ _ _ c.in_ok-part.part c.in-Tree.is c.loop-alloc.invariant
    (λ h. some_first c.peek.result.now (c.is_none.ensures ∙ ap not c.if-is_none.false) (c.peek.ensures ∙ h)) c.in_ok-part.ensures.reads c.with_item-counts.ensures)

pub returns-in_err-counts-in-Deep : goal.returns-in_err-counts-in-Deep
returns-in_err-counts-in-Deep c =
    let p = err_from_is_err_and c.from_residual-in_err-counts-in-Deep.result c.from_residual-in_err-counts-in-Deep.ensures.1 in
    rw (p.1, p.2)
    (told_stopped _ _ c.in-Deep.deep c.loop-alloc.counts c.with_item-counts.result c.in_err-counts-in-Deep.field-0.0 _ _ c.items_below.new.self c.in_ok-part.part c.in-Deep.is c.loop-alloc.invariant
    (λ h. some_first c.peek.result.now (c.is_none.ensures ∙ ap not c.if-is_none.false) (c.peek.ensures ∙ h)) c.in_ok-part.ensures.reads c.in_err-counts-in-Deep.ensures)

pub returns-in-Deep : goal.returns-in-Deep
returns-in-Deep c =
    listed_told _ c.loop-alloc.items c.in-Deep.deep c.loop-alloc.counts c.with_item-counts.result c.in_ok-counts-in-Deep.counts _ _ c.items_below.new.self _ c.in_ok-part.part c.in-Deep.is refl c.loop-alloc.invariant
    (λ h. some_first c.peek.result.now (c.is_none.ensures ∙ ap not c.if-is_none.false) (c.peek.ensures ∙ h)) c.in_ok-part.ensures.reads c.with_item-counts.ensures c.in_ok-counts-in-Deep.ensures
