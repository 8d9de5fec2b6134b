use Rattle.std.proofs.Common.{◌≡◌, ◌++◌, ◌∷◌, [], length, vec_len, arith}
use Rattle.std.proofs.lemmas.List.{nil_from_length}
use Rattle.std.proofs.lemmas.Result.{err_from_is_err_and}
use Rattle.vmv_text.proofs.Steps.{not_first}
use Rattle.vmv_text.proofs.OpenBlocks.{counted_start, counted_end, counted_behind, counted_failed_at, counted_more_at, counted_behind_failed}
use Rattle.vmv_text.proofs.cursor.Cursor.flat.Goals as goal

pub loop-blocks-init : goal.loop-blocks-init
loop-blocks-init c = record { counted = rw c.new-blocks.ensures.items (counted_start c.args.self.now c.none-sizes.result c.none-sizes.ensures.sizes); within = omega arith }

pub loop-blocks-preserved-in-Continue-1 : goal.loop-blocks-preserved-in-Continue-1
loop-blocks-preserved-in-Continue-1 c =
    record {
      counted = counted_behind _ c.loop-blocks.blocks.items c.pop.new.self.items c.go_behind.new.blocks.items c.in-Some.closed c.loop-blocks.sizes _ _ _ tt c.in-Some.ensures.items c.if-takes.ensures.tests c.in_ok-go_behind-in-Some.ensures.goes c.loop-blocks.invariant.counted;
      within = omega (arith, c.loop-blocks.invariant.within, c.if-takes.ensures.within, c.in_ok-go_behind-in-Some.ensures.within);
    }

pub returns-in_err-go_behind-in-Some-clause-reads : goal.returns-in_err-go_behind-in-Some-clause-reads
returns-in_err-go_behind-in-Some-clause-reads c =
    let p = err_from_is_err_and c.from_residual.result c.from_residual.ensures.1 in
    rw (p.1, p.2)
    (counted_behind_failed c.in_err-go_behind-in-Some.field-0.0 _ c.loop-blocks.blocks.items c.pop.new.self.items c.go_behind.new.blocks.items c.in-Some.closed c.loop-blocks.sizes _ _ _ c.in-Some.ensures.items c.if-takes.ensures.tests c.in_err-go_behind-in-Some.ensures.goes c.loop-blocks.invariant.counted)

pub returns-in-None-clause-reads : goal.returns-in-None-clause-reads
returns-in-None-clause-reads c =
    let empty : vec_len c.loop-blocks.blocks ≡ 0 = c.in-None.ensures.cases.0 in
    let none : c.loop-blocks.blocks.items ≡ [] = nil_from_length c.loop-blocks.blocks.items (omega (arith, empty, c.loop-blocks.blocks.ok)) in
    counted_end _ c.loop-blocks.blocks.items c.loop-blocks.sizes _ _ none c.if-takes.ensures.tests c.loop-blocks.invariant.counted

pub returns-in_err-opens-clause-reads : goal.returns-in_err-opens-clause-reads
returns-in_err-opens-clause-reads c =
    let p = err_from_is_err_and c.from_residual-in_err-opens.result c.from_residual-in_err-opens.ensures.1 in
    rw (p.1, p.2)
    (counted_failed_at c.in_err-opens.field-0.0 _ c.loop-blocks.blocks.items c.loop-blocks.sizes _ _ c.piece.new.self c.if-takes.ensures.tests c.in_err-opens.ensures.reads c.loop-blocks.invariant.counted)

pub loop-blocks-preserved : goal.loop-blocks-preserved
loop-blocks-preserved c =
    let read = c.in_ok-opens.ensures.reads in
    record {
      counted = counted_more_at _ c.loop-blocks.blocks.items c.counted.new.blocks.items c.loop-blocks.sizes c.in_ok-sizes.sizes c.in_ok-opens.opens read.0 _ _ _ c.if-takes.ensures.tests read.1 read.2 c.in_ok-sizes.ensures.blocks c.in_ok-sizes.ensures.sizes c.loop-blocks.invariant.counted;
      within = omega (arith, c.loop-blocks.invariant.within, c.if-takes.ensures.within, c.in_ok-opens.ensures.shorter);
    }
