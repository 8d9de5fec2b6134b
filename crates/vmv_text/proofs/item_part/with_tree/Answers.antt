use Rattle.vmv_text.proofs.Counting.{told_outside, told_helper, told_entry}
use Rattle.vmv_text.proofs.item_part.with_tree.Goals as goal

pub returns-in-Outside : goal.returns-in-Outside
returns-in-Outside c =
    λ items h. told_outside c.args.counts.now c.sum.result items c.args.item.now c.in-Outside.name c.in-Outside.arity c.in-Outside.is c.sum.ensures h

pub returns-in-Helper : goal.returns-in-Helper
returns-in-Helper c =
    λ items h. told_helper c.args.counts.now c.with_procedure.result items c.args.item.now c.in-Helper.name c.in-Helper.params c.in-Helper.body c.in-Helper.is c.with_procedure.ensures h

pub returns-in-Entry : goal.returns-in-Entry
returns-in-Entry c =
    λ items h. told_entry c.args.counts.now c.with_procedure-in-Entry.result items c.args.item.now c.in-Entry.name c.in-Entry.params c.in-Entry.body c.in-Entry.is c.with_procedure-in-Entry.ensures h
