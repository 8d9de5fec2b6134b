use Rattle.std.proofs.Common.{◌≡◌, ◌+◌, ◌*◌, take, FitsSigned, w64, refl, ap, ◌∙◌, arith, rules}
use Rattle.std.proofs.lemmas.Int.{to_z-of_z}
use Rattle.vmv_snapshot.specs.View.{stmt_of, block_of}
use Rattle.vmv_demands.specs.Needs.{bound_needs}
use Rattle.vmv_demands.specs.Back.{over_all, results}
use Rattle.vmv_demands.proofs.Sizes.{size, block_size, falls_first, falls_second, falls_repeat, falls_item}
use Rattle.vmv_demands.proofs.Leading.{leads_plain, leads_if, leads_repeat, leads_help, leads_help_behind, no_leads, next_leads, row_leads}
use Rattle.vmv_demands.proofs.Standing.{on_slice, turned_stands, no_stands, next_stands}
use Rattle.vmv_demands.proofs.leads.+leads.Goals as goal

pub leads_in-returns-then-callee-proc : goal.leads_in-returns-then-callee-proc
leads_in-returns-then-callee-proc t c =
    leads_help_behind c.args.snapshot.now.codes c.args.proc c.args.stmt.now _ c.in-Help.callee _ c.in-Help.is _ c.new-leads.ensures c.if-callee-proc.true

pub leads_in-leads_in_all-requires : goal.leads_in-leads_in_all-requires
leads_in-leads_in_all-requires t c =
    let d : 3 * size (stmt_of c.args.stmt.now) ≡ t = c.decreases in
    (falls_first t c.args.stmt.now _ _ _ _ c.in-If.is c.as_slice-in-If.ensures d, c.requires)

pub leads_in-leads_in_all-requires-in-If : goal.leads_in-leads_in_all-requires-in-If
leads_in-leads_in_all-requires-in-If t c =
    let d : 3 * size (stmt_of c.args.stmt.now) ≡ t = c.decreases in
    (falls_second t c.args.stmt.now _ _ _ _ c.in-If.is c.as_slice-in-If-2.ensures d, c.requires)

pub leads_in-leads_in_all-requires-in-Repeat : goal.leads_in-leads_in_all-requires-in-Repeat
leads_in-leads_in_all-requires-in-Repeat t c =
    let d : 3 * size (stmt_of c.args.stmt.now) ≡ t = c.decreases in
    (falls_repeat t c.args.stmt.now _ _ c.in-Repeat.is c.as_slice-in-Repeat.ensures d, c.requires)

pub leads_in-returns-in_ok-push_simple-in-Plain : goal.leads_in-returns-in_ok-push_simple-in-Plain
leads_in-returns-in_ok-push_simple-in-Plain t c =
    leads_plain _ _ c.args.proc c.args.stmt.now _ c.new-leads.ensures _ _ c.in-Plain.is c.in_ok-push_simple-in-Plain.ensures

pub leads_in-returns-in_ok-push_out_of_call-in-Help : goal.leads_in-returns-in_ok-push_out_of_call-in-Help
leads_in-returns-in_ok-push_out_of_call-in-Help t c =
    leads_help c.args.snapshot.now.codes c.args.proc c.args.stmt.now _ c.in-Help.callee _ c.in-Help.is _ c.new-leads.ensures _ _ _ c.as_slice.ensures c.if-callee-proc.false
    (c.as_slice-inside.ensures ∙ row_leads _ _ _ _ _ c.requires c.if-callee-proc.false)
    c.in_ok-push_out_of_call-in-Help.ensures

pub leads_in-returns-in_ok-append-in-If-2 : goal.leads_in-returns-in_ok-append-in-If-2
leads_in-returns-in_ok-append-in-If-2 t c =
    leads_if _ _ c.args.proc c.args.stmt.now _ c.new-leads.ensures _ _ _ _ _ c.in_ok-leads_in_all-in-If.field-0 c.in_ok-leads_in_all-in-If-2.field-0 c.append.new.self c.append-in-If.new.self c.in-If.is
    c.as_slice-in-If.ensures c.as_slice-in-If-2.ensures c.in_ok-leads_in_all-in-If.ensures c.in_ok-append-in-If.ensures c.in_ok-leads_in_all-in-If-2.ensures c.in_ok-append-in-If-2.ensures

pub leads_in-returns-in_ok-push_before-in-Repeat : goal.leads_in-returns-in_ok-push_before-in-Repeat
leads_in-returns-in_ok-push_before-in-Repeat t c =
    let fits : FitsSigned w64 c.in-Repeat.repeat.cap = search rules in
    leads_repeat _ _ c.args.proc c.args.stmt.now _ c.new-leads.ensures c.in-Repeat.repeat _ _ c.push.new.leads _ c.push_before.new.leads c.in-Repeat.is c.as_slice-in-Repeat.ensures
    (c.bound_needs.ensures ∙ ap (bound_needs c.in-Repeat.repeat.bound) (to_z-of_z w64 c.in-Repeat.repeat.cap fits)) c.in_ok-push-in-Repeat.ensures (c.as_slice-in-Repeat-3.ensures ∙ c.in_ok-inside-in-Repeat.ensures)
    (c.in_ok-push_before-in-Repeat.ensures _ (on_slice _ _ _ c.as_slice-in-Repeat-2.ensures (turned_stands _ _ c.args.stmt.now c.in-Repeat.repeat c.new-turned.ensures c.in-Repeat.is c.in_ok-lose-in-Repeat.ensures)))

pub walk-loop-i-init : goal.walk-loop-i-init
walk-loop-i-init t c = (no_leads _ _ _ c.args.block.now _ c.new-leads.ensures, no_stands _ c.args.block.now _ c.requires.none)

pub walk-leads_in-requires : goal.walk-leads_in-requires
walk-leads_in-requires t c =
    let d : 3 * block_size (block_of c.args.block.now) + 1 ≡ t = c.decreases in
    (falls_item t c.args.block.now c.loop-i.i _ c.loop-i-test.true c.index-block-i.is d, c.requires.rows)

pub walk-loop-i-preserved : goal.walk-loop-i-preserved
walk-loop-i-preserved t c =
    let r = results c.args.snapshot.now.codes c.args.proc.0 in
    let stands = c.loop-i.invariant.1 in (
      next_leads _ _ c.args.proc c.args.block.now _ c.loop-i.i _ _ _ _ c.loop-i-test.true c.index-block-i.is refl c.loop-i.invariant.0 (c.as_slice-in-loop-i.ensures ∙ c.in_ok-behind.ensures) (c.in_ok-push_before.ensures _ (on_slice _ _ _ c.as_slice.ensures stands)),
      next_stands r c.args.block.now c.loop-i.i _ _ c.loop-i-test.true c.index-block-i-in-loop-i.is (c.in_ok-step.ensures (over_all r (block_of (take c.loop-i.i c.args.block.now))) stands),
    )
