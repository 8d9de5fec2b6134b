use Rattle.std.proofs.Common.{arith, ◌≡◌, ◌∙◌, List, length, sym, subst, ap}
use Rattle.vmv_snapshot.specs.declared.code.ProcId.{ProcId}
use Rattle.vmv_snapshot.specs.declared.code.CodeStmt.{CodeStmt}
use Rattle.vmv_snapshot.specs.View.{block_of, code_of}
use Rattle.vmv_pass.specs.Callees.{block_callees}
use Rattle.vmv_check.proofs.Lists.{within}
use Rattle.vmv_forward.specs.Path.{Path}
use Rattle.vmv_forward.proofs.Growing.{Growing, grow_start, grow_made, grow_end}
use Rattle.vmv_forward.proofs.Fresh.{callee_lower, proc_ready}
use Rattle.vmv_forward.proofs.grow.+grow.Goals as goal

abbrev none : ProcId
none = record { 0 = 0 }

pub loop-c-init : goal.loop-c-init
loop-c-init t c =
    subst (λ (l : List Path). Growing c.args.snapshot.now c.args.proc.0 c.args.caller c.args.place c.args.instances.now.items l 0 c.deref-callee-items.result.now) (sym c.in_ok-push.ensures.items)
    (grow_start c.args.snapshot.now c.args.proc c.args.caller c.args.place c.args.instances.now.items c.in_ok-new_instance.field-0 c.deref-callee-items.result.now c.in_ok-new_instance.ensures)

pub index_mut-requires : goal.index_mut-requires
index_mut-requires t c =
    let inside = within c.loop-c.instances.items (length c.args.instances.now.items) c.loop-c.invariant.first c.loop-c.invariant.first_is in
    let a = c.args.instances.now.ok.0 in
    let b = c.loop-c.instances.ok.0 in
    let n = c.len-number.ensures in
    omega (arith, inside, a, b, n)

pub grow-requires : goal.grow-requires
grow-requires t c =
    let same : c.deref-callee-items.result.now ≡ block_callees (code_of c.code-code.result.now).block =
    c.deref-callee-items.ensures.value ∙ (c.in_ok-callees.ensures ∙ ap (λ (l : List CodeStmt). block_callees (block_of l)) c.as_slice.ensures) in
    let lower = callee_lower c.args.snapshot.now c.args.proc.0 c.code-code.result.now c.deref-callee-items.result.now c.loop-c.c none c.program-program.ensures.resolution c.code-code.ensures.kept same c.loop-c-test.true in
    let d : c.args.proc.0 ≡ t = c.decreases in
    let r = c.requires in
    (omega (arith, lower, d), omega (arith, lower, r))

pub loop-c-preserved : goal.loop-c-preserved
loop-c-preserved t c =
    let a = c.args.instances.now.ok.0 in
    let b = c.loop-c.instances.ok.0 in
    let n = c.len-number.ensures in
    let m = c.len-next.ensures in
    grow_made c.args.snapshot.now c.args.proc.0 c.args.caller c.args.place c.len-number.result c.len-next.result c.args.instances.now.items c.loop-c.instances.items c.grow.new.instances.items c.loop-c.c c.deref-callee-items.result.now none
    c.index_mut.result.now c.add_callee.new.self (omega (arith, a, n)) (omega (arith, b, m)) c.index_mut.ensures.value c.in_ok-add_callee.ensures c.loop-c-test.true c.loop-c.invariant c.in_ok-grow.ensures

pub returns : goal.returns
returns t c =
    let same : c.deref-callee-items.result.now ≡ block_callees (code_of c.code-code.result.now).block =
    c.deref-callee-items.ensures.value ∙ (c.in_ok-callees.ensures ∙ ap (λ (l : List CodeStmt). block_callees (block_of l)) c.as_slice.ensures) in
    let p = proc_ready c.args.snapshot.now c.args.proc.0 c.code-code.result.now c.program-program.ensures.resolution c.requires c.code-code.ensures.kept in
    let low = c.loop-c-test.false in
    let high = c.loop-c.auto.c-end in
    grow_end c.args.snapshot.now c.args.proc.0 c.args.caller c.args.place c.args.instances.now.items c.loop-c.instances.items c.loop-c.c c.deref-callee-items.result.now p.0 c.code-code.result.now c.program-program.ensures.resolution p.1 same
    (omega (arith, low, high)) c.loop-c.invariant
