use Rattle.std.proofs.Common.{◌∙◌, ap, refl, arith, length, take, drop, ◌≡◌, ◌-◌, ◌≤◌}
use Rattle.std.proofs.lemmas.List.{length-reverse}
use Rattle.vmv_lower.specs.Machine.{state_of}
use Rattle.vmv_lower.proofs.Stacks.{on_ok, ask_made, asked_within, ranged}
use Rattle.vmv_lower.proofs.machine.Machine.ask.Goals as goal

pub returns : goal.returns
returns c =
    let items = c.args.self.now.held.items in
    let before = state_of (record c.args.self.now { held = c.truncate.new.self }) in
    let within : c.args.count ≤ length items = omega (arith, asked_within c.args.to c.args.callee c.args.count (state_of c.args.self.now) c.requires, length-reverse items) in
    let xs = c.as_slice.result.now in
    let at = c.len.result - c.args.count in
    let here : at ≡ length items - c.args.count = omega (arith, c.len.ensures, c.as_slice.ensures.len, ap length c.as_slice.ensures.value) in
    on_ok c.produce.result _ _
    (λ made. ask_made c.args.to c.args.callee c.in_ok-to.to c.args.count items c.truncate.new.self.items (take (length xs - at) (drop at xs)) c.in_ok-args.args c.first_depth-depth.result (state_of c.args.self.now) before (state_of c.produce.new.self) refl within
    (ranged items xs at (length items - c.args.count) c.as_slice.ensures.value here) (c.truncate.ensures.items ∙ ap (λ k. take k items) here) c.first_depth-depth.ensures c.in_ok-args.ensures c.in_ok-to.ensures refl made)
    c.produce.ensures
