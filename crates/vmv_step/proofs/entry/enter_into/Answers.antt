use Rattle.std.proofs.Common.{arith, ap, ◌∙◌}
use Rattle.vmv_tree.specs.declared.tree.Program.{Program}
use Rattle.vmv_zone.specs.Zone.{vars_of}
use Rattle.vmv_step.proofs.Entering.{counted, enough, entered_is}
use Rattle.vmv_step.proofs.entry.enter_into.Goals as goal

pub overflow_cast-declared : goal.overflow_cast-declared
overflow_cast-declared c =
    let s = c.args.snapshot.now in
    let count = counted s c.args.proc.0 c.as_slice.result.now c.declared_of-declared.result (vars_of c.args.input.now) (c.as_slice.ensures ∙ ap (λ (p : Program). p.items) c.program.ensures.program) c.declared_of-declared.ensures c.requires.input in
    let room = enough s c.args.proc.0 c.code-code.result.now c.declared_of-declared.result (vars_of c.args.input.now) c.program.ensures.resolution c.code-code.ensures.resolved c.requires.proc count in
    let few = room.0 in let more = room.1 in omega arith

pub start-requires-clause-few : goal.start-requires-clause-few
start-requires-clause-few c =
    let s = c.args.snapshot.now in
    let count = counted s c.args.proc.0 c.as_slice.result.now c.declared_of-declared.result (vars_of c.args.input.now) (c.as_slice.ensures ∙ ap (λ (p : Program). p.items) c.program.ensures.program) c.declared_of-declared.ensures c.requires.input in
    (enough s c.args.proc.0 c.code-code.result.now c.declared_of-declared.result (vars_of c.args.input.now) c.program.ensures.resolution c.code-code.ensures.resolved c.requires.proc count).0

pub start-requires-clause-room : goal.start-requires-clause-room
start-requires-clause-room c =
    let s = c.args.snapshot.now in
    let count = counted s c.args.proc.0 c.as_slice.result.now c.declared_of-declared.result (vars_of c.args.input.now) (c.as_slice.ensures ∙ ap (λ (p : Program). p.items) c.program.ensures.program) c.declared_of-declared.ensures c.requires.input in
    (enough s c.args.proc.0 c.code-code.result.now c.declared_of-declared.result (vars_of c.args.input.now) c.program.ensures.resolution c.code-code.ensures.resolved c.requires.proc count).1

pub returns : goal.returns
returns c item code at there =
    let s = c.args.snapshot.now in
    let count = counted s c.args.proc.0 c.as_slice.result.now c.declared_of-declared.result (vars_of c.args.input.now) (c.as_slice.ensures ∙ ap (λ (p : Program). p.items) c.program.ensures.program) c.declared_of-declared.ensures c.requires.input in
    entered_is s c.args.proc.0 c.code-code.result.now code item c.declared_of-declared.result (vars_of c.args.input.now) c.args.input.now c.start.new.into count c.code-code.ensures.kept at there c.start.ensures
