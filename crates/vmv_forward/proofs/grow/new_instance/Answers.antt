use Rattle.vmv_forward.proofs.Fresh.{few_statements, few_vars, procs_called, new_is}
use Rattle.vmv_forward.proofs.grow.new_instance.Goals as goal

pub block_loops-loops-requires : goal.block_loops-loops-requires
block_loops-loops-requires c = few_statements c.args.snapshot.now c.args.proc.0 c.code-code.result.now c.as_slice.result.now c.program-program.ensures.resolution c.requires.proc c.code-code.ensures.kept c.as_slice.ensures

pub bottom-requires : goal.bottom-requires
bottom-requires c = few_vars c.args.snapshot.now c.args.proc.0 c.code-code.result.now c.program-program.ensures.resolution c.requires.proc c.code-code.ensures.kept

pub bottom_inputs-requires : goal.bottom_inputs-requires
bottom_inputs-requires c = procs_called c.args.snapshot.now c.args.proc.0 c.code-code.result.now c.args.callees.now c.program-program.ensures.resolution c.requires.proc c.code-code.ensures.kept c.requires.callees

pub returns : goal.returns
returns c =
    new_is c.args.snapshot.now c.args.proc c.code-code.result.now c.args.caller c.args.place c.block_loops-loops.result c.site_count-sites.result c.args.callees.now c.as_slice.result.now c.bottom.result c.nothing.result
    c.in_ok-with_capacity.field-0.items c.in_ok-vec.field-0.items c.in_ok-bottom_inputs.field-0.items c.in_ok-vec-2.field-0.items c.in_ok-vec-3.field-0.items
    c.code-code.ensures.kept c.as_slice.ensures c.block_loops-loops.ensures c.bottom.ensures.vars c.bottom.ensures.bottom c.nothing.ensures c.site_count-sites.ensures c.requires.callees c.in_ok-with_capacity.ensures.items
    (c.in_ok-vec.ensures.items_if_clones_equal (λ y e. e)) c.in_ok-bottom_inputs.ensures (c.in_ok-vec-2.ensures.items_if_clones_equal (λ y e. e)) (c.in_ok-vec-3.ensures.items_if_clones_equal (λ y e. e))
