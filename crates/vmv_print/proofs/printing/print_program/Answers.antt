use Rattle.std.proofs.Common.{ap, ◌∙◌}
use Rattle.vmv_tree.specs.View.{items_of, program_of}
use Rattle.vmv_print.proofs.Printed.{counted_read}
use Rattle.vmv_print.proofs.printing.print_program.Goals as goal

pub returns-clause-written : goal.returns-clause-written
returns-clause-written c =
    counted_read c.from_vec.result c.new-out.result.items (program_of c.args.program.now) (items_of c.as_slice.result.now) c.new-out.ensures.items (ap items_of c.as_slice.ensures) (c.from_vec.ensures ∙ c.in_ok-push_items.ensures.text) c.in_ok-push_items.ensures.written
