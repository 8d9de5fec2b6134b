use Rattle.vmv_snapshot.specs.Resolution.{tree_of}
use Rattle.vmv_print.proofs.Printed.{printed_read}
use Rattle.vmv_print.proofs.Saying.{text_written}
use Rattle.vmv_print.proofs.printing.print.Goals as goal

pub returns-clause-read_again : goal.returns-clause-read_again
returns-clause-read_again c = λ bytes text.
    printed_read c.print_program.result (tree_of c.args.snapshot.now) (text_written bytes (tree_of c.args.snapshot.now) text) (rw c.program.ensures.program at c.print_program.ensures.canonical)
