use Rattle.vmv_command.proofs.command.output_of.Goals as goal

pub returns-in-Review-clause-output : goal.returns-in-Review-clause-output
returns-in-Review-clause-output g c = rw c.in-Review.is c.review_files.ensures.output

pub returns-in-Recheck-clause-output : goal.returns-in-Recheck-clause-output
returns-in-Recheck-clause-output g c = rw c.in-Recheck.is c.recheck_files.ensures.output

pub returns-in_ok-sample_output-in-Sample-clause-output : goal.returns-in_ok-sample_output-in-Sample-clause-output
returns-in_ok-sample_output-in-Sample-clause-output g c = rw c.in-Sample.is c.in_ok-sample_output-in-Sample.ensures
