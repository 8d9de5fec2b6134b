use Rattle.std.proofs.Common.{true, false, ◌≡◌, rules}
use Rattle.vmv_command.proofs.Reviewing.{reviewed_so}
use Rattle.vmv_command.proofs.review.review_programs.Goals as goal

pub returns-then-proved : goal.returns-then-proved
returns-then-proved g c =
    let base_is : c.in_ok-found.found.base ≡ c.args.base = search rules in
    reviewed_so c.args.proved true c.if-proved.true c.in_ok-found.found c.args.base c.args.revision.now base_is c.base-base.ensures.found c.program-revision.ensures.resolution c.review_with_proof.result
    c.review_with_proof.ensures

pub returns : goal.returns
returns g c =
    let base_is : c.in_ok-found.found.base ≡ c.args.base = search rules in
    reviewed_so c.args.proved false c.if-proved.false c.in_ok-found.found c.args.base c.args.revision.now base_is c.base-base.ensures.found c.program-revision.ensures.resolution c.report_output.result
    c.report_output.ensures
