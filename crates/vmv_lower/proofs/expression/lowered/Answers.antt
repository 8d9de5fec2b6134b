use Rattle.std.proofs.Common.{arith}
use Rattle.std.proofs.lemmas.List.{nil_from_length}
use Rattle.vmv_lower.proofs.Ends.{run_some, lowered_made, still_held}
use Rattle.vmv_lower.proofs.expression.lowered.Goals as goal

pub run-requires : goal.run-requires
run-requires c = run_some c.args.steps.now c.args.depth _ c.requires c.new-machine.ensures

pub unreachable-requires : goal.unreachable-requires
unreachable-requires c =
    still_held c.requires.0 c.args.depth _ c.args.steps.now _ c.run.new.self.held.items c.run.new.self.block c.requires.1 c.new-machine.ensures c.in_ok-run.ensures
    (nil_from_length c.run.new.self.held.items (omega (arith, c.in-None.ensures.cases.0, c.run.new.self.held.ok)))

pub returns : goal.returns
returns c = λ e is. lowered_made e c.args.depth _ c.args.steps.now _ c.run.new.self.held.items c.pop.new.self.items c.in-Some.last c.run.new.self.block is c.new-machine.ensures c.in_ok-run.ensures c.in-Some.ensures.items
