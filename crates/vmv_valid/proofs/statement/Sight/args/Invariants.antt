use Rattle.std.proofs.Common.{◌≡◌, ◌+◌, ◌≤◌, drop}
use Rattle.vmv_valid.specs.Walks.{walk_args}
use Rattle.vmv_valid.proofs.statement.Sight.args.Given as goal

-- the walk over what is left is that over all
abbrev pub invariant-loop-arg : goal.invariant-loop-arg
invariant-loop-arg l = record {
  told : walk_args l.self.names.now l.self.indexes.now l.next (drop l.arg-index l.args) ≡ walk_args l.self.names.now l.self.indexes.now l.at l.args;
  room : l.next ≤ l.at + l.arg-index;
}
